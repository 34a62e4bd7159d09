-- What is read of a colon line.
use Rattle.std.specs.Prelude.{◌≡◌, ℕ, List, map, unwrap_or}
use Rattle.pat_types.specs.declared.mark.Mark.TheVariants.{Oh}
use Rattle.db_rules.specs.Colon.{fields_of, mark_of, class_field, class_letters, further, item_of}
use Rattle.db_entry.specs.declared.colon.ColonLine.{ColonLine}

-- the most fields that are read: a mark, class letters, 16 items, and one more, which is one too many
abbrev pub most_fields : ℕ
most_fields = 19

-- c is what the colon line says: its mark, its class letters, and its further fields
pub record Says (c : ColonLine) (line : List ℕ) : Type 0 where
  pub mark : c.mark ≡ unwrap_or (mark_of (fields_of line)) Oh
  pub classes : c.classes ≡ class_letters (class_field (fields_of line))
  pub items : c.items ≡ map item_of (further (fields_of line))
