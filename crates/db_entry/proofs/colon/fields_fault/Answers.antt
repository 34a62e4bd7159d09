use Rattle.std.proofs.Common.{refl}
use Rattle.db_rules.specs.Colon.{fields_fault}
use Rattle.db_entry.proofs.colon.fields_fault.Goals as goal

-- each test is one of the definition
pub returns : goal.returns
unfolding fields_fault
returns c = λ words s.
    rw (
      c.first_of.ensures,
      c.has_no_row.ensures,
      c.is_not_one.ensures,
      c.star_count-stars.ensures,
      c.is_no_mark.ensures,
      c.are_bad_classes.ensures,
      c.are_bad_items.ensures,
      c.is_unknown_helper.ensures,
    )
    (rw (c.as_slice.ensures, s.rows, s.letters) refl)
