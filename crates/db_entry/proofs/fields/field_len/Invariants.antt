use Rattle.std.proofs.Common.{◌≡◌, ◌≤◌, take, drop}
use Rattle.db_rules.specs.Colon.{split_at_commas}
use Rattle.db_entry.proofs.FieldLemmas.{with_fronts}
use Rattle.db_entry.proofs.fields.field_len.Given as goal

-- the bytes read so far belong to the first field, and the rest splits on at the depth that they leave
abbrev pub invariant-loop-i : goal.invariant-loop-i
invariant-loop-i l =
    (l.depth ≤ l.i)
    × (split_at_commas 0 l.text ≡ with_fronts (take l.i l.text) (split_at_commas l.depth (drop l.i l.text)))
