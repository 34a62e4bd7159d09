-- What was gathered and what the rest splits into are the fields of the line, and no more of them are gathered than are
-- looked at.
use Rattle.std.proofs.Common.{◌≡◌, ◌≤◌, ◌++◌, length, map, vec_len}
use Rattle.db_lex.specs.Lines.{trimmed}
use Rattle.db_rules.specs.Colon.{fields_of as all_fields, split_at_commas}
use Rattle.db_entry.specs.Says.{most_fields}
use Rattle.db_entry.proofs.colon.first_fields.Given as goal

-- the fields gathered and those that the rest splits into are the fields of the line
abbrev pub invariant-loop-rest : goal.invariant-loop-rest
invariant-loop-rest l =
    (length l.rest ≤ length l.fn.line)
    × (vec_len l.fields ≤ most_fields)
    × (vec_len l.fields ≡ length l.fields.items)
    × (map (λ f. f.now) l.fields.items ++ map trimmed (split_at_commas 0 l.rest) ≡ all_fields l.fn.line)

-- the bytes of the rest
abbrev pub decreases-loop-rest : goal.decreases-loop-rest
decreases-loop-rest l = length l.rest
