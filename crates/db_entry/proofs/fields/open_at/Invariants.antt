use Rattle.std.proofs.Common.{◌≡◌, ◌+◌, drop}
use Rattle.std.specs.Prelude.{◌==◌}
use Rattle.std.specs.List.{position_or_len}
use Rattle.db_rules.specs.Colon.{open_paren}
use Rattle.db_entry.proofs.fields.open_at.Given as goal

-- no byte so far is an opening parenthesis: the first one from here on is the first of the field
abbrev pub invariant-loop-i : goal.invariant-loop-i
invariant-loop-i l =
    position_or_len (λ b. b == open_paren) (drop l.i l.field) + l.i ≡ position_or_len (λ b. b == open_paren) l.field
