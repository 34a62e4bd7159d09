-- The loop over digits.
use Rattle.std.proofs.Common.{◌≡◌, ◌+◌, drop}
use Rattle.std.specs.List.{prefix_len}
use Rattle.cons_parse.specs.Tokens.{is_digit}
use Rattle.cons_parse.proofs.token.digits_len.Given as goal

-- all bytes so far are digits
abbrev pub invariant-loop-i : goal.invariant-loop-i
invariant-loop-i l = prefix_len is_digit (drop l.i l.bytes) + l.i ≡ prefix_len is_digit l.bytes
