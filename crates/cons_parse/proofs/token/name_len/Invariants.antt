-- The loop over the bytes of a name.
use Rattle.std.proofs.Common.{◌≡◌, ◌+◌, drop}
use Rattle.std.specs.List.{prefix_len}
use Rattle.cons_parse.specs.Tokens.{is_name_byte}
use Rattle.cons_parse.proofs.token.name_len.Given as goal

-- all bytes so far may stand in a name
abbrev pub invariant-loop-i : goal.invariant-loop-i
invariant-loop-i l = prefix_len is_name_byte (drop l.i l.bytes) + l.i ≡ prefix_len is_name_byte l.bytes
