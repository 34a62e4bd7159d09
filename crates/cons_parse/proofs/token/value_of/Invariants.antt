-- The loop over digits.
use Rattle.std.proofs.Common.{◌≡◌, ◌<◌, ◌^◌, drop}
use Rattle.cons_parse.specs.Tokens.{value_of, value_after}
use Rattle.cons_parse.proofs.token.value_of.Given as goal

-- the value so far has no more digits than were read
abbrev pub invariant-loop-d : goal.invariant-loop-d
invariant-loop-d l = record {
  below : l.n < 10 ^ l.d-index;
  rest : value_after l.n (drop l.d-index l.digits) ≡ value_of l.digits;
}
