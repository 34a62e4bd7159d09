-- The loop over the bytes that stand for themselves.
use Rattle.std.proofs.Common.{◌≡◌, ◌≤◌, ◌+◌, ◌-◌, drop, length, false}
use Rattle.sgf_rules.specs.Tokens.{value_len}
use Rattle.sgf_read.proofs.values.past_plain.Given as goal

-- the value is longer by the bytes that were passed
abbrev pub invariant-loop-at : goal.invariant-loop-at
invariant-loop-at l = record {
  low : l.fn.from ≤ l.at;
  high : l.at ≤ length l.bytes;
  rest : value_len false (drop l.at l.bytes) + l.at ≡ value_len false (drop l.fn.from l.bytes) + l.fn.from;
}

-- the bytes that are left
abbrev pub decreases-loop-at : goal.decreases-loop-at
decreases-loop-at l = length l.bytes - l.at
