-- The loop over the tokens.
use Rattle.std.proofs.Common.{◌≤◌, ◌-◌, length}
use Rattle.problem_records.proofs.pieces.pieces_from.Given as goal

-- the walk is in the text
abbrev pub invariant-tokens : goal.invariant-tokens
invariant-tokens l = record {
  within : l.at ≤ length l.text;
}

-- the bytes that are left
abbrev pub decreases-tokens : goal.decreases-tokens
decreases-tokens l = length l.text - l.at
