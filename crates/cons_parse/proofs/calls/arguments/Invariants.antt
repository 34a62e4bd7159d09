-- The loop over the arguments of a call.
use Rattle.std.proofs.Common.{◌≡◌, ◌≤◌, ◌-◌, length, drop}
use Rattle.cons_parse.specs.Calls.{arguments_at, listed_at}
use Rattle.cons_parse.proofs.Fronts.{with_args}
use Rattle.cons_parse.proofs.calls.arguments.Given as goal

-- the arguments so far and those from here on are all
abbrev pub invariant-loop-at : goal.invariant-loop-at
invariant-loop-at l = record {
  within : l.at ≤ length l.tokens;
  rest : with_args l.args l.at (listed_at (drop l.at l.tokens)) ≡ arguments_at l.tokens;
}

-- the tokens that are left
abbrev pub decreases-loop-at : goal.decreases-loop-at
decreases-loop-at l = length l.tokens - l.at
