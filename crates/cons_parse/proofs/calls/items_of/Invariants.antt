-- The loop over tokens.
use Rattle.std.proofs.Common.{◌≡◌, ◌≤◌, ◌-◌, length, drop}
use Rattle.cons_parse.specs.Calls.{items_after}
use Rattle.cons_parse.proofs.Fronts.{with_front}
use Rattle.cons_parse.proofs.calls.items_of.Given as goal

-- the items so far and those from here on are all
abbrev pub invariant-loop-at : goal.invariant-loop-at
invariant-loop-at l = record {
  within : l.at ≤ length l.tokens;
  rest : with_front l.items.items (items_after 0 (drop l.at l.tokens)) ≡ items_after 0 l.tokens;
}

-- the tokens that are left
abbrev pub decreases-loop-at : goal.decreases-loop-at
decreases-loop-at l = length l.tokens - l.at
