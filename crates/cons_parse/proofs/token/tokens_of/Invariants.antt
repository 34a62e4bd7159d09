-- The loop over bytes.
use Rattle.std.proofs.Common.{◌≡◌, ◌≤◌, ◌-◌, length, drop}
use Rattle.cons_parse.specs.Tokens.{tokens_after}
use Rattle.cons_parse.proofs.Fronts.{with_front}
use Rattle.cons_parse.proofs.token.tokens_of.Given as goal

-- the tokens so far and those from here on are all
abbrev pub invariant-loop-at : goal.invariant-loop-at
invariant-loop-at l = record {
  within : l.at ≤ length l.text;
  rest : with_front l.tokens.items (tokens_after 0 (drop l.at l.text)) ≡ tokens_after 0 l.text;
}

-- the bytes that are left
abbrev pub decreases-loop-at : goal.decreases-loop-at
decreases-loop-at l = length l.text - l.at
