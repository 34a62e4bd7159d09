-- The loop over the values of a node.
use Rattle.std.proofs.Common.{◌≡◌, ◌≤◌, ◌-◌, length}
use Rattle.sgf_rules.specs.Game.{after_uses}
use Rattle.sgf_read.specs.Reads.{tokens_from, uses_from, uses_at}
use Rattle.sgf_read.proofs.game.play_all.Given as goal

-- the rest leads to the same as all values
abbrev pub invariant-uses : goal.invariant-uses
invariant-uses l = record {
  within : l.at ≤ length l.text;
  rest : after_uses l.pos (uses_from l.meaning (tokens_from l.text l.at)) ≡ after_uses l.fn.pos (uses_at l.text l.node);
}

-- the bytes that are left
abbrev pub decreases-uses : goal.decreases-uses
decreases-uses l = length l.text - l.at
