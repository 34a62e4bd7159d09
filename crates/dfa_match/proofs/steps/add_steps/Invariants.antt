use Rattle.std.proofs.Common.{◌≡◌, ◌+◌, ◌<◌}
use Rattle.spiral.specs.Spiral.{offset_count, offset_at}
use Rattle.dfa_match.specs.Steps.{AreStepsBehind}
use Rattle.dfa_match.proofs.steps.add_steps.Given as goal

-- the next offset is the one with the index, and the steps of those before were added
abbrev pub invariant-offsets : goal.invariant-offsets
invariant-offsets l = record {
  by : l.index < offset_count → l.by ≡ offset_at l.index;
  added : AreStepsBehind l.t l.index l.fn.steps.items l.steps.items;
}

-- behind the steps of all offsets stand as many more
abbrev pub invariant-past : goal.invariant-past
invariant-past l = record {
  added : AreStepsBehind l.fn.t (offset_count + l.more) l.fn.steps.items l.steps.items;
}
