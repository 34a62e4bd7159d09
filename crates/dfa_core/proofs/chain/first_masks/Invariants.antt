use Rattle.std.proofs.Common.{◌≡◌, ◌<◌}
use Rattle.spiral.specs.Spiral.{offset_at, offset_count}
use Rattle.dfa_core.specs.Masks.{AreMasks}
use Rattle.dfa_core.proofs.chain.first_masks.Given as goal

-- the masks so far are those of the indices before, and the offset is the one with the index
abbrev pub invariant-loop-i : goal.invariant-loop-i
invariant-loop-i l = record {
  masks : AreMasks l.p l.i l.masks.items;
  offset : l.i < offset_count → l.by ≡ offset_at l.i;
}
