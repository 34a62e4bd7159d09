-- The loop over the signs before an operand.
use Rattle.std.proofs.Common.{◌≡◌, vec_len}
use Rattle.cons_parse.specs.Trees.{tree_of}
use Rattle.cons_parse.specs.Building.{trees, settled_in, stack_of}
use Rattle.cons_parse.proofs.build.settle.Given as goal

-- what is left settles to the same as the whole
abbrev pub invariant-signs : goal.invariant-signs
invariant-signs l =
    settled_in trees (stack_of l.frames.items) (tree_of l.e)
    ≡ settled_in trees (stack_of l.fn.frames.items) (tree_of l.fn.operand)

-- what is open
abbrev pub decreases-signs : goal.decreases-signs
decreases-signs l = vec_len l.frames
