-- The loop over the open operators.
use Rattle.std.proofs.Common.{◌≡◌, vec_len}
use Rattle.cons_parse.specs.Trees.{tree_of}
use Rattle.cons_parse.specs.Building.{trees, joined_in, stack_of}
use Rattle.cons_parse.proofs.build.join.Given as goal

-- what is left joins to the same as the whole
abbrev pub invariant-sides : goal.invariant-sides
invariant-sides l =
    joined_in trees l.level (stack_of l.frames.items) (tree_of l.e)
    ≡ joined_in trees l.level (stack_of l.fn.frames.items) (tree_of l.fn.operand)

-- what is open
abbrev pub decreases-sides : goal.decreases-sides
decreases-sides l = vec_len l.frames
