-- What holds of an expression and is kept by its parts.
use Rattle.std.proofs.Common.{◌≡◌, ℕ, ◌+◌, ◌<◌, ◌≤◌, Bool, true, false, ◌&&◌, Box, Global, refl, arith}
use Rattle.pat_types.specs.declared.expr.Op.{Op}
use Rattle.pat_types.specs.declared.expr.Expr.{Expr, Num, Call, Not', Neg', Bin', Not, Neg, Bin}
use Rattle.pat_types.specs.Labels.{can_evaluate, leaf_count}
use Rattle.cons_eval.specs.Bounds.{IsConstraint}
use Rattle.cons_eval.specs.Meanings.{Meanings, are_placed}

-- an expression has a leaf
pub leaf_some : (e : Expr) → 1 ≤ leaf_count e
unfolding leaf_count
leaf_some (Num n) = omega arith
leaf_some (Call f args) = omega arith
leaf_some (Not' p e) = leaf_some e
leaf_some (Neg' p e) = leaf_some e
leaf_some (Bin' op p a q b) = let h = leaf_some a in omega arith

-- the first of two tests that pass
pub first_of : (a b : Bool) → (a && b) ≡ true → a ≡ true
first_of true b h = refl
first_of false b h = cc

-- the second of two tests that pass
pub second_of : (a b : Bool) → (a && b) ≡ true → b ≡ true
second_of true b h = h
second_of false b h = cc

-- how many numbers, calls, signs and operators there are
pub nodes : Expr → ℕ
nodes (Num n) = 1
nodes (Call f args) = 1
nodes (Not' p e) = 1 + nodes e
nodes (Neg' p e) = 1 + nodes e
nodes (Bin' op p a q b) = 1 + nodes a + nodes b

-- an expression has a node
nodes_some : (e : Expr) → 1 ≤ nodes e
unfolding nodes
nodes_some (Num n) = omega arith
nodes_some (Call f args) = omega arith
nodes_some (Not' p e) = omega arith
nodes_some (Neg' p e) = omega arith
nodes_some (Bin' op p a q b) = omega arith

-- a part is smaller, and what a pattern may keep and where the points lie, of an expression, holds of a part too
pub record IsPartOf (part whole : Expr) : Type 0 where
  pub constraint : IsConstraint whole → IsConstraint part
  pub placed : (m : Meanings) → are_placed m whole ≡ true → are_placed m part ≡ true
  pub smaller : nodes part < nodes whole

-- an expression that is a part of another is one under every name of the two
part_along : (part whole p w : Expr) → part ≡ p → whole ≡ w → IsPartOf p w → IsPartOf part whole
part_along part whole p w e f h = grind arith

-- what stands behind a `!`
pub part_of_not : (part whole : Expr) (b : Box Expr Global) → part ≡ b.value → whole ≡ Not b → IsPartOf part whole
unfolding can_evaluate leaf_count are_placed nodes
part_of_not part whole b e f = grind (arith, part_along)

-- what stands behind a `-`
pub part_of_neg : (part whole : Expr) (b : Box Expr Global) → part ≡ b.value → whole ≡ Neg b → IsPartOf part whole
unfolding can_evaluate leaf_count are_placed nodes
part_of_neg part whole b e f = grind (arith, part_along)

-- the left side of an operator
pub left_part : (part whole : Expr) (op : Op) (a b : Box Expr Global) → part ≡ a.value → whole ≡ Bin op a b
    → IsPartOf part whole
unfolding can_evaluate leaf_count are_placed nodes
left_part part whole op a b e f = grind (arith, part_along, first_of, nodes_some)

-- the right side of an operator
pub right_part : (part whole : Expr) (op : Op) (a b : Box Expr Global) → part ≡ b.value → whole ≡ Bin op a b
    → IsPartOf part whole
unfolding can_evaluate leaf_count are_placed nodes
right_part part whole op a b e f = grind (arith, part_along, second_of, nodes_some)
