-- How large the values of expressions are: each number and each call is worth at most 999,999, and an operator gives 1,
-- 0, or the sum or the difference of two values.
use Rattle.std.specs.Prelude.{ℕ, ◌≤◌, List, IsTrue, ℤ, pos, neg_ℤ, ◌≤ℤ◌}
use Rattle.pat_types.specs.declared.pattern.LabelAt.{LabelAt}
use Rattle.pat_types.specs.declared.expr.Expr.{Expr}
use Rattle.pat_types.specs.Labels.{can_evaluate, leaf_count}

-- the greatest number that an expression may have
abbrev pub most : ℕ
most = 999999

-- the most numbers and calls that an expression may have
abbrev pub most_leaves : ℕ
most_leaves = 4096

-- the value lies between -n and n
pub record IsWithin (n : ℕ) (x : ℤ) : Type 0 where
  pub low : neg_ℤ (pos n) ≤ℤ x
  pub high : x ≤ℤ pos n

-- the expression is one that a pattern with some labels may keep, or it is a part of one
pub record IsConstraint (e : Expr) : Type 0 where
  pub labels : List LabelAt
  pub can : IsTrue (can_evaluate labels e)
  pub few : leaf_count e ≤ most_leaves
