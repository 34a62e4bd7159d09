-- How large the values of expressions are.
use Rattle.std.proofs.Common.{ℕ, ◌+◌, ◌≤◌, Bool, true, false, not, ◌&&◌, ◌||◌, ℤ, neg_ℤ, arith}
use Rattle.std.proofs.lemmas.Int.{ints}
use Rattle.std.specs.Prelude.{int_lt, int_le}
use Rattle.std.specs.Ordering.{int_eq}
use Rattle.pat_types.specs.declared.expr.Op.{Op}
use Rattle.pat_types.specs.declared.expr.Op.TheVariants.{Or, And, Eq, Ne, Lt, Le, Gt, Ge, Add, Sub}
use Rattle.cons_eval.specs.Bounds.{IsWithin}
use Rattle.cons_eval.specs.Values.{worth, is_so, joined_value}

-- a test is worth at most 1
pub worth_within : (t : Bool) (n : ℕ) → 1 ≤ n → IsWithin n (worth t)
worth_within true n h = record { low = omega (arith, ints); high = omega (arith, ints) }
worth_within false n h = record { low = omega (arith, ints); high = omega (arith, ints) }

-- a bound may be loosened
pub within_more : (m n : ℕ) (x : ℤ) → IsWithin m x → m ≤ n → IsWithin n x
within_more m n x h l = grind (arith, ints)

-- a value and its opposite are equally large
pub neg_within : (n : ℕ) (x : ℤ) → IsWithin n x → IsWithin n (neg_ℤ x)
neg_within n x h = grind (arith, ints)

-- what an operator makes of two values is at most as large as both together
pub joined_within : (op : Op) (m n : ℕ) (x y : ℤ) → 1 ≤ m → IsWithin m x → IsWithin n y
    → IsWithin (m + n) (joined_value op x y)
joined_within Or m n x y l h k = worth_within (is_so x || is_so y) (m + n) (omega arith)
joined_within And m n x y l h k = worth_within (is_so x && is_so y) (m + n) (omega arith)
joined_within Eq m n x y l h k = worth_within (int_eq x y) (m + n) (omega arith)
joined_within Ne m n x y l h k = worth_within (not (int_eq x y)) (m + n) (omega arith)
joined_within Lt m n x y l h k = worth_within (int_lt x y) (m + n) (omega arith)
joined_within Le m n x y l h k = worth_within (int_le x y) (m + n) (omega arith)
joined_within Gt m n x y l h k = worth_within (int_lt y x) (m + n) (omega arith)
joined_within Ge m n x y l h k = worth_within (int_le y x) (m + n) (omega arith)
joined_within Add m n x y l h k = grind (arith, ints)
joined_within Sub m n x y l h k = grind (arith, ints)
