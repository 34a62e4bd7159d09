-- Which expressions ask for a reading. A side of `&&` or `||` that is not needed asks for none.
use Rattle.std.specs.Prelude.{Bool, true, false, ◌&&◌, ◌||◌, not}
use Rattle.pat_types.specs.declared.expr.Op.{Op}
use Rattle.pat_types.specs.declared.expr.Op.TheVariants.{Or, And, Eq, Ne, Lt, Le, Gt, Ge, Add, Sub}
use Rattle.pat_types.specs.declared.expr.Function.{Function}
use Rattle.pat_types.specs.declared.expr.Function.TheVariants.{OfPoint, OfPair, OfPoints, OfMoves}
use Rattle.pat_types.specs.declared.expr.PointFunction.{PointFunction}
use Rattle.pat_types.specs.declared.expr.PointFunction.TheVariants.{Attack, Defend, SafeXmove, SafeOmove}
use Rattle.pat_types.specs.declared.expr.PairFunction.{PairFunction}
use Rattle.pat_types.specs.declared.expr.PairFunction.TheVariants.{DoesAttack, DoesDefend, OdefendAgainst}
use Rattle.pat_types.specs.declared.expr.PairFunction.TheVariants.{XdefendAgainst}
use Rattle.pat_types.specs.declared.expr.Expr.{Expr, Num, Call, Not', Neg', Bin'}
use Rattle.std.specs.Prelude.{ℤ}
use Rattle.cons_eval.specs.Meanings.{Meanings}
use Rattle.cons_eval.specs.Values.{is_so, value_of}

-- the value of the function of one point may rest on a reading
abbrev pub is_point_reading : PointFunction → Bool
is_point_reading Attack = true
is_point_reading Defend = true
is_point_reading SafeXmove = true
is_point_reading SafeOmove = true
is_point_reading _ = false

-- the value of the function of two points may rest on a reading
abbrev pub is_pair_reading : PairFunction → Bool
is_pair_reading DoesAttack = true
is_pair_reading DoesDefend = true
is_pair_reading OdefendAgainst = true
is_pair_reading XdefendAgainst = true
is_pair_reading _ = false

-- the value of the function may rest on a reading: it may for every function of moves, and for no function of points
abbrev pub is_reading : Function → Bool
is_reading (OfPoint f) = is_point_reading f
is_reading (OfPair f) = is_pair_reading f
is_reading (OfPoints f) = false
is_reading (OfMoves f) = true

-- the right side of the operator is needed, if x is the value of its left side
abbrev pub needs_right : Op → ℤ → Bool
needs_right Or x = not (is_so x)
needs_right And x = is_so x
needs_right Eq x = true
needs_right Ne x = true
needs_right Lt x = true
needs_right Le x = true
needs_right Gt x = true
needs_right Ge x = true
needs_right Add x = true
needs_right Sub x = true

-- a function whose value may rest on a reading is called in a part of the expression that is needed
unfoldable pub asks : Meanings → Expr → Bool
asks m (Num n) = false
asks m (Call f args) = is_reading f
asks m (Not' p e) = asks m e
asks m (Neg' p e) = asks m e
asks m (Bin' op p a q b) = asks m a || (needs_right op (value_of m a) && asks m b)
