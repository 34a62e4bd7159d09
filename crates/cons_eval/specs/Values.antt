-- The values of expressions: whole numbers. A comparison, `!`, `&&` and `||` are worth 1 or 0, and any value but 0
-- counts as true.
use Rattle.std.specs.Prelude.{ℕ, Bool, true, false, ◌&&◌, ◌||◌, not, List, [], ◌∷◌, map, Option}
use Rattle.std.specs.Prelude.{Some, None, ℤ, pos, ◌+ℤ◌, ◌-ℤ◌, neg_ℤ, int_lt, int_le}
use Rattle.std.specs.Option.{option_map}
use Rattle.std.specs.Ordering.{int_eq}
use Rattle.pat_types.specs.declared.expr.Op.{Op}
use Rattle.pat_types.specs.declared.expr.Op.TheVariants.{Or, And, Eq, Ne, Lt, Le, Gt, Ge, Add, Sub}
use Rattle.pat_types.specs.declared.expr.Function.{Function}
use Rattle.pat_types.specs.declared.expr.Function.TheVariants.{OfPoint, OfPair, OfPoints, OfMoves}
use Rattle.pat_types.specs.declared.expr.PointFunction.{PointFunction}
use Rattle.pat_types.specs.declared.expr.PointFunction.TheVariants as point
use Rattle.pat_types.specs.declared.expr.PairFunction.{PairFunction}
use Rattle.pat_types.specs.declared.expr.PairFunction.TheVariants as pair
use Rattle.pat_types.specs.declared.expr.PointsFunction.{PointsFunction}
use Rattle.pat_types.specs.declared.expr.PointsFunction.TheVariants as points
use Rattle.pat_types.specs.declared.expr.MovesFunction.{MovesFunction}
use Rattle.pat_types.specs.declared.expr.MovesFunction.TheVariants as moves
use Rattle.pat_types.specs.declared.expr.Expr.{Expr, Num, Call, Not', Neg', Bin'}
use Rattle.cons_eval.specs.Functions.{lib, xlib, olib, attack, defend, ko, safe_xmove, safe_omove, legal_xmove}
use Rattle.cons_eval.specs.Functions.{legal_omove, o_somewhere, x_somewhere, same_worm, does_attack, does_defend}
use Rattle.cons_eval.specs.Functions.{odefend_against, xdefend_against, oplay_attack, oplay_defend, xplay_attack}
use Rattle.cons_eval.specs.Functions.{xplay_defend}
use Rattle.cons_eval.specs.Meanings.{Meanings}

-- what a test is worth: 1 if it holds, else 0
abbrev pub worth : Bool → ℤ
worth true = pos 1
worth false = pos 0

-- the value counts as true
abbrev pub is_so : ℤ → Bool
is_so x = not (int_eq x (pos 0))

-- the point of the only argument, if there is exactly one argument and it has a point
abbrev pub only_point : List (Option ℕ) → Option ℕ
only_point [] = None
only_point (a ∷ []) = a
only_point (a ∷ b ∷ more) = None

-- the pair of two points, if there are both
abbrev pub both_points : Option ℕ → Option ℕ → Option (ℕ × ℕ)
both_points None b = None
both_points (Some a) None = None
both_points (Some a) (Some b) = Some (a, b)

-- the points of the two arguments, if there are exactly two and both have points
abbrev pub two_points : List (Option ℕ) → Option (ℕ × ℕ)
two_points [] = None
two_points (a ∷ []) = None
two_points (a ∷ b ∷ []) = both_points a b
two_points (a ∷ b ∷ c ∷ more) = None

-- moves and the point behind them, with one more move at the front
abbrev pub with_move : Option ℕ → Option (List (Option ℕ) × ℕ) → Option (List (Option ℕ) × ℕ)
with_move m rest = option_map (λ play. (m ∷ play.0, play.1)) rest

-- the moves and the point behind them, if the last argument has a point
unfoldable pub moves_and_point : List (Option ℕ) → Option (List (Option ℕ) × ℕ)
moves_and_point [] = None
moves_and_point (a ∷ []) = option_map (λ p. ([], p)) a
moves_and_point (m ∷ n ∷ more) = with_move m (moves_and_point (n ∷ more))

-- f of what is there, or 0 if nothing is there
abbrev pub if_there : {A : Type 0} → (A → ℤ) → Option A → ℤ
if_there f None = pos 0
if_there f (Some a) = f a

-- the value of a function of one point at a
abbrev pub point_value : Meanings → PointFunction → ℕ → ℤ
point_value m point.Lib a = pos (lib m.position a)
point_value m point.Xlib a = pos (xlib m.position m.friend a)
point_value m point.Olib a = pos (olib m.position m.friend a)
point_value m point.Attack a = pos (attack m.code m.position a)
point_value m point.Defend a = pos (defend m.code m.position a)
point_value m point.Ko a = worth (ko m.position a)
point_value m point.SafeXmove a = worth (safe_xmove m.code m.position m.friend a)
point_value m point.SafeOmove a = worth (safe_omove m.code m.position m.friend a)
point_value m point.LegalXmove a = worth (legal_xmove m.position m.friend a)
point_value m point.LegalOmove a = worth (legal_omove m.position m.friend a)

-- the value of a function of two points at the pair ab
abbrev pub pair_value : Meanings → PairFunction → ℕ × ℕ → ℤ
pair_value m pair.SameWorm ab = worth (same_worm m.position ab.0 ab.1)
pair_value m pair.DoesAttack ab = does_attack m.code m.position ab.0 ab.1
pair_value m pair.DoesDefend ab = does_defend m.code m.position ab.0 ab.1
pair_value m pair.OdefendAgainst ab = worth (odefend_against m.code m.position m.friend ab.0 ab.1)
pair_value m pair.XdefendAgainst ab = worth (xdefend_against m.code m.position m.friend ab.0 ab.1)

-- the value of a function of one to eight points at these points
abbrev pub points_value : Meanings → PointsFunction → List (Option ℕ) → ℤ
points_value m points.OSomewhere at = worth (o_somewhere m.position m.friend at)
points_value m points.XSomewhere at = worth (x_somewhere m.position m.friend at)

-- the value of a function of one to eight moves and a point; play is the pair of the moves and the point
abbrev pub moves_value : Meanings → MovesFunction → List (Option ℕ) × ℕ → ℤ
moves_value m moves.OplayAttack play = pos (oplay_attack m.code m.position m.friend play.0 play.1)
moves_value m moves.OplayDefend play = pos (oplay_defend m.code m.position m.friend play.0 play.1)
moves_value m moves.XplayAttack play = pos (xplay_attack m.code m.position m.friend play.0 play.1)
moves_value m moves.XplayDefend play = pos (xplay_defend m.code m.position m.friend play.0 play.1)

-- the value of a call at the points of its arguments. A function of one or two points is worth 0 unless it has that
-- many arguments, all with points; a function of moves is worth 0 unless its last argument has a point
unfoldable pub call_value : Meanings → Function → List (Option ℕ) → ℤ
call_value m (OfPoint f) args = if_there (point_value m f) (only_point args)
call_value m (OfPair f) args = if_there (pair_value m f) (two_points args)
call_value m (OfPoints f) args = points_value m f args
call_value m (OfMoves f) args = if_there (moves_value m f) (moves_and_point args)

-- the value of x and y with an operator between them
abbrev pub joined_value : Op → ℤ → ℤ → ℤ
joined_value Or x y = worth (is_so x || is_so y)
joined_value And x y = worth (is_so x && is_so y)
joined_value Eq x y = worth (int_eq x y)
joined_value Ne x y = worth (not (int_eq x y))
joined_value Lt x y = worth (int_lt x y)
joined_value Le x y = worth (int_le x y)
joined_value Gt x y = worth (int_lt y x)
joined_value Ge x y = worth (int_le y x)
joined_value Add x y = x +ℤ y
joined_value Sub x y = x -ℤ y

-- the value of an expression
unfoldable pub value_of : Meanings → Expr → ℤ
value_of m (Num n) = pos n
value_of m (Call f args) = call_value m f (map m.point args)
value_of m (Not' p e) = worth (not (is_so (value_of m e)))
value_of m (Neg' p e) = neg_ℤ (value_of m e)
value_of m (Bin' op p a q b) = joined_value op (value_of m a) (value_of m b)
