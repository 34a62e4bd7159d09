-- How many readings an expression asks for. It asks only at a point with a stone, and a side of `&&` or `||` that is
-- not needed asks for nothing.
use Rattle.std.specs.Prelude.{ℕ, zero, suc, ◌+◌, ◌-◌, ◌^◌, min, if◌then◌else◌, List, map, Option, Some, None}
use Rattle.go_rules.specs.declared.Colour.{Colour}
use Rattle.go_rules.specs.Position.{BoardState, other}
use Rattle.go_rules.specs.Strings.{cell_at, is_stone}
use Rattle.go_rules.specs.Play.{play}
use Rattle.pat_types.specs.declared.expr.Function.{Function}
use Rattle.pat_types.specs.declared.expr.Function.TheVariants.{OfPoint, OfPair, OfPoints, OfMoves}
use Rattle.pat_types.specs.declared.expr.PointFunction.{PointFunction}
use Rattle.pat_types.specs.declared.expr.PointFunction.TheVariants as point
use Rattle.pat_types.specs.declared.expr.PairFunction.{PairFunction}
use Rattle.pat_types.specs.declared.expr.PairFunction.TheVariants as pair
use Rattle.pat_types.specs.declared.expr.MovesFunction.{MovesFunction}
use Rattle.pat_types.specs.declared.expr.MovesFunction.TheVariants as moves
use Rattle.pat_types.specs.declared.expr.Expr.{Expr, Num, Call, Not', Neg', Bin'}
use Rattle.cons_eval.specs.Asking.{needs_right}
use Rattle.cons_eval.specs.Functions.{after_play, after_moves, colour_of, of_stone}
use Rattle.cons_eval.specs.Meanings.{Meanings}
use Rattle.cons_eval.specs.Values.{only_point, two_points, moves_and_point, value_of}

-- one reading if a stone stands at p, else none
abbrev pub readings_at : BoardState → ℕ → ℕ
readings_at pos p = if is_stone (cell_at pos.cells p) then 1 else 0

-- one reading if a stone stands at b after c plays at a; none if b is then empty or the play is illegal
unfoldable pub readings_after : BoardState → Colour → ℕ → ℕ → ℕ
readings_after pos c a b = after_play 0 (λ next. readings_at next b) (play pos c a)

-- one reading, of the stone that the other colour plays at b after c plays at a; none if either play is illegal
unfoldable pub readings_against : BoardState → Colour → ℕ → ℕ → ℕ
readings_against pos c a b = after_play 0 (λ next. readings_after next (other c) b b) (play pos c a)

-- how many readings a function of one point asks for
abbrev pub point_readings : Meanings → PointFunction → ℕ → ℕ
point_readings m point.Attack a = readings_at m.position a
point_readings m point.Defend a = readings_at m.position a
point_readings m point.SafeXmove a = readings_after m.position (other m.friend) a a
point_readings m point.SafeOmove a = readings_after m.position m.friend a a
point_readings m _ a = 0

-- one reading, of the string at b after the other colour plays at a; none if b is empty, or if the play is illegal or
-- captures the string
abbrev pub attack_readings : BoardState → ℕ → ℕ → ℕ
attack_readings pos a b = of_stone 0 (λ c. readings_after pos (other c) a b) (colour_of (cell_at pos.cells b))

-- one reading, of the string at b after its colour plays at a; none if b is empty or the play is illegal
abbrev pub defence_readings : BoardState → ℕ → ℕ → ℕ
defence_readings pos a b = of_stone 0 (λ c. readings_after pos c a b) (colour_of (cell_at pos.cells b))

-- how many readings a function of two points asks for
abbrev pub pair_readings : Meanings → PairFunction → ℕ × ℕ → ℕ
pair_readings m pair.DoesAttack ab = attack_readings m.position ab.0 ab.1
pair_readings m pair.DoesDefend ab = defence_readings m.position ab.0 ab.1
pair_readings m pair.OdefendAgainst ab = readings_against m.position m.friend ab.0 ab.1
pair_readings m pair.XdefendAgainst ab = readings_against m.position (other m.friend) ab.0 ab.1
pair_readings m _ ab = 0

-- how many readings a function of moves and a point asks for
abbrev pub moves_readings : Meanings → MovesFunction → List (Option ℕ) × ℕ → ℕ
moves_readings m moves.OplayAttack play = readings_at (after_moves m.position m.friend play.0) play.1
moves_readings m moves.OplayDefend play = readings_at (after_moves m.position m.friend play.0) play.1
moves_readings m moves.XplayAttack play = readings_at (after_moves m.position (other m.friend) play.0) play.1
moves_readings m moves.XplayDefend play = readings_at (after_moves m.position (other m.friend) play.0) play.1

-- f of what is there, or 0 if nothing is there
abbrev pub many_there : {A : Type 0} → (A → ℕ) → Option A → ℕ
many_there f None = 0
many_there f (Some a) = f a

-- how many readings a call asks for at the points of its arguments
unfoldable pub call_readings : Meanings → Function → List (Option ℕ) → ℕ
call_readings m (OfPoint f) args = many_there (point_readings m f) (only_point args)
call_readings m (OfPair f) args = many_there (pair_readings m f) (two_points args)
call_readings m (OfPoints f) args = 0
call_readings m (OfMoves f) args = many_there (moves_readings m f) (moves_and_point args)

-- how many readings an expression asks for: those of its calls, but those of a right side only if it is needed
unfoldable pub readings_of : Meanings → Expr → ℕ
readings_of m (Num n) = 0
readings_of m (Call f args) = call_readings m f (map m.point args)
readings_of m (Not' p e) = readings_of m e
readings_of m (Neg' p e) = readings_of m e
readings_of m (Bin' op p a q b) =
    readings_of m a + (if needs_right op (value_of m a) then readings_of m b else 0)

-- the count plus one, but at most the greatest value of a u64
abbrev pub one_more : ℕ → ℕ
one_more count = min (count + 1) (2 ^ 64 - 1)

-- the count after this many more readings
abbrev pub counted : ℕ → ℕ → ℕ
counted zero count = count
counted (suc more) count = counted more (one_more count)
