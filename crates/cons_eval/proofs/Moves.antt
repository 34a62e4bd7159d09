-- Moves in turn, and the moves and the point behind them.
use Rattle.std.proofs.Common.{◌≡◌, ℕ, zero, suc, ◌+◌, ◌<◌, ◌≤◌, List, [], ◌∷◌, length, map, take, drop, get_or, Option}
use Rattle.std.proofs.Common.{Some, None, refl, ap, arith}
use Rattle.std.proofs.lemmas.List.{drop_more, drop_all}
use Rattle.std.specs.Option.{option_map}
use Rattle.pat_types.specs.declared.expr.Arg.{Arg}
use Rattle.go_rules.specs.declared.Colour.{Colour}
use Rattle.go_rules.specs.Position.{BoardState, other}
use Rattle.cons_eval.specs.Functions.{after_move, after_moves}
use Rattle.cons_eval.specs.Values.{with_move, moves_and_point}

-- the move at a place is the first of those from there on
pub next_move : (point : Arg → Option ℕ) (moves : List Arg) (i : ℕ) (d : Arg) (pos : BoardState) (c : Colour)
    → i < length moves
    → after_moves (after_move pos c (point (get_or moves i d))) (other c) (map point (drop (i + 1) moves))
    ≡ after_moves pos c (map point (drop i moves))
unfolding after_moves
next_move point moves i d pos c h = grind (arith, drop_more)

-- behind the last move nothing changes
pub no_move : (point : Arg → Option ℕ) (moves : List Arg) (i : ℕ) (pos : BoardState) (c : Colour) → length moves ≤ i
    → after_moves pos c (map point (drop i moves)) ≡ pos
unfolding after_moves
no_move point moves i pos c h = ap (λ (ms : List Arg). after_moves pos c (map point ms)) (drop_all i moves h)

-- a move in front of moves and a point
with_move_map : (m : Option ℕ) (ms : List (Option ℕ)) (o : Option ℕ)
    → with_move m (option_map (λ p. (ms, p)) o) ≡ option_map (λ p. (m ∷ ms, p)) o
with_move_map m ms None = refl
with_move_map m ms (Some p) = refl

-- the last of k + 1 arguments is the point, and the k before it are the moves
pub last_point : (point : Arg → Option ℕ) (args : List Arg) (k : ℕ) (d : Arg) → length args ≡ suc k
    → moves_and_point (map point args) ≡ option_map (λ p. (map point (take k args), p)) (point (get_or args k d))
unfolding moves_and_point
last_point point [] k d h = absurd (omega arith)
last_point point (a ∷ []) zero d h = refl
last_point point (a ∷ []) (suc k) d h = absurd (omega arith)
last_point point (m ∷ n ∷ more) zero d h = absurd (omega arith)
last_point point (m ∷ n ∷ more) (suc k) d h = grind (arith, last_point point (n ∷ more) k d, with_move_map)

-- no arguments have no last one
pub none_last : (point : Arg → Option ℕ) (args : List Arg) → length args < 1 → moves_and_point (map point args) ≡ None
unfolding moves_and_point
none_last point [] h = refl
none_last point (a ∷ args) h = absurd (omega arith)
