-- What holds of games that go on by one move.
use Rattle.std.proofs.Common.{◌≡◌, ℕ, zero, suc, ◌+◌, ◌*◌, ◌≤◌, List, [], ◌∷◌, ◌++◌, length, take, Option}
use Rattle.std.proofs.Common.{Some, None, refl, arith, add_assoc}
use Rattle.std.proofs.lemmas.Bool.{cases_Bool}
use Rattle.std.proofs.lemmas.Nat.{mul-le}
use Rattle.go_rules.specs.declared.Colour.{Colour}
use Rattle.go_rules.specs.declared.Move.{Move}
use Rattle.go_rules.specs.Board.{largest_size, largest_points}
use Rattle.go_rules.specs.Position.{BoardState}
use Rattle.go_rules.specs.Replay.{moved, led_to, replay_from, captures_from, taken_by, IsLegalGame}
use Rattle.go_rules.proofs.Counts.{count_below_at_most}
use Rattle.go_history.specs.Taken.{stones_taken}
use Rattle.go_rules.proofs.CaptureLaws.{moved_size}

-- the stones of a game that goes on are those taken before and those that its last move takes
pub captures_from-push : (pos : BoardState) (c : Colour) (ms : List Move) (m : Move)
    → captures_from pos c (ms ++ m ∷ []) ≡ captures_from pos c ms + stones_taken (replay_from pos ms) c m
unfolding replay_from captures_from
captures_from-push pos c [] m = omega arith
captures_from-push pos c (first ∷ ms) m =
    grind (arith, add_assoc, captures_from-push (led_to pos (moved pos first)) c ms m)

-- no stones are taken before the first move
pub captures_from-nil : (pos : BoardState) (c : Colour) → captures_from pos c [] ≡ 0
unfolding captures_from
captures_from-nil pos c = refl

-- the front of a legal game is one
pub IsLegalGame-take : (pos : BoardState) (n : ℕ) (ms : List Move) → IsLegalGame pos ms → IsLegalGame pos (take n ms)
IsLegalGame-take pos zero ms legal = tt
IsLegalGame-take pos (suc n) [] legal = tt
IsLegalGame-take pos (suc n) (m ∷ ms) legal = (legal.0, IsLegalGame-take (led_to pos (moved pos m)) n ms legal.1)

-- a move takes at most the stones of a whole board
pub taken_by-bound : (pos : BoardState) (c : Colour) (at : Option ℕ) → pos.size ≤ largest_size
    → taken_by pos c at ≤ largest_points
taken_by-bound pos c None small = omega arith
taken_by-bound pos c (Some p) small = grind (arith, mul-le, count_below_at_most)

-- a move takes at most the stones of a whole board for a colour
pub stones_taken-bound : (pos : BoardState) (c : Colour) (m : Move) → pos.size ≤ largest_size
    → stones_taken pos c m ≤ largest_points
stones_taken-bound pos c m small = grind (arith, cases_Bool, taken_by-bound)

-- the moves of a game take at most a whole board each
pub captures_from-bound : (pos : BoardState) (c : Colour) (ms : List Move) → pos.size ≤ largest_size
    → captures_from pos c ms ≤ largest_points * length ms
unfolding captures_from
captures_from-bound pos c [] small = omega arith
captures_from-bound pos c (m ∷ ms) small =
    grind (arith, stones_taken-bound, moved_size, captures_from-bound (led_to pos (moved pos m)) c ms)
