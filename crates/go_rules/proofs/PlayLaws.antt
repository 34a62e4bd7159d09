-- The computing definitions say what the rules say of paths.
use Rattle.std.proofs.Common.{◌≡◌, ◌≢◌, ◌↔◌, ◌⊎◌, ℕ, zero, suc, ◌*◌, ◌<◌, true, false, Option, Some, None}
use Rattle.std.proofs.Common.{IfSome, List, [], ◌∷◌, replicate, Ok, Err, refl, sym, ap, subst, arith, inl, inr, ◌∙◌}
use Rattle.std.proofs.lemmas.List.{length-replicate}
use Rattle.std.proofs.lemmas.Bool.{cases_Bool, eqb-true, eqb-false, eq-eqb, both_ways, and_parts, and_from}
use Rattle.std.proofs.lemmas.Bool.{true_from_ne_false}
use Rattle.go_rules.specs.declared.Cell.{Cell}
use Rattle.go_rules.specs.declared.Cell.TheVariants.{Empty}
use Rattle.go_rules.specs.declared.Colour.{Colour}
use Rattle.go_rules.specs.declared.Illegal.TheVariants.{Occupied, Ko, Suicide}
use Rattle.go_rules.specs.Strings.{cell_at, is_stone, liberties, IsLiberty}
use Rattle.go_rules.specs.declared.Colour.TheVariants.{Black as black, White as white}
use Rattle.go_rules.specs.declared.Move.{Move}
use Rattle.go_rules.specs.Board.{IsSize}
use Rattle.go_rules.specs.Replay.{empty_board, moved_to, moved, led_to, replay_from, replay, IsLegalMove, IsLegalGame}
use Rattle.go_rules.specs.Position.{BoardState, IsPosition, other, stone_of, same_colour, is_banned}
use Rattle.go_rules.specs.Play.{is_taken, cells_after, ban_after, play, play_free, pass}
use Rattle.go_rules.specs.Rules.{IsCaptured, Removes, Follows, IsSuicide, IsPositionInWords}
use Rattle.go_rules.proofs.Links.{liberties_some, liberties_from, path_keeps}
use Rattle.go_rules.proofs.Paths.{path_on_board}
use Rattle.go_rules.proofs.Plays.{taken_parts, taken_from, at_after, empty_from, at_put_same, at_put_other}
use Rattle.go_rules.proofs.Plays.{own_not_taken}
use Rattle.go_rules.proofs.Results.{after_on, put_on, result_of, free_occupied, free_suicide, free_done, result_good}
use Rattle.go_rules.proofs.Results.{play_occupied, play_ko, play_else}

-- if no liberty is counted there is none
none_from_zero : (s : ℕ) (cells : List Cell) (p : ℕ) → p < s * s → liberties s cells p ≡ 0 → (l : ℕ)
    → IsLiberty s cells p l → ⊥
none_from_zero s cells p h z l lib = let some = liberties_from s cells p l h lib in omega arith

-- if there is no liberty none is counted
zero_from_none : (s : ℕ) (cells : List Cell) (p : ℕ) → ((l : ℕ) → IsLiberty s cells p l → ⊥) → liberties s cells p ≡ 0
zero_from_none s cells p none = grind (arith, cases_Bool, eqb-true, eqb-false, liberties_some)

-- what is taken by the test is captured in words
pub captured_from : (s : ℕ) (put : List Cell) (c : Colour) (q : ℕ) → q < s * s → is_taken s put c q ≡ true
    → IsCaptured s put c q
captured_from s put c q h t = grind (arith, taken_parts, none_from_zero)

-- the cells after a play have what is captured removed, and all else kept
pub removes : (s : ℕ) (put : List Cell) (c : Colour) → Removes s put c (cells_after s put c)
removes s put c = grind (arith, at_after, taken_from, zero_from_none, cases_Bool, captured_from)

-- the cases of a play
data FreeCases (pos : BoardState) (c : Colour) (p : ℕ) : Type 0 where
  occupied : is_stone (cell_at pos.cells p) ≡ true → Err Occupied ≡ play_free pos c p → FreeCases pos c p
  suicide : is_stone (cell_at pos.cells p) ≡ false → liberties pos.size (after_on pos c p) p ≡ 0
      → Err Suicide ≡ play_free pos c p → FreeCases pos c p
  done : is_stone (cell_at pos.cells p) ≡ false → liberties pos.size (after_on pos c p) p ≢ 0
      → Ok (result_of pos c p) ≡ play_free pos c p → FreeCases pos c p

-- a play is refused for a stone, or for suicide, or is done
free_cases : (pos : BoardState) (c : Colour) (p : ℕ) → FreeCases pos c p
free_cases pos c p = grind (arith, cases_Bool, free_occupied, eqb-true, free_suicide, eqb-false, free_done)

-- a play that is done follows by the rules
pub free_follows : (pos : BoardState) (c : Colour) (p : ℕ) (new : BoardState) → p < pos.size * pos.size
    → play_free pos c p ≡ Ok new → Follows pos c p new
free_follows pos c p new h e = grind (arith, free_cases, empty_from, removes, liberties_some)

-- Occupied is told only where a stone stands
pub free_occupied_only : (pos : BoardState) (c : Colour) (p : ℕ) → play_free pos c p ≡ Err Occupied
    → is_stone (cell_at pos.cells p) ≡ true
free_occupied_only pos c p e = grind (arith, free_cases)

-- a play with the ban dropped is never Ko
pub free_never_ko : (pos : BoardState) (c : Colour) (p : ℕ) → play_free pos c p ≡ Err Ko → ⊥
free_never_ko pos c p e = grind (arith, free_cases)

-- Two boards that remove the same from one board hold the same at each point.
same_removed : (s : ℕ) (put : List Cell) (c : Colour) (a : List Cell) → Removes s put c a → (q : ℕ) → q < s * s
    → cell_at a q ≡ cell_at (cells_after s put c) q
same_removed s put c a h q on = elim (cases_Bool (is_taken s put c q)) [
  | inl t ↦ h.removed q on (captured_from s put c q on t)
      ∙ sym ((removes s put c).removed q on (captured_from s put c q on t))
  | inr f ↦
      let alive : IsCaptured s put c q → ⊥ =
      λ d. both_ways (is_taken s put c q) f (taken_from s put c q d.enemy (zero_from_none s put q d.dead)) in
      h.kept q on alive ∙ sym ((removes s put c).kept q on alive)
]

-- a liberty on one board is one on a board that holds the same at each point
liberty_same : (s : ℕ) (a b : List Cell) (p l : ℕ) → p < s * s → ((q : ℕ) → q < s * s → cell_at b q ≡ cell_at a q)
    → IsLiberty s a p l → IsLiberty s b p l
liberty_same s a b p l h same lib = grind (arith, path_keeps, path_on_board)

-- Suicide is told only where it is one
pub free_suicide_only : (pos : BoardState) (c : Colour) (p : ℕ) → p < pos.size * pos.size
    → play_free pos c p ≡ Err Suicide → IsSuicide pos c p
free_suicide_only pos c p h e = elim (free_cases pos c p) [
  | occupied t is ↦ absurd (let w = is ∙ e in cc)
  | done f nz is ↦ absurd (let w = is ∙ e in cc)
  | suicide f z is ↦ record {
    was_empty = empty_from (cell_at pos.cells p) f;
    dead = λ after r l lib. none_from_zero pos.size (after_on pos c p) p h z l
        (liberty_same pos.size after (after_on pos c p) p l h
        (λ q on. sym (same_removed pos.size (put_on pos c p) c after r q on)) lib);
  }
]

-- a play with the ban dropped gives a position
pub free_keeps : (pos : BoardState) (c : Colour) (p : ℕ) (new : BoardState) → IsPosition pos → p < pos.size * pos.size
    → play_free pos c p ≡ Ok new → IsPosition new
free_keeps pos c p new good h e = elim (free_cases pos c p) [
  | occupied t is ↦ absurd (let w : Err Occupied ≡ Ok new = is ∙ e in cc)
  | suicide f z is ↦ absurd (let w : Err Suicide ≡ Ok new = is ∙ e in cc)
  | done f nz is ↦
      let same : result_of pos c p ≡ new = (let w : Ok (result_of pos c p) ≡ Ok new = is ∙ e in cc) in
      subst IsPosition same (result_good pos c p good h f nz)
]

-- colours that are the same are equal
same_colour-true : (a b : Colour) → same_colour a b ≡ true → a ≡ b
same_colour-true black black h = refl
same_colour-true white white h = refl
same_colour-true black white h = absurd (both_ways false refl h)
same_colour-true white black h = absurd (both_ways false refl h)

-- where a play is banned, the ban is on it
banned_is : (b : Option (ℕ × Colour)) (c : Colour) (p : ℕ) → is_banned b c p ≡ true → b ≡ Some (p, c)
banned_is None c p h = absurd (both_ways false refl h)
banned_is (Some b) c p h = grind (arith, and_parts, eqb-true, same_colour-true)

-- a colour is the same as itself
pub same_colour-itself : (c : Colour) → same_colour c c ≡ true
same_colour-itself black = refl
same_colour-itself white = refl

-- if the ban is on a play, it is banned
is_banned-from : (b : Option (ℕ × Colour)) (c : Colour) (p : ℕ) → b ≡ Some (p, c) → is_banned b c p ≡ true
is_banned-from b c p e = ap (λ x. is_banned x c p) e ∙ and_from _ _ (eq-eqb p p refl) (same_colour-itself c)

-- Ko is told exactly if the point is empty and the ban is on the play
pub ko_exactly : (pos : BoardState) (c : Colour) (p : ℕ)
    → (play pos c p ≡ Err Ko) ↔ ((cell_at pos.cells p ≡ Empty) × (pos.ban ≡ Some (p, c)))
ko_exactly pos c p =
    grind (
      arith,
      cases_Bool (is_stone (cell_at pos.cells p)),
      play_occupied pos c p,
      cases_Bool (is_banned pos.ban c p),
      empty_from (cell_at pos.cells p),
      banned_is pos.ban c p,
      free_never_ko pos c p,
      play_else pos c p,
      play_ko pos c p,
      is_banned-from pos.ban c p,
    )

-- Occupied is told exactly if a stone stands
pub occupied_exactly : (pos : BoardState) (c : Colour) (p : ℕ)
    → (play pos c p ≡ Err Occupied) ↔ (cell_at pos.cells p ≢ Empty)
occupied_exactly pos c p =
    grind (
      arith,
      cases_Bool (is_banned pos.ban c p),
      play_ko pos c p,
      both_ways (is_stone (cell_at pos.cells p)),
      free_occupied_only pos c p,
      play_else pos c p,
      play_occupied pos c p,
      empty_from (cell_at pos.cells p),
      true_from_ne_false,
    )

-- where neither a stone nor the ban is in the way, the play is that with the ban dropped
pub free_otherwise : (pos : BoardState) (c : Colour) (p : ℕ) → cell_at pos.cells p ≡ Empty → pos.ban ≢ Some (p, c)
    → play pos c p ≡ play_free pos c p
free_otherwise pos c p z ne = grind (arith, cases_Bool, banned_is, play_else)

-- what is captured in words is taken by the test
pub taken_by_words : (s : ℕ) (put : List Cell) (c : Colour) (q : ℕ) → IsCaptured s put c q → is_taken s put c q ≡ true
taken_by_words s put c q h = taken_from s put c q h.enemy (zero_from_none s put q h.dead)

-- a play that is answered gives the position with the stone put and what it takes removed
pub done_state : (pos : BoardState) (c : Colour) (p : ℕ) (new : BoardState) → play_free pos c p ≡ Ok new
    → (cell_at pos.cells p ≡ Empty) × (new ≡ result_of pos c p)
done_state pos c p new e = grind (arith, free_cases, empty_from)

-- the ban that a play leaves
pub done_is : (pos : BoardState) (c : Colour) (p : ℕ) (new : BoardState) → play_free pos c p ≡ Ok new
    → new.ban ≡ ban_after pos.size (put_on pos c p) new.cells c p
done_is pos c p new e = grind (arith, done_state)

-- the string of the played stone has a liberty, so the stone stands
pub stone_after : (pos : BoardState) (c : Colour) (p : ℕ) (new : BoardState) → p < pos.size * pos.size
    → play_free pos c p ≡ Ok new → is_stone (cell_at new.cells p) ≡ true
stone_after pos c p new on e = (free_follows pos c p new on e).alive.1.beside.1.stone

-- the point of the play holds the stone put
pub stone_put : (pos : BoardState) (c : Colour) (p : ℕ) (new : BoardState) → IsPosition pos → p < pos.size * pos.size
    → play_free pos c p ≡ Ok new → cell_at new.cells p ≡ stone_of c
stone_put pos c p new good on e = grind (arith, done_state, at_put_same, at_after, own_not_taken)

-- every other point is as it was, or held an enemy stone that was captured
pub others_stay : (pos : BoardState) (c : Colour) (p : ℕ) (new : BoardState) (q : ℕ) → play_free pos c p ≡ Ok new
    → q < pos.size * pos.size → q ≢ p
    → (cell_at new.cells q ≡ cell_at pos.cells q)
    ⊎ ((cell_at pos.cells q ≡ stone_of (other c)) × (cell_at new.cells q ≡ Empty)
    × IsCaptured pos.size (put_on pos c p) c q)
others_stay pos c p new q e on ne =
    grind (arith, done_state, at_after, at_put_other, cases_Bool, taken_parts, captured_from)

-- a position that follows by the rules holds at each point what the play gives
pub follows_same : (pos : BoardState) (c : Colour) (p : ℕ) (a b : BoardState) → Follows pos c p a → Follows pos c p b
    → (q : ℕ) → q < pos.size * pos.size → cell_at a.cells q ≡ cell_at b.cells q
follows_same pos c p a b h k q on =
    same_removed pos.size (put_on pos c p) c a.cells h.cells q on
    ∙ sym (same_removed pos.size (put_on pos c p) c b.cells k.cells q on)

-- if some position follows by the rules, the play is answered
pub answered : (pos : BoardState) (c : Colour) (p : ℕ) (next : BoardState) → p < pos.size * pos.size
    → Follows pos c p next → (new : BoardState) × (play_free pos c p ≡ Ok new)
answered pos c p next on h =
    grind (
      arith,
      free_cases pos c p,
      both_ways (is_stone (cell_at pos.cells p)) (ap is_stone h.was_empty),
      free_suicide_only pos c p on,
    )

-- suicide, exactly
pub suicide_from : (pos : BoardState) (c : Colour) (p : ℕ) → IsSuicide pos c p → play_free pos c p ≡ Err Suicide
suicide_from pos c p h = grind (arith, free_suicide, zero_from_none, removes)

-- with the ban dropped Suicide is told exactly if it is one
pub free_suicide_exactly : (pos : BoardState) (c : Colour) (p : ℕ) → p < pos.size * pos.size
    → (play_free pos c p ≡ Err Suicide) ↔ IsSuicide pos c p
free_suicide_exactly pos c p on = (free_suicide_only pos c p on, suicide_from pos c p)

-- a stone stands at the point, exactly
pub free_occupied_exactly : (pos : BoardState) (c : Colour) (p : ℕ)
    → (play_free pos c p ≡ Err Occupied) ↔ (cell_at pos.cells p ≢ Empty)
free_occupied_exactly pos c p =
    grind (arith, both_ways, free_occupied_only, free_occupied, true_from_ne_false, empty_from)

-- Suicide is told exactly if it is one and the ban is not on the play
pub suicide_exactly : (pos : BoardState) (c : Colour) (p : ℕ) → p < pos.size * pos.size
    → (play pos c p ≡ Err Suicide) ↔ ((pos.ban ≢ Some (p, c)) × IsSuicide pos c p)
suicide_exactly pos c p on =
    grind (
      arith,
      cases_Bool,
      play_occupied,
      play_ko,
      both_ways,
      is_banned-from,
      free_suicide_only,
      play_else,
      free_otherwise,
      suicide_from,
    )

-- a play that the rules answer is done with no regard to the ban
pub play_done : (pos : BoardState) (c : Colour) (p : ℕ) (new : BoardState) → play pos c p ≡ Ok new
    → play_free pos c p ≡ Ok new
play_done pos c p new e = grind (arith, cases_Bool, play_occupied, play_ko, play_else)

-- a play, done or refused, leaves a board of the same size
pub play_size : (pos : BoardState) (c : Colour) (p : ℕ) → (led_to pos (play pos c p)).size ≡ pos.size
play_size pos c p = grind (arith, done_state, play_done)

-- a play that the rules answer gives a position again
pub play_keeps : (pos : BoardState) (c : Colour) (p : ℕ) (new : BoardState) → IsPosition pos → p < pos.size * pos.size
    → play pos c p ≡ Ok new → IsPosition new
play_keeps pos c p new good on e = free_keeps pos c p new good on (play_done pos c p new e)

-- and so does a pass
pub pass_keeps : (pos : BoardState) → IsPosition pos → IsPosition (pass pos)
pass_keeps pos good = grind arith

-- no stone stands on the empty board
empty_cells : (n q : ℕ) → cell_at (replicate n Empty) q ≡ Empty
empty_cells zero q = refl
empty_cells (suc n) zero = refl
empty_cells (suc n) (suc q) = empty_cells n q

-- the empty board is a position
pub empty_is_position : (s : ℕ) → IsSize s → IsPosition (empty_board s)
empty_is_position s h = grind (arith, length-replicate, both_ways, empty_cells)

-- a legal move leads to a position
moved_keeps : (pos : BoardState) (m : Move) → IsPosition pos → IsLegalMove pos m → IsPosition (led_to pos (moved pos m))
moved_keeps pos m good legal = by_point m.colour m.at legal.on_board legal.allowed
  where
    by_point : (c : Colour) (at : Option ℕ) → IfSome at (λ p. p < pos.size * pos.size)
        → (next : BoardState) × (moved_to pos c at ≡ Ok next) → IsPosition (led_to pos (moved_to pos c at))
    by_point c None on allowed = pass_keeps pos good
    by_point c (Some p) on allowed =
        subst (λ r. IsPosition (led_to pos r)) (sym allowed.1) (play_keeps pos c p allowed.0 good on allowed.1)

-- a legal game leads to a position
pub game_keeps : (pos : BoardState) (ms : List Move) → IsPosition pos → IsLegalGame pos ms
    → IsPosition (replay_from pos ms)
unfolding replay_from
game_keeps pos [] good legal = good
game_keeps pos (m ∷ ms) good legal = game_keeps (led_to pos (moved pos m)) ms (moved_keeps pos m good legal.0) legal.1

-- the point of a position's ban is on the board and empty
ban_in_words : (s : ℕ) (cells : List Cell) (ban : Option (ℕ × Colour))
    → IfSome ban (λ b. (b.0 < s * s) × (cell_at cells b.0 ≡ Empty))
    → (q : ℕ) (c : Colour) → ban ≡ Some (q, c) → (q < s * s) × (cell_at cells q ≡ Empty)
ban_in_words s cells ban good q c e = subst (λ b. IfSome b (λ x. (x.0 < s * s) × (cell_at cells x.0 ≡ Empty))) e good

-- and back
ban_by_words : (s : ℕ) (cells : List Cell) (ban : Option (ℕ × Colour))
    → ((q : ℕ) (c : Colour) → ban ≡ Some (q, c) → (q < s * s) × (cell_at cells q ≡ Empty))
    → IfSome ban (λ b. (b.0 < s * s) × (cell_at cells b.0 ≡ Empty))
ban_by_words s cells None good = tt
ban_by_words s cells (Some b) good = good b.0 b.1 refl

-- a position keeps what the words say
pub position_in_words : (pos : BoardState) → IsPosition pos → IsPositionInWords pos
position_in_words pos good = grind (arith, liberties_some, true_from_ne_false, empty_from, ban_in_words)

-- what keeps it is a position
pub position_by_words : (pos : BoardState) → IsPositionInWords pos → IsPosition pos
position_by_words pos words = grind (arith, both_ways, liberties_from, ban_by_words)

-- and so does each legal game from the empty board on
pub replayed_in_words : (s : ℕ) (moves : List Move) → IsSize s → IsLegalGame (empty_board s) moves
    → IsPositionInWords (replay s moves)
replayed_in_words s moves size legal = grind (arith, position_in_words, game_keeps, empty_is_position)
