-- The test for a candidate says what the rules say in terms of strings and liberties.
use Rattle.std.proofs.Common.{◌≡◌, ◌∙◌, ℕ, ◌*◌, ◌<◌, ◌&&◌, ◌||◌, Bool, true, List, Result, Ok, Err, arith, ap, refl}
use Rattle.std.proofs.Common.{subst, sym, inl, inr, ltb}
use Rattle.std.proofs.lemmas.Bool.{and_parts, and_from, or_cases, or_left, or_right, lt-ltb, ltb-true, eqb-true, eq-eqb}
use Rattle.go_rules.specs.declared.Cell.{Cell}
use Rattle.go_rules.specs.declared.Colour.{Colour}
use Rattle.go_rules.specs.declared.Illegal.{Illegal}
use Rattle.go_rules.specs.Strings.{cell_at, is_liberty, liberties}
use Rattle.go_rules.specs.BesideStrings.{is_beside_string}
use Rattle.go_rules.specs.Position.{BoardState}
use Rattle.go_rules.specs.Play.{play_free}
use Rattle.go_rules.proofs.Counts.{any_below_gives, any_below_from}
use Rattle.go_rules.proofs.Paths.{same_cell-true, same_cell-from, IsInString-from_test, is_is_in_string-from_fact}
use Rattle.go_rules.proofs.Paths.{IsLiberty-from_test, is_liberty-from_fact}
use Rattle.go_rules.proofs.StringMembers.{is_in_string_on}
use Rattle.go_rules.proofs.PlayLaws.{done_state}
use Rattle.go_base.specs.Surroundings.{is_only_liberty, is_last_liberty_of_enemy}
use Rattle.wider_rules.specs.Further.{is_further}
use Rattle.wider_rules.proofs.FurtherLaws.{further_gives, further_from}
use Rattle.read_rules.specs.declared.tree.Tree.{Tree}
use Rattle.read_rules.specs.declared.tree.Tree.TheVariants.{Stated, Wider}
use Rattle.read_rules.specs.declared.turn.Turn.{Turn}
use Rattle.read_rules.specs.Trees.{is_wider}
use Rattle.read_rules.specs.Candidates.{attacker_of, is_empty_beside, leaves_only, is_backfilling, is_candidate}
use Rattle.read_rules.specs.Candidates.{is_candidate, IsEmptyNeighbour, IsTakenAt, IsBackfilledAt, IsCandidate}
use Rattle.read_rules.specs.Candidates.{fills, looks_wide, takes, backfills, goes_further}
use Rattle.read_rules.proofs.FurtherPoints.{further_on}

-- an empty point beside a liberty is an empty neighbour of one, and the other way round
wide_gives : (s : ℕ) (cells : List Cell) (target p : ℕ) → is_empty_beside s cells (is_liberty s cells target) p ≡ true
    → (l : ℕ) × (is_liberty s cells target l ≡ true) × IsEmptyNeighbour s cells l p
unfolding is_empty_beside
wide_gives s cells target p h = grind (arith, and_parts, any_below_gives, ltb-true, same_cell-true)

-- an empty neighbour of a liberty passes the test for a point beside a liberty
wide_from : (s : ℕ) (cells : List Cell) (target p l : ℕ) → l < s * s → is_liberty s cells target l ≡ true
    → IsEmptyNeighbour s cells l p
    → is_empty_beside s cells (is_liberty s cells target) p ≡ true
unfolding is_empty_beside
wide_from s cells target p l on lib near =
    and_from _ _ (and_from _ _ (lt-ltb p (s * s) near.on_board) (same_cell-from _ _ near.is_empty))
    (any_below_from (s * s) _ l on (and_from _ _ lib near.beside))

-- an attacker's string that is taken, and the other way round
pub takes_gives : (s : ℕ) (cells : List Cell) (target p : ℕ) → is_last_liberty_of_enemy s cells target p ≡ true
    → (q : ℕ) × IsTakenAt s cells target q p
unfolding is_last_liberty_of_enemy is_beside_string is_only_liberty
takes_gives s cells target p h =
    let q = any_below_gives (s * s) _ h in
    let parts = and_parts _ _ q.2 in
    let first = and_parts _ _ parts.0 in
    let only = and_parts _ _ parts.1 in
    let x = any_below_gives (s * s) _ first.1 in
    let touch = and_parts _ _ x.2 in (
      q.0,
      record {
        on_board = q.1;
        enemy = first.0;
        beside = (x.0, IsInString-from_test s cells target x.0 touch.0, touch.1);
        in_atari = eqb-true (liberties s cells q.0) 1 only.0;
        last = IsLiberty-from_test s cells q.0 p only.1;
      },
    )

-- the last liberty of an enemy string beside the target passes the test for one
pub takes_from : (s : ℕ) (cells : List Cell) (target q p : ℕ) → target < s * s → IsTakenAt s cells target q p
    → is_last_liberty_of_enemy s cells target p ≡ true
unfolding is_last_liberty_of_enemy is_beside_string is_only_liberty
takes_from s cells target q p on taken =
    let inside = is_is_in_string-from_fact s cells target taken.beside.0 on taken.beside.1 in
    any_below_from (s * s) _ q taken.on_board
    (and_from _ _ (and_from _ _ taken.enemy
    (any_below_from (s * s) _ taken.beside.0 (is_in_string_on s cells target taken.beside.0 on inside)
    (and_from _ _ inside taken.beside.2)))
    (and_from _ _ (eq-eqb (liberties s cells q) 1 taken.in_atari)
    (is_liberty-from_fact s cells q p taken.on_board taken.last)))

-- a legal play keeps the size
pub size_played : (pos : BoardState) (c : Colour) (l : ℕ) (new : BoardState) → play_free pos c l ≡ Ok new
    → new.size ≡ pos.size
size_played pos c l new e = ap (λ (x : BoardState). x.size) (done_state pos c l new e).1

-- what a play that leaves one liberty gives
pub only_gives : (l p : ℕ) (r : Result BoardState Illegal) → leaves_only l p r ≡ true
    → (new : BoardState) × (r ≡ Ok new) × (is_only_liberty new.size new.cells l p ≡ true)
only_gives l p (Ok new) h = (new, refl, h)
only_gives l p (Err why) h = cc

-- the one liberty of a string by the test
pub only_parts : (s : ℕ) (cells : List Cell) (l p : ℕ) → is_only_liberty s cells l p ≡ true
    → (liberties s cells l ≡ 1) × (is_liberty s cells l p ≡ true)
unfolding is_only_liberty
only_parts s cells l p h = let both = and_parts _ _ h in (eqb-true (liberties s cells l) 1 both.0, both.1)

-- the one liberty of a string passes the test for it
only_from : (s : ℕ) (cells : List Cell) (l p : ℕ) → liberties s cells l ≡ 1 → is_liberty s cells l p ≡ true
    → is_only_liberty s cells l p ≡ true
unfolding is_only_liberty
only_from s cells l p one its = and_from _ _ (eq-eqb (liberties s cells l) 1 one) its

-- a backfilling move by the test is one by the rules, and the other way round
backfills_gives : (pos : BoardState) (target p : ℕ) → is_backfilling pos target p ≡ true
    → (l : ℕ) × IsBackfilledAt pos target l p
unfolding is_backfilling
backfills_gives pos target p h =
    let parts = and_parts _ _ h in
    let l = any_below_gives (pos.size * pos.size) _ parts.1 in
    let both = and_parts _ _ l.2 in
    let left = only_gives l.0 p (play_free pos (attacker_of (cell_at pos.cells target)) l.0) both.1 in
    let only = only_parts left.0.size left.0.cells l.0 p left.2 in (
      l.0,
      record {
        liberty = IsLiberty-from_test pos.size pos.cells target l.0 both.0;
        new = left.0;
        legal = left.1;
        in_atari = only.0;
        last = IsLiberty-from_test left.0.size left.0.cells l.0 p only.1;
        was_empty = same_cell-true _ _ parts.0;
      },
    )

-- a backfilling move by the rules is one by the test
backfills_from : (pos : BoardState) (target l p : ℕ) → target < pos.size * pos.size → IsBackfilledAt pos target l p
    → is_backfilling pos target p ≡ true
unfolding is_backfilling
backfills_from pos target l p on w =
    let size = size_played pos (attacker_of (cell_at pos.cells target)) l w.new w.legal in
    let inside = subst (λ n. l < n * n) (sym size) w.liberty.on_board in
    let its = is_liberty-from_fact w.new.size w.new.cells l p inside w.last in
    and_from _ _ (same_cell-from _ _ w.was_empty) (any_below_from (pos.size * pos.size) _ l w.liberty.on_board
    (and_from _ _ (is_liberty-from_fact pos.size pos.cells target l on w.liberty)
    (ap (leaves_only l p) w.legal ∙ only_from w.new.size w.new.cells l p w.in_atari its)))

-- p is a wide move, by the test
abbrev by_wide : BoardState → ℕ → ℕ → ℕ → Bool
by_wide pos target k p =
    (ltb 0 k && ltb (liberties pos.size pos.cells target) 3)
    && is_empty_beside pos.size pos.cells (is_liberty pos.size pos.cells target) p

-- p is a backfilling move while a wide ply is left, by the test
abbrev by_backfilling : BoardState → ℕ → ℕ → ℕ → Bool
by_backfilling pos target k p = ltb 0 k && is_backfilling pos target p

-- the tree that tries further candidates is the wider one
wider_gives : (tree : Tree) → is_wider tree ≡ true → tree ≡ Wider
wider_gives Stated h = cc
wider_gives Wider h = refl

-- p is of one of the four sets of the stated tree, by the test
abbrev by_four : BoardState → ℕ → ℕ → ℕ → Bool
by_four pos target k p =
    is_liberty pos.size pos.cells target p || by_wide pos target k p
    || is_last_liberty_of_enemy pos.size pos.cells target p || by_backfilling pos target k p

-- how p is a candidate at the turn, by the test
data ByTest (turn : Turn) (pos : BoardState) (p : ℕ) : Type 0 where
  of_four : by_four pos turn.target turn.wide p ≡ true → ByTest turn pos p
  of_further : turn.tree ≡ Wider
      → is_further (ltb 0 turn.wide) turn.attacker_to_play pos.size pos.cells turn.target p ≡ true → ByTest turn pos p

-- a candidate is of one of the four sets, or a further candidate
by_test : (turn : Turn) (pos : BoardState) (p : ℕ)
    → is_candidate turn pos p ≡ true → ByTest turn pos p
unfolding is_candidate
by_test turn pos p h = grind (arith, or_cases, and_parts, wider_gives)

-- a wide move by the test is one by the rules
wide_candidate : (turn : Turn) (pos : BoardState) (p : ℕ)
    → by_wide pos turn.target turn.wide p ≡ true → IsCandidate turn pos p
wide_candidate turn pos p h =
    let parts = and_parts _ _ h in
    let both = and_parts _ _ parts.0 in
    let l = wide_gives pos.size pos.cells turn.target p parts.1 in
    let few = ltb-true (liberties pos.size pos.cells turn.target) 3 both.1 in
    looks_wide (ltb-true 0 turn.wide both.0) (omega arith) l.0 (IsLiberty-from_test pos.size pos.cells turn.target l.0 l.1) l.2

-- so is a backfilling move
backfilling_candidate : (turn : Turn) (pos : BoardState) (p : ℕ)
    → by_backfilling pos turn.target turn.wide p ≡ true → IsCandidate turn pos p
backfilling_candidate turn pos p h =
    let parts = and_parts _ _ h in
    let l = backfills_gives pos turn.target p parts.1 in
    backfills (ltb-true 0 turn.wide parts.0) l.0 l.1

-- a point of one of the four sets by the test is one by the rules
four_gives : (turn : Turn) (pos : BoardState) (p : ℕ)
    → by_four pos turn.target turn.wide p ≡ true → IsCandidate turn pos p
four_gives turn pos p h =
    let lib = is_liberty pos.size pos.cells turn.target p in
    let last = is_last_liberty_of_enemy pos.size pos.cells turn.target p in
    elim (or_cases (lib || by_wide pos turn.target turn.wide p || last) (by_backfilling pos turn.target turn.wide p) h) [
      | inr b ↦ backfilling_candidate turn pos p b
      | inl f ↦ elim (or_cases (lib || by_wide pos turn.target turn.wide p) last f) [
        | inr t ↦ let taken = takes_gives pos.size pos.cells turn.target p t in takes taken.0 taken.1
        | inl e ↦ elim (or_cases lib (by_wide pos turn.target turn.wide p) e) [
          | inl its ↦ fills (IsLiberty-from_test pos.size pos.cells turn.target p its)
          | inr w ↦ wide_candidate turn pos p w
        ]
      ]
    ]

-- a candidate by the test is one by the rules
pub candidate_gives : (turn : Turn) (pos : BoardState) (p : ℕ)
    → turn.target < pos.size * pos.size → is_candidate turn pos p ≡ true
    → IsCandidate turn pos p
candidate_gives turn pos p on h = elim (by_test turn pos p h) [
  | of_four four ↦ four_gives turn pos p four
  | of_further is further ↦ goes_further is
      (further_gives pos.size pos.cells turn.target (ltb 0 turn.wide) turn.attacker_to_play p on further)
]

-- a candidate by the rules is one by the test
pub candidate_from : (turn : Turn) (pos : BoardState) (p : ℕ)
    → turn.target < pos.size * pos.size → IsCandidate turn pos p
    → is_candidate turn pos p ≡ true
unfolding is_candidate
candidate_from turn pos p on (fills lib) = grind (arith, or_left, is_liberty-from_fact)
candidate_from turn pos p on (looks_wide some few l lib near) =
    or_left _ _ (or_left _ _ (or_left _ _ (or_right _ _ (and_from _ _
    (and_from _ _ (lt-ltb 0 turn.wide some) (lt-ltb (liberties pos.size pos.cells turn.target) 3 (omega arith)))
    (wide_from pos.size pos.cells turn.target p l lib.on_board
    (is_liberty-from_fact pos.size pos.cells turn.target l on lib) near)))))
candidate_from turn pos p on (takes q taken) = grind (arith, or_left, or_right, takes_from)
candidate_from turn pos p on (backfills some l w) =
    or_left _ _ (or_right _ _ (and_from _ _ (lt-ltb 0 turn.wide some) (backfills_from pos turn.target l p on w)))
candidate_from turn pos p on (goes_further is further) =
    or_right _ _ (and_from _ _ (ap is_wider is)
    (further_from pos.size pos.cells turn.target (ltb 0 turn.wide) turn.attacker_to_play p on further))

-- the turn in the stated tree
abbrev stated : Turn → Turn
stated turn = record {
  tree = Stated;
  target = turn.target;
  defender = turn.defender;
  attacker_to_play = turn.attacker_to_play;
  wide = turn.wide;
}

-- a candidate is a point of the board
pub candidate_on : (turn : Turn) (pos : BoardState) (p : ℕ)
    → is_candidate turn pos p ≡ true → p < pos.size * pos.size
candidate_on turn pos p h =
    grind (
      arith,
      by_test turn pos p h,
      further_on pos.size pos.cells turn.target p (ltb 0 turn.wide) turn.attacker_to_play,
      four_gives (stated turn) pos p,
      size_played,
    )
