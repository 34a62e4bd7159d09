-- The tries that end at the move: those at empty points where it is not legal, if the diagram fits.
use Rattle.std.proofs.Common.{◌≡◌, ℕ, ◌+◌, ◌*◌, ◌<◌, ◌≤◌, Bool, true, false, not, ◌&&◌, eqb, List, map}
use Rattle.std.proofs.Common.{filter}
use Rattle.std.proofs.Common.{length, get_or, count_by, Contains, Some, refl, sym, ap, ◌∙◌, subst, arith}
use Rattle.std.proofs.Common.{pos, ◌-ℤ◌}
use Rattle.std.specs.List.{range_with_len, All}
use Rattle.std.proofs.lemmas.Grind.{flat_map-append}
use Rattle.std.proofs.lemmas.List.{append-nil}
use Rattle.std.proofs.lemmas.List.Elements.{Contains-get_or}
use Rattle.std.proofs.lemmas.List.FromFn.{length-range_with_len}
use Rattle.std.proofs.lemmas.List.Sums.{length-filter, count_by-le-length}
use Rattle.std.proofs.lemmas.Bool.{ne_eqb}
use Rattle.std.proofs.Math.Bool.{and-false}
use Rattle.std.proofs.lemmas.Int.{ints}
use Rattle.go_rules.specs.declared.Cell.TheVariants.{Empty}
use Rattle.go_rules.specs.declared.Colour.{Colour}
use Rattle.go_rules.specs.Position.{BoardState}
use Rattle.go_rules.specs.Play.{is_legal}
use Rattle.go_rules.specs.Strings.{cell_at, same_cell}
use Rattle.go_rules.specs.Transform.{transformations}
use Rattle.spiral.specs.Spiral.{place_at}
use Rattle.pat_types.specs.declared.pattern.Pattern.{Pattern}
use Rattle.pat_types.specs.Marks.{count_of}
use Rattle.read_rules.specs.declared.depths.Depths.{Depths}
use Rattle.match_rules.specs.Fits.{fits}
use Rattle.match_rules.specs.Conditions.{Advice}
use Rattle.match_rules.proofs.InWords.{each_cell, letter_from_cell}
use Rattle.match_rules.proofs.Lists.{Contains-map, Contains-flat_map, Contains-below, Contains-filter}
use Rattle.match_engine.proofs.ByAutomaton.{count_within}
use Rattle.match_engine.proofs.Places.{place_at-none}
use Rattle.pattern_coverage.specs.Ends.{tries_among, tries_of, part_at, ends_at, is_blocked}
use Rattle.pattern_coverage.proofs.ListCounts.{count-append, count-same, count-filter, count-map, count-joined}
use Rattle.pattern_coverage.proofs.ListCounts.{range-next}
use Rattle.pattern_coverage.proofs.Parts.{part-diagram, part-move, part-late}

module _ (p : Pattern) where
  module _ (board : BoardState) (friend : Colour) (t m : ℕ) (low : t < transformations)
      (on : m < board.size * board.size) where
    -- the star lies at its own point
    star_place : place_at board.size t m (pos p.star.0 -ℤ pos p.star.0, pos p.star.1 -ℤ pos p.star.1) ≡ Some m
    star_place =
        let row : pos p.star.0 -ℤ pos p.star.0 ≡ pos 0 = omega (arith, ints) in
        let column : pos p.star.1 -ℤ pos p.star.1 ≡ pos 0 = omega (arith, ints) in
        let none : (pos p.star.0 -ℤ pos p.star.0, pos p.star.1 -ℤ pos p.star.1) ≡ (pos 0, pos 0) =
        λ i. (row i, column i) in
        ap (place_at board.size t m) none ∙ place_at-none board.size t m low on

    -- a diagram fits only with its star on an empty point
    pub star_empty : fits p board friend t m ≡ true → same_cell (cell_at board.cells m) Empty ≡ true
    star_empty whole =
        grind (
          arith,
          letter_from_cell p board friend t m p.star.0 p.star.1 p.diagram.star_row p.diagram.star_column (each_cell p board friend t m whole (pos p.star.0) (pos p.star.1)),
          star_place,
        )

    -- a try ends at the move exactly if its diagram fits at an empty point where the friend may not play
    pub ends_at_move : (d : Depths) (advice : Advice)
        → (is_blocked board friend m && fits p board friend t m) ≡ eqb (part_at d advice p board friend t m) 1
    ends_at_move d advice = by (fits p board friend t m) (is_legal board friend m) refl refl
      where
        late : (n : ℕ) → 2 ≤ n → eqb n 1 ≡ false
        late n high = ne_eqb n 1 (λ is. omega (arith, high, is))

        by : (f l : Bool) → fits p board friend t m ≡ f → is_legal board friend m ≡ l
            → (is_blocked board friend m && fits p board friend t m) ≡ eqb (part_at d advice p board friend t m) 1
        by false l broken legal =
            ap (λ f. is_blocked board friend m && f) broken ∙ and-false (is_blocked board friend m)
            ∙ sym (ap (λ n. eqb n 1) (part-diagram d advice p board friend t m broken))
        by true false whole refused =
            ap (λ f. is_blocked board friend m && f) whole
            ∙ ap (λ e. (e && not (is_legal board friend m)) && true) (star_empty whole)
            ∙ ap (λ l. (true && not l) && true) refused
            ∙ sym (ap (λ n. eqb n 1) (part-move d advice p board friend t m whole refused))
        by true true whole legal =
            ap (λ l. (same_cell (cell_at board.cells m) Empty && not l) && fits p board friend t m) legal
            ∙ neither (same_cell (cell_at board.cells m) Empty) (fits p board friend t m)
            ∙ sym (late (part_at d advice p board friend t m) (part-late d advice p board friend t m whole legal))
          where
            neither : (a b : Bool) → ((a && false) && b) ≡ false
            neither true b = refl
            neither false b = refl

-- what a try has: a transformation below the number and a point of the board
pub try_within : (n s : ℕ) (try : ℕ × ℕ) → Contains (tries_among n (range_with_len 0 (s * s))) try
    → (try.0 < n) × (try.1 < s * s)
try_within n s try there =
    let of = Contains-flat_map (λ t. map (λ m. (t, m)) (range_with_len 0 (s * s))) (range_with_len 0 n) try there in
    let at = Contains-map (λ m. (of.0, m)) (range_with_len 0 (s * s)) try of.2 in (
      subst (λ t. t < n) (ap (λ (w : ℕ × ℕ). w.0) at.2) (Contains-below n of.0 of.1),
      subst (λ m. m < s * s) (ap (λ (w : ℕ × ℕ). w.1) at.2) (Contains-below (s * s) at.0 at.1),
    )

-- the tries at the points that pass a test
pub count-among : (f : ℕ × ℕ → Bool) (test : ℕ → Bool) (n : ℕ) (points : List ℕ)
    → count_by f (tries_among n (filter test points)) ≡ count_by (λ try. test try.1 && f try) (tries_among n points)
count-among f test n points =
    count-joined f (λ (try : ℕ × ℕ). test try.1 && f try) (λ t. map (λ m. (t, m)) (filter test points))
    (λ t. map (λ m. (t, m)) points) (range_with_len 0 n)
    (λ t. count-map f (λ m. (t, m)) (filter test points) ∙ count-filter (λ m. f (t, m)) test points
    ∙ sym (count-map (λ (try : ℕ × ℕ). test try.1 && f try) (λ m. (t, m)) points))

-- the tries whose diagram fits at the blocked points are those that end at the move
pub blocked_ends : (d : Depths) (advice : Advice) (p : Pattern) (board : BoardState) (friend : Colour)
    → count_by (λ try. fits p board friend try.0 try.1)
    (tries_among (count_of p.mark) (filter (is_blocked board friend) (range_with_len 0 (board.size * board.size))))
    ≡ ends_at d advice p board friend 1
unfolding ends_at
blocked_ends d advice p board friend =
    count-among (λ try. fits p board friend try.0 try.1) (is_blocked board friend) (count_of p.mark)
    (range_with_len 0 (board.size * board.size))
    ∙ count-same (λ (try : ℕ × ℕ). is_blocked board friend try.1 && fits p board friend try.0 try.1)
    (λ (try : ℕ × ℕ). eqb (part_at d advice p board friend try.0 try.1) 1) (tries_of p board.size)
    (λ try there.
    let within = try_within (count_of p.mark) board.size try there in
    ends_at_move p board friend try.0 try.1 (omega (arith, within.0, count_within p.mark)) within.1 d advice)

-- the blocked points lie on the board
pub blocked-on_board : (test : ℕ → Bool) (n : ℕ) → All (λ m. m < n) (filter test (range_with_len 0 n))
blocked-on_board test n k d low =
    Contains-below n (get_or (filter test (range_with_len 0 n)) k d)
    (Contains-filter test (range_with_len 0 n) (get_or (filter test (range_with_len 0 n)) k d)
    (Contains-get_or (filter test (range_with_len 0 n)) k d low)).0

-- they are no more than its points
pub blocked-few : (test : ℕ → Bool) (n : ℕ) → length (filter test (range_with_len 0 n)) ≤ n
blocked-few test n =
    let count = length-filter test (range_with_len 0 n) in
    let most = count_by-le-length test (range_with_len 0 n) in
    omega (arith, count, most, length-range_with_len 0 n)

-- the count under one transformation more, and its bound
pub fits-next : (f : ℕ × ℕ → Bool) (n : ℕ) (points : List ℕ) (before more after : ℕ)
    → before ≡ count_by f (tries_among n points) → before ≤ n * length points
    → more ≡ count_by (λ m. f (n, m)) points → after ≡ before + more
    → (after ≡ count_by f (tries_among (n + 1) points)) × (after ≤ (n + 1) * length points)
fits-next f n points before more after was low is now =
    grind (arith, count_by-le-length, range-next, flat_map-append, count-append, append-nil, count-map)
