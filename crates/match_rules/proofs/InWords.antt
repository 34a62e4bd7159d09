-- The test of a fit is the fact.
use Rattle.std.proofs.Common.{◌≡◌, ℕ, suc, ◌+◌, ◌<◌, inl, inr, Bool, true, false, ◌&&◌, cond, ltb, eqb, Option, Some}
use Rattle.std.proofs.Common.{None, Contains, refl, sym, ap, ◌∙◌, subst, arith, ℤ, pos, negsuc, ◌-ℤ◌, map}
use Rattle.std.specs.List.{range_with_len}
use Rattle.std.proofs.lemmas.Bool.{cases_Bool, ltb-true, lt-ltb, eqb-true, and_parts, false≢true}
use Rattle.std.proofs.lemmas.Int.{ints}
use Rattle.go_rules.specs.declared.Colour.{Colour}
use Rattle.go_rules.specs.Position.{BoardState}
use Rattle.go_rules.specs.Strings.{cell_at}
use Rattle.pat_types.specs.declared.letter.Letter.{Letter}
use Rattle.pat_types.specs.declared.cell.Drawn.{Drawn}
use Rattle.pat_types.specs.declared.cell.Drawn.TheVariants.{Nothing, OffBoard, Shows}
use Rattle.pat_types.specs.declared.cell.Strip.{Strip}
use Rattle.pat_types.specs.declared.cell.Strip.TheVariants.{Crosses, Edge, Beyond}
use Rattle.pat_types.specs.declared.pattern.Pattern.{Pattern}
use Rattle.pat_types.specs.Letters.{admits}
use Rattle.pat_types.specs.Cells.{strip_at, drawn_by, drawn_at}
use Rattle.match_rules.specs.Fits.{place_of_cell, letter_at, LetterFits, Fits, strip_cells, cells_of, drawn_fits}
use Rattle.match_rules.specs.Fits.{cell_fits, fits}
use Rattle.match_rules.proofs.Lists.{passes_each, passes_all, Contains-map_from, Contains-flat_map_from}
use Rattle.match_rules.proofs.Lists.{Contains-below_from}

-- a letter fits only on the board, where it admits what stands there
letter_on : (l : Letter) (board : BoardState) (friend : Colour) (o : Option ℕ)
    → drawn_fits (Shows l) board friend o ≡ true
    → (q : ℕ) × (o ≡ Some q) × (admits l (cell_at board.cells q) friend ≡ true)
letter_on l board friend None e = absurd (false≢true e)
letter_on l board friend (Some q) e = (q, refl, e)

-- an edge cell fits only off the board
edge_off : (board : BoardState) (friend : Colour) (o : Option ℕ) → drawn_fits OffBoard board friend o ≡ true → o ≡ None
edge_off board friend None e = refl
edge_off board friend (Some q) e = absurd (false≢true e)

-- the strip is drawn
abbrev is_strip : Strip → Bool
is_strip (Crosses k) = true
is_strip Edge = true
is_strip Beyond = false

-- a drawn strip is one of the letters' strips or of those beside them
strip_within : (n : ℕ) (before after : Bool) (z : ℤ) → is_strip (strip_at n before after z) ≡ true
    → (k : ℕ) × (k < n + 2) × (pos k -ℤ pos 1 ≡ z)
strip_within n before after (pos j) e = elim (cases_Bool (ltb j n)) [
  | inl low ↦ (suc j, omega (arith, ltb-true j n low), omega (arith, ints))
  | inr high ↦ elim (cases_Bool (eqb j n && after)) [
    | inl edge ↦ (suc j, omega (arith, eqb-true j n (and_parts (eqb j n) after edge).0), omega (arith, ints))
    | inr none ↦ absurd (false≢true
        (sym (ap (λ t. is_strip (cond t (Crosses j) (cond (eqb j n && after) Edge Beyond))) high
        ∙ ap (λ t. is_strip (cond t Edge Beyond)) none) ∙ e))
  ]
]
strip_within n before after (negsuc j) e = elim (cases_Bool (eqb j 0 && before)) [
  | inl edge ↦ (
    0,
    omega arith,
    let same : j ≡ 0 = eqb-true j 0 (and_parts (eqb j 0) before edge).0 in
        omega (arith, ints, same),
  )
  | inr none ↦ absurd (false≢true (sym (ap (λ t. is_strip (cond t Edge Beyond)) none) ∙ e))
]

-- a strip of the letters has its number
strip_crosses : (n k : ℕ) (before after : Bool) (z : ℤ) → strip_at n before after z ≡ Crosses k → (z ≡ pos k) × (k < n)
strip_crosses n k before after (pos j) e = elim (cases_Bool (ltb j n)) [
  | inl low ↦ let same : Crosses j ≡ Crosses k =
      sym (ap (λ t. cond t (Crosses j) (cond (eqb j n && after) Edge Beyond)) low) ∙ e in let number : j ≡ k = cc in
      (ap pos number, subst (λ i. i < n) number (ltb-true j n low))
  | inr high ↦ absurd (never (eqb j n && after)
      (sym (ap (λ t. cond t (Crosses j) (cond (eqb j n && after) Edge Beyond)) high) ∙ e))
]
  where
    never : (b : Bool) → cond b Edge Beyond ≡ Crosses k → ⊥
    never true h = cc
    never false h = cc
strip_crosses n k before after (negsuc j) e = absurd (never (eqb j 0 && before) e)
  where
    never : (b : Bool) → cond b Edge Beyond ≡ Crosses k → ⊥
    never true h = cc
    never false h = cc

-- the row and the column of a cell are drawn strips
record AreStrips (row column : Strip) : Type 0 where
  pub row_drawn : is_strip row ≡ true
  pub column_drawn : is_strip column ≡ true

-- something is drawn only where drawn strips meet
strips_meet : (p : Pattern) (row column : Strip) → (drawn_by p row column ≡ Nothing → ⊥) → AreStrips row column
strips_meet p Beyond column some = absurd (some refl)
strips_meet p Edge Beyond some = absurd (some refl)
strips_meet p Edge Edge some = record { row_drawn = refl; column_drawn = refl }
strips_meet p Edge (Crosses c) some = record { row_drawn = refl; column_drawn = refl }
strips_meet p (Crosses r) Beyond some = absurd (some refl)
strips_meet p (Crosses r) Edge some = record { row_drawn = refl; column_drawn = refl }
strips_meet p (Crosses r) (Crosses c) some = record { row_drawn = refl; column_drawn = refl }

-- a letter is drawn only where two strips of letters meet
letters_meet : (p : Pattern) (row column : Strip) (l : Letter) → drawn_by p row column ≡ Shows l
    → (r : ℕ) × (c : ℕ) × (row ≡ Crosses r) × (column ≡ Crosses c) × (letter_at p r c ≡ l)
letters_meet p Beyond column l e = absurd (let h : ⊥ = cc in h)
letters_meet p Edge Beyond l e = absurd (let h : ⊥ = cc in h)
letters_meet p Edge Edge l e = absurd (let h : ⊥ = cc in h)
letters_meet p Edge (Crosses c) l e = absurd (let h : ⊥ = cc in h)
letters_meet p (Crosses r) Beyond l e = absurd (let h : ⊥ = cc in h)
letters_meet p (Crosses r) Edge l e = absurd (let h : ⊥ = cc in h)
letters_meet p (Crosses r) (Crosses c) l e = (r, c, refl, refl, let same : letter_at p r c ≡ l = cc in same)

module _ (p : Pattern) where
  -- a cell that shows a letter is that letter's
  shown : (r c : ℤ) (l : Letter) → drawn_at p r c ≡ Shows l
      → (i : ℕ) × (j : ℕ) × (r ≡ pos i) × (c ≡ pos j) × (i < p.rows) × (j < p.cols) × (letter_at p i j ≡ l)
  unfolding drawn_at
  shown r c l e =
      let meet = letters_meet p (strip_at p.rows p.top p.bottom r) (strip_at p.cols p.left p.right c) l e in
      let row = strip_crosses p.rows meet.0 p.top p.bottom r meet.2 in
      let column = strip_crosses p.cols meet.1 p.left p.right c meet.3 in
      (meet.0, meet.1, row.0, column.0, row.1, column.1, meet.4)

  -- a letter's cell shows it
  pub shows : (i j : ℕ) → i < p.rows → j < p.cols → drawn_at p (pos i) (pos j) ≡ Shows (letter_at p i j)
  unfolding drawn_at
  shows i j low low' =
      ap (λ t. drawn_by p (cond t (Crosses i) (cond (eqb i p.rows && p.bottom) Edge Beyond))
      (strip_at p.cols p.left p.right (pos j))) (lt-ltb i p.rows low)
      ∙ ap (λ t. drawn_by p (Crosses i) (cond t (Crosses j) (cond (eqb j p.cols && p.right) Edge Beyond)))
      (lt-ltb j p.cols low')

  -- a cell in which something is drawn is one of the cells
  drawn_within : (r c : ℤ) → (drawn_at p r c ≡ Nothing → ⊥) → Contains (cells_of p) (r, c)
  unfolding drawn_at
  drawn_within r c some =
      let strips = strips_meet p (strip_at p.rows p.top p.bottom r) (strip_at p.cols p.left p.right c) some in
      Contains-flat_map_from (λ k. map (λ j. (k, j)) (strip_cells p.cols)) (strip_cells p.rows) r (r, c)
      (of_strip p.rows r (strip_within p.rows p.top p.bottom r strips.row_drawn))
      (Contains-map_from (λ j. (r, j)) (strip_cells p.cols) c
      (of_strip p.cols c (strip_within p.cols p.left p.right c strips.column_drawn)))
    where
      of_strip : (n : ℕ) (z : ℤ) → (k : ℕ) × (k < n + 2) × (pos k -ℤ pos 1 ≡ z) → Contains (strip_cells n) z
      of_strip n z strip =
          subst (Contains (strip_cells n)) strip.2 (Contains-map_from (λ k. pos k -ℤ pos 1)
          (range_with_len 0 (n + 2)) strip.0 (Contains-below_from (n + 2) strip.0 strip.1))

module _ (p : Pattern) (board : BoardState) (friend : Colour) (t m : ℕ) where
  -- a pattern that fits has each of its cells fit
  pub each_cell : fits p board friend t m ≡ true → (r c : ℤ) → cell_fits p board friend t m (r, c) ≡ true
  unfolding fits
  each_cell all r c = by (drawn_at p r c) refl
    where
      -- a cell in which something is drawn fits
      drawn : (drawn_at p r c ≡ Nothing → ⊥) → cell_fits p board friend t m (r, c) ≡ true
      drawn some = passes_each (cell_fits p board friend t m) (cells_of p) all (r, c) (drawn_within p r c some)

      by : (d : Drawn) → drawn_at p r c ≡ d → cell_fits p board friend t m (r, c) ≡ true
      by Nothing e = ap (λ d. drawn_fits d board friend (place_of_cell p board.size t m r c)) e
      by OffBoard e = drawn (λ none. let h : OffBoard ≡ Nothing = sym e ∙ none in cc)
      by (Shows l) e = drawn (λ none. let h : Shows l ≡ Nothing = sym e ∙ none in cc)

  -- a pattern fits if each of its cells does
  pub all_cells : ((r c : ℤ) → cell_fits p board friend t m (r, c) ≡ true) → fits p board friend t m ≡ true
  unfolding fits
  all_cells each = passes_all (cell_fits p board friend t m) (cells_of p) (λ cell there. each cell.0 cell.1)

  -- a letter's cell that fits lies on the board, and the letter admits what stands there
  pub letter_from_cell : (i j : ℕ) → i < p.rows → j < p.cols → cell_fits p board friend t m (pos i, pos j) ≡ true
      → LetterFits p board friend t m i j
  letter_from_cell i j low low' e =
      let on = letter_on (letter_at p i j) board friend (place_of_cell p board.size t m (pos i) (pos j))
      (sym (ap (λ d. drawn_fits d board friend (place_of_cell p board.size t m (pos i) (pos j))) (shows p i j low low'))
      ∙ e) in
      record { point = on.0; place = on.1; admitted = on.2 }

  -- a pattern whose cells fit fits
  fits_from_cells : ((r c : ℤ) → cell_fits p board friend t m (r, c) ≡ true) → Fits p board friend t m
  fits_from_cells each = record {
    letters = λ i j low low'. letter_from_cell i j low low' (each (pos i) (pos j));
    edges = λ r c edge. edge_off board friend (place_of_cell p board.size t m r c)
        (sym (ap (λ d. drawn_fits d board friend (place_of_cell p board.size t m r c)) edge) ∙ each r c);
  }

  -- a pattern that fits has its cells fit
  cells_from_fits : Fits p board friend t m → (r c : ℤ) → cell_fits p board friend t m (r, c) ≡ true
  cells_from_fits is r c = by (drawn_at p r c) refl
    where
      -- a letter's cell fits
      letter : (l : Letter) → (i : ℕ) × (j : ℕ) × (r ≡ pos i) × (c ≡ pos j) × (i < p.rows) × (j < p.cols)
          × (letter_at p i j ≡ l) → drawn_fits (Shows l) board friend (place_of_cell p board.size t m r c) ≡ true
      letter l at =
          let here = is.letters at.0 at.1 at.4 at.5 in
          let place : place_of_cell p board.size t m r c ≡ Some here.point =
          ap (λ z. place_of_cell p board.size t m z c) at.2 ∙ ap (place_of_cell p board.size t m (pos at.0)) at.3
          ∙ here.place in
          ap (drawn_fits (Shows l) board friend) place
          ∙ ap (λ k. admits k (cell_at board.cells here.point) friend) (sym at.6) ∙ here.admitted

      by : (d : Drawn) → drawn_at p r c ≡ d → cell_fits p board friend t m (r, c) ≡ true
      by Nothing e = ap (λ d. drawn_fits d board friend (place_of_cell p board.size t m r c)) e
      by OffBoard e =
          ap (λ d. drawn_fits d board friend (place_of_cell p board.size t m r c)) e
          ∙ ap (drawn_fits OffBoard board friend) (is.edges r c e)
      by (Shows l) e = ap (λ d. drawn_fits d board friend (place_of_cell p board.size t m r c)) e
          ∙ letter l (shown p r c l e)

  -- the test of a fit says the fact
  pub fits-true : fits p board friend t m ≡ true → Fits p board friend t m
  fits-true e = fits_from_cells (each_cell e)

  -- the fact makes the test of a fit true
  pub fits-from : Fits p board friend t m → fits p board friend t m ≡ true
  fits-from is = all_cells (cells_from_fits is)
