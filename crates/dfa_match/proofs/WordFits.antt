-- A word matches a pattern exactly if the pattern fits.
use Rattle.std.proofs.Common.{◌≡◌, ℕ, zero, suc, ◌+◌, ◌<◌, ◌≤◌, true, false, not, eqb, length, Option, ℤ, pos, ◌+ℤ◌}
use Rattle.std.proofs.Common.{◌-ℤ◌, refl, sym, ap, ◌∙◌, subst, arith, ◌⊎◌, inl, inr}
use Rattle.std.proofs.lemmas.Int.{ints}
use Rattle.std.proofs.lemmas.Bool.{cases_Bool, cases_eq, or_parts, or_from, and_parts, and_from, not-false, not-true}
use Rattle.std.proofs.lemmas.Bool.{not_from_true, not_from_false, eq-eqb, both_ways, false≢true}
use Rattle.go_rules.specs.declared.Colour.{Colour}
use Rattle.go_rules.specs.Position.{BoardState}
use Rattle.spiral.specs.Spiral.{offset_at, place_at, offset_count}
use Rattle.spiral.proofs.Indexes.{offset_exists}
use Rattle.pat_types.specs.declared.cell.Drawn.{Drawn}
use Rattle.pat_types.specs.declared.cell.Drawn.TheVariants.{Nothing, OffBoard, Shows}
use Rattle.pat_types.specs.declared.pattern.Pattern.{Pattern}
use Rattle.pat_types.specs.Cells.{drawn_at, anchor_of}
use Rattle.dfa_core.specs.declared.automaton.Seen.{Seen}
use Rattle.dfa_core.specs.Fits.{drawn_admits, drawn_along, admits, is_drawn, refuted_from, length_below, pattern_length}
use Rattle.dfa_core.specs.States.{is_matched}
use Rattle.dfa_core.proofs.Lengths.{length_below-drawn, length_below-blank}
use Rattle.dfa_match.specs.SeenLetters.{seen_at, seen_at_place, word_from, word_at}
use Rattle.dfa_match.specs.Fitting.{FitsAt}
use Rattle.dfa_match.proofs.SeenWords.{word_from-suc, word_from-zero, word_length}
use Rattle.dfa_match.proofs.AdmittedLetters.{fits_seen}
use Rattle.dfa_core.proofs.Bounds.{drawn_near}

module _ (p : Pattern) (seen : ℕ → Seen) where
  -- a word that is not refuted has admitted letters
  all_admitted : (i n : ℕ) → refuted_from p i (word_from seen i n) ≡ false → (k : ℕ) → i ≤ k → k < i + n
      → admits p k (seen k) ≡ true
  all_admitted i zero e k low high = absurd (omega arith)
  all_admitted i (suc n) e k low high =
      let parts = or_parts (not (admits p i (seen i))) (refuted_from p (suc i) (word_from seen (suc i) n))
      (sym (ap (refuted_from p i) (word_from-suc seen i n)) ∙ e) in
      elim (cases_eq k i) [
        | inl here ↦ subst (λ j. admits p j (seen j) ≡ true) (sym here) (not-false (admits p i (seen i)) parts.0)
        | inr later ↦ all_admitted (suc i) n parts.1 k (omega arith) (omega arith)
      ]

  -- a word whose letters are all admitted is not refuted
  not_refuted : (i n : ℕ) → ((k : ℕ) → i ≤ k → k < i + n → admits p k (seen k) ≡ true)
      → refuted_from p i (word_from seen i n) ≡ false
  not_refuted i zero all = ap (refuted_from p i) (word_from-zero seen i)
  not_refuted i (suc n) all =
      ap (refuted_from p i) (word_from-suc seen i n)
      ∙ or_from (not (admits p i (seen i))) (refuted_from p (suc i) (word_from seen (suc i) n))
      (not_from_true (admits p i (seen i)) (all i (omega arith) (omega arith)))
      (not_refuted (suc i) n (λ k low high. all k (omega arith) (omega arith)))

-- an index with a drawn cell is below the length
drawn_below : (p : Pattern) (n i : ℕ) → i < n → is_drawn (drawn_along p i) ≡ true → i < length_below p n
drawn_below p zero i low drawn = absurd (omega arith)
drawn_below p (suc n) i low drawn =
    grind (arith, cases_Bool, length_below-drawn, cases_eq, both_ways, length_below-blank, drawn_below p n i)

-- if nothing is drawn anything is admitted
blank_admits : (d : Drawn) (x : Seen) → is_drawn d ≡ false → drawn_admits d x ≡ true
blank_admits Nothing x e = refl
blank_admits OffBoard x e = absurd (false≢true (sym e))
blank_admits (Shows l) x e = absurd (false≢true (sym e))

-- what is drawn along is what is drawn in the cell
along_is : (p : Pattern) (i : ℕ)
    → drawn_along p i ≡ drawn_at p (pos (anchor_of p).0 +ℤ (offset_at i).0) (pos (anchor_of p).1 +ℤ (offset_at i).1)
unfolding drawn_along
along_is p i = refl

-- what is seen at an index is what is seen at its place
seen_is : (at : BoardState) (friend : Colour) (t m i : ℕ)
    → seen_at at friend t m i ≡ seen_at_place at friend (place_at at.size t m (offset_at i))
unfolding seen_at
seen_is at friend t m i = refl

-- an index with a drawn cell is below the pattern's length
below_length : (p : Pattern) (i : ℕ) → i < offset_count → is_drawn (drawn_along p i) ≡ true → i < pattern_length p
unfolding pattern_length
below_length p i low drawn = drawn_below p offset_count i low drawn

module _ (p : Pattern) (at : BoardState) (friend : Colour) (t m : ℕ) where
  -- the place of a cell
  abbrev place : ℤ → ℤ → Option ℕ
  place r c = place_at at.size t m (r -ℤ pos (anchor_of p).0, c -ℤ pos (anchor_of p).1)

  -- what is seen at the place of a cell
  abbrev see : ℤ → ℤ → Seen
  see r c = seen_at_place at friend (place r c)

  -- where the word matches, the pattern fits
  pub fits_from_match : is_matched (word_at at friend t m (pattern_length p)) p ≡ true → FitsAt p at friend t m
  fits_from_match matched =
      record {
        cells = λ r c. fits_seen (drawn_at p r c) at friend (place r c)
            ∙ by r c (cases_Bool (is_drawn (drawn_at p r c)));
      }
    where
      admitted : (k : ℕ) → k < pattern_length p → admits p k (seen_at at friend t m k) ≡ true
      admitted k low =
          all_admitted p (seen_at at friend t m) 0 (pattern_length p)
          (not-true _ (and_parts (eqb (length (word_at at friend t m (pattern_length p))) (pattern_length p)) _
          matched).1) k (omega arith) (omega arith)

      drawn_cell : (r c : ℤ) (i : ℕ) → i < offset_count
          → offset_at i ≡ (r -ℤ pos (anchor_of p).0, c -ℤ pos (anchor_of p).1) → is_drawn (drawn_at p r c) ≡ true
          → drawn_admits (drawn_at p r c) (see r c) ≡ true
      drawn_cell r c i low o drawn =
          let row : pos (anchor_of p).0 +ℤ (offset_at i).0 ≡ r =
          ap (λ d. pos (anchor_of p).0 +ℤ d.0) o ∙ (omega (arith, ints)) in
          let column : pos (anchor_of p).1 +ℤ (offset_at i).1 ≡ c =
          ap (λ d. pos (anchor_of p).1 +ℤ d.1) o ∙ (omega (arith, ints)) in
          let cell : drawn_along p i ≡ drawn_at p r c =
          along_is p i ∙ ap (λ x. drawn_at p x (pos (anchor_of p).1 +ℤ (offset_at i).1)) row
          ∙ ap (drawn_at p r) column in
          let sight : seen_at at friend t m i ≡ see r c =
          seen_is at friend t m i ∙ ap (λ d. seen_at_place at friend (place_at at.size t m d)) o in
          let below : i < pattern_length p = in_length i low (ap is_drawn cell ∙ drawn) in
          sym (ap (λ d. drawn_admits d (seen_at at friend t m i)) cell ∙ ap (drawn_admits (drawn_at p r c)) sight)
          ∙ admitted i below
        where
          in_length : (i : ℕ) → i < offset_count → is_drawn (drawn_along p i) ≡ true → i < pattern_length p
          in_length i low drawn = below_length p i low drawn

      by : (r c : ℤ) → (is_drawn (drawn_at p r c) ≡ true) ⊎ (is_drawn (drawn_at p r c) ≡ false)
          → drawn_admits (drawn_at p r c) (see r c) ≡ true
      by r c (inr blank) = blank_admits (drawn_at p r c) (see r c) blank
      by r c (inl drawn) = let found = offset_exists _ (drawn_near p r c drawn) in
          drawn_cell r c found.0 found.1 found.2 drawn

  -- if the pattern fits, the word matches
  pub match_from_fits : FitsAt p at friend t m → is_matched (word_at at friend t m (pattern_length p)) p ≡ true
  match_from_fits fits =
      and_from (eqb (length (word_at at friend t m (pattern_length p))) (pattern_length p)) _
      (eq-eqb _ _ (word_length (seen_at at friend t m) 0 (pattern_length p)))
      (not_from_false _ (not_refuted p (seen_at at friend t m) 0 (pattern_length p) (λ k low high. along k)))
    where
      along : (k : ℕ) → admits p k (seen_at at friend t m k) ≡ true
      along k =
          let r : ℤ = pos (anchor_of p).0 +ℤ (offset_at k).0 in
          let c : ℤ = pos (anchor_of p).1 +ℤ (offset_at k).1 in
          let row : r -ℤ pos (anchor_of p).0 ≡ (offset_at k).0 = omega (arith, ints) in
          let column : c -ℤ pos (anchor_of p).1 ≡ (offset_at k).1 = omega (arith, ints) in
          let o : (r -ℤ pos (anchor_of p).0, c -ℤ pos (anchor_of p).1) ≡ offset_at k = λ i. (row i, column i) in
          ap (λ d. drawn_admits d (seen_at at friend t m k)) (along_is p k)
          ∙ ap (drawn_admits (drawn_at p r c)) (seen_is at friend t m k
          ∙ ap (λ d. seen_at_place at friend (place_at at.size t m d)) (sym o))
          ∙ sym (fits_seen (drawn_at p r c) at friend (place r c)) ∙ fits.cells r c
