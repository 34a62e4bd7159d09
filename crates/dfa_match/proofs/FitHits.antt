-- The hits of the automaton of a list of patterns.
use Rattle.std.proofs.Common.{◌≡◌, ℕ, zero, suc, ◌+◌, ◌-◌, ◌≤◌, Bool, true, false, not, cond, eqb, List, [], ◌∷◌}
use Rattle.std.proofs.Common.{length, Contains, Some, slice_get, refl, sym, ap, ◌∙◌, subst, arith, inl, inr}
use Rattle.std.proofs.lemmas.Bool.{and_parts, eqb-true}
use Rattle.std.proofs.lemmas.List.Elements.{Contains-append_cases, Contains-append_right}
use Rattle.go_rules.specs.declared.Colour.{Colour}
use Rattle.go_rules.specs.Position.{BoardState}
use Rattle.pat_types.specs.declared.pattern.Pattern.{Pattern}
use Rattle.dfa_core.specs.Words.{Word}
use Rattle.dfa_core.specs.Automata.{Row}
use Rattle.dfa_core.specs.Fits.{pattern_length, is_refuted}
use Rattle.dfa_core.specs.States.{is_matched, matched_from, IsAutomatonOf}
use Rattle.dfa_core.proofs.Lengths.{pattern_length-most}
use Rattle.dfa_match.specs.declared.Hit.{Hit}
use Rattle.dfa_match.specs.SeenLetters.{seen_at, word_at}
use Rattle.dfa_match.specs.Hits.{IsHit}
use Rattle.dfa_match.specs.Fitting.{IsFit}
use Rattle.dfa_match.proofs.SeenWords.{word_length}
use Rattle.dfa_match.proofs.WordFits.{fits_from_match, match_from_fits}

-- a number among those from k on is that of a pattern that matches
pub record IsNumbered (k : ℕ) (ps : List Pattern) (w : Word) (n : ℕ) : Type 0 where
  pub pattern : Pattern
  pub from : k ≤ n
  pub number : slice_get ps (n - k) ≡ Some pattern
  pub matched : is_matched w pattern ≡ true

-- one from k + 1 on among the others is one from k on among all
numbered_later : (k : ℕ) (p : Pattern) (ps : List Pattern) (w : Word) (n : ℕ) → IsNumbered (suc k) ps w n
    → IsNumbered k (p ∷ ps) w n
numbered_later k p ps w n there =
    let next : n - k ≡ suc (n - suc k) = omega (arith, there.from) in
    record {
      pattern = there.pattern;
      from = omega (arith, there.from);
      number = ap (slice_get (p ∷ ps)) next ∙ there.number;
      matched = there.matched;
    }

-- k itself is a number only if the first pattern matches
numbered_first : (k : ℕ) (p : Pattern) (ps : List Pattern) (w : Word) (n : ℕ) (b : Bool) → is_matched w p ≡ b
    → Contains (cond b (k ∷ []) []) n → IsNumbered k (p ∷ ps) w n
numbered_first k p ps w n true hit (zero, l, e) =
    let none : n - k ≡ 0 = omega (arith, e) in
    record { pattern = p; from = omega (arith, e); number = ap (slice_get (p ∷ ps)) none; matched = hit }
numbered_first k p ps w n true hit (suc i, l, e) = absurd (omega (arith, l))
numbered_first k p ps w n false miss at = absurd (omega (arith, at.1))

-- each of these numbers is that of a pattern that matches
numbered : (k : ℕ) (ps : List Pattern) (w : Word) (n : ℕ) → Contains (matched_from k ps w) n → IsNumbered k ps w n
numbered k [] w n here = absurd (omega (arith, here.1))
numbered k (p ∷ ps) w n here =
    elim (Contains-append_cases (cond (is_matched w p) (k ∷ []) []) (matched_from (suc k) ps w) n here) [
      | inl first ↦ numbered_first k p ps w n (is_matched w p) refl first
      | inr later ↦ numbered_later k p ps w n (numbered (suc k) ps w n later)
    ]

-- and each pattern that matches has its number among them
number_of : (k : ℕ) (ps : List Pattern) (w : Word) (i : ℕ) (p : Pattern) → slice_get ps i ≡ Some p
    → is_matched w p ≡ true → Contains (matched_from k ps w) (k + i)
number_of k [] w i p at matched = absurd (let h : ⊥ = cc in h)
number_of k (q ∷ ps) w zero p at matched = grind arith
number_of k (q ∷ ps) w (suc i) p at matched =
    let sums : suc k + i ≡ k + suc i = omega arith in
    Contains-append_right (cond (is_matched w q) (k ∷ []) []) (matched_from (suc k) ps w) (k + suc i)
    (subst (Contains (matched_from (suc k) ps w)) sums (number_of (suc k) ps w i p at matched))

module _ (patterns : List Pattern) (automaton : List Row) (at : BoardState) (friend : Colour) (hit : Hit)
    (accepts : IsAutomatonOf patterns automaton) where
  -- what the automaton accepts is a pattern that fits
  pub fit_from_hit : IsHit automaton at friend hit → IsFit patterns at friend hit
  fit_from_hit is =
      let w : Word = word_at at friend hit.transform hit.anchor is.letters in
      let found = numbered 0 patterns w hit.pattern (accepts.sound w hit.pattern is.accepts) in
      let none : hit.pattern ≡ hit.pattern - 0 = omega arith in
      let long : is.letters ≡ pattern_length found.pattern =
      sym (word_length (seen_at at friend hit.transform hit.anchor) 0 is.letters)
      ∙ eqb-true _ _ (and_parts (eqb (length w) (pattern_length found.pattern))
      (not (is_refuted found.pattern w)) found.matched).0 in
      record {
        transform = is.transform;
        anchor = is.anchor;
        pattern = found.pattern;
        number = ap (slice_get patterns) none ∙ found.number;
        fits = fits_from_match found.pattern at friend hit.transform hit.anchor
            (subst (λ n. is_matched (word_at at friend hit.transform hit.anchor n) found.pattern ≡ true) long
            found.matched);
      }

  -- a pattern that fits is accepted by the automaton
  pub hit_from_fit : IsFit patterns at friend hit → IsHit automaton at friend hit
  hit_from_fit is =
      let w : Word = word_at at friend hit.transform hit.anchor (pattern_length is.pattern) in
      let none : 0 + hit.pattern ≡ hit.pattern = omega arith in
      let matched = match_from_fits is.pattern at friend hit.transform hit.anchor is.fits in
      record {
        transform = is.transform;
        anchor = is.anchor;
        letters = pattern_length is.pattern;
        spiral = pattern_length-most is.pattern;
        accepts = accepts.complete w hit.pattern (subst (Contains (matched_from 0 patterns w)) none
            (number_of 0 patterns w hit.pattern is.pattern is.number matched));
      }
