-- Ends that are counted one after another.
use Rattle.std.proofs.Common.{inl, inr, ◌≡◌, ℕ, ◌+◌, ◌-◌, ◌<◌, ◌≤◌, ◌^◌, true, false, ◌&&◌, cond, eqb, List, []}
use Rattle.std.proofs.Common.{◌∷◌, ◌++◌, length, get_or, count_by, min, Some, slice_get, slice_index, refl, sym, ap}
use Rattle.std.proofs.Common.{◌∙◌, subst, arith}
use Rattle.std.proofs.Common.{set as set_at, length-set}
use Rattle.std.proofs.Math.Nat.{min-eq_left, min-eq_right}
use Rattle.std.proofs.lemmas.Bool.{cases_eq, cases_lt, eq-eqb, ne_eqb}
use Rattle.std.proofs.lemmas.List.{get_or-set_other}
use Rattle.std.proofs.lemmas.Grind.{get_or-set_at}
use Rattle.std.proofs.lemmas.Option.{slice_get_within, slice_get-get_or, get_or_from_slice_get}
use Rattle.pattern_coverage.specs.declared.counts.PartCounts.{PartCounts}
use Rattle.pattern_coverage.specs.declared.ends.End.{End}
use Rattle.pattern_coverage.specs.Tally.{IsTallyOf}
use Rattle.pattern_coverage.proofs.ListCounts.{count-append, count-cons}

-- a count that goes as far as a u64, and one more
one_more : (n before after : ℕ) → before ≡ min n (2 ^ 64 - 1) → after ≡ min (before + 1) (2 ^ 64 - 1)
    → after ≡ min (n + 1) (2 ^ 64 - 1)
one_more n before after was now = grind (arith, cases_lt, min-eq_left, min-eq_right)

module _ (ends : List End) (end : End) where
  -- an end at another part, or of another pattern
  counted-same : (place part : ℕ) → (eqb end.pattern place && eqb end.part part) ≡ false
      → count_by (λ e. eqb e.pattern place && eqb e.part part) (ends ++ end ∷ [])
      ≡ count_by (λ e. eqb e.pattern place && eqb e.part part) ends
  counted-same place part other = grind (arith, count-cons, count-append)

  -- an end at this part of this pattern
  counted-more : (place part : ℕ) → (eqb end.pattern place && eqb end.part part) ≡ true
      → count_by (λ e. eqb e.pattern place && eqb e.part part) (ends ++ end ∷ [])
      ≡ count_by (λ e. eqb e.pattern place && eqb e.part part) ends + 1
  counted-more place part same = grind (arith, count-cons, count-append)

  module _ (counts : List PartCounts) (are : IsTallyOf ends counts) where
    -- an end of a pattern that has no place changes no count
    pub tally-past : length counts ≤ end.pattern → IsTallyOf (ends ++ end ∷ []) counts
    tally-past past place part c there low =
        let within : place < length counts = slice_get_within counts place c there in
        are place part c there low
        ∙ sym (ap (λ n. min n (2 ^ 64 - 1)) (counted-same place part
        (ap (λ b. b && eqb end.part part)
        (ne_eqb end.pattern place (λ same. omega (arith, same, past, within))))))

    module _ (was one : PartCounts) (there : slice_get counts end.pattern ≡ Some was)
        (counted : (part : ℕ) → part < 7 → slice_index one.counts part
        ≡ cond (eqb part end.part) (min (slice_index was.counts part + 1) (2 ^ 64 - 1)) (slice_index was.counts part))
      where
        -- the counts of the end's own pattern
        own : (part : ℕ) → part < 7 → slice_index one.counts part
            ≡ min (count_by (λ e. eqb e.pattern end.pattern && eqb e.part part) (ends ++ end ∷ [])) (2 ^ 64 - 1)
        own part low = elim (cases_eq part end.part) [
          | inl same ↦
              let before = are end.pattern part was there low in
              let test : (eqb end.pattern end.pattern && eqb end.part part) ≡ true =
              ap (λ b. b && eqb end.part part) (eq-eqb end.pattern end.pattern refl)
              ∙ eq-eqb end.part part (sym same) in
              one_more (count_by (λ e. eqb e.pattern end.pattern && eqb e.part part) ends)
              (slice_index was.counts part) (slice_index one.counts part) before
              (counted part low
              ∙ ap (λ b. cond b (min (slice_index was.counts part + 1) (2 ^ 64 - 1)) (slice_index was.counts part))
              (eq-eqb part end.part same))
              ∙ sym (ap (λ n. min n (2 ^ 64 - 1)) (counted-more end.pattern part test))
          | inr other ↦
              let test : (eqb end.pattern end.pattern && eqb end.part part) ≡ false =
              ap (λ b. b && eqb end.part part) (eq-eqb end.pattern end.pattern refl)
              ∙ ne_eqb end.part part (λ same. other (sym same)) in
              counted part low
              ∙ ap (λ b. cond b (min (slice_index was.counts part + 1) (2 ^ 64 - 1)) (slice_index was.counts part))
              (ne_eqb part end.part other)
              ∙ are end.pattern part was there low
              ∙ sym (ap (λ n. min n (2 ^ 64 - 1)) (counted-same end.pattern part test))
        ]

        -- the counts of all patterns with one end more
        pub tally-more : IsTallyOf (ends ++ end ∷ []) (set_at counts end.pattern one)
        tally-more place part c is low =
            let within : end.pattern < length counts = slice_get_within counts end.pattern was there in
            let on : place < length counts =
            subst (λ n. place < n) (length-set counts end.pattern one)
            (slice_get_within (set_at counts end.pattern one) place c is) in
            let read : get_or (set_at counts end.pattern one) place c ≡ c =
            get_or_from_slice_get (set_at counts end.pattern one) place c c is in
            elim (cases_eq place end.pattern) [
              | inl same ↦
                  let new : c ≡ one = sym read ∙ get_or-set_at counts end.pattern place one c same within in
                  ap (λ (k : PartCounts). slice_index k.counts part) new
                  ∙ own part low
                  ∙ ap (λ n. min (count_by (λ e. eqb e.pattern n && eqb e.part part) (ends ++ end ∷ [])) (2 ^ 64 - 1))
                  (sym same)
              | inr other ↦
                  let old : get_or counts place c ≡ c =
                  sym (get_or-set_other counts end.pattern place one c other) ∙ read in
                  are place part c (slice_get-get_or counts place c on ∙ ap Some old) low
                  ∙ sym (ap (λ n. min n (2 ^ 64 - 1)) (counted-same place part
                  (ap (λ b. b && eqb end.part part) (ne_eqb end.pattern place (λ same. other (sym same))))))
            ]
