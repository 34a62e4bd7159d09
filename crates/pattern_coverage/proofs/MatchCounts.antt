-- How many matches of a pattern of a list pass a test: as many as its tries.
use Rattle.std.proofs.Common.{◌≡◌, ℕ, zero, suc, ◌+◌, ◌*◌, ◌<◌, Bool, false, ◌&&◌, eqb, List, []}
use Rattle.std.proofs.Common.{◌∷◌}
use Rattle.std.proofs.Common.{map, count_by, Some, slice_get, refl, sym, ap, ◌∙◌, arith}
use Rattle.std.specs.List.{flat_map, range_with_len, enumerate_from}
use Rattle.std.proofs.lemmas.Bool.{eq-eqb, ne_eqb}
use Rattle.std.proofs.Math.Bool.{and-false}
use Rattle.std.proofs.lemmas.Option.{none-some, same_Some}
use Rattle.pat_types.specs.declared.pattern.Pattern.{Pattern}
use Rattle.pat_types.specs.Marks.{count_of}
use Rattle.match_rules.specs.declared.found.Match.{Match}
use Rattle.match_rules.specs.Match.{matches_under, matches_of_one, matches_by}
use Rattle.pattern_coverage.specs.Ends.{tries_of}
use Rattle.pattern_coverage.proofs.ListCounts.{count-append, count-same, count-none, count-filter, count-map}
use Rattle.pattern_coverage.proofs.ListCounts.{count-joined}

module _ (q : ℕ → ℕ → Bool) (n s : ℕ) where
  -- the match is one of the pattern with the number n, and passes the test
  abbrev pub is_counted : Match → Bool
  is_counted z = eqb z.pattern n && q z.transform z.at

  module _ (test : ℕ → ℕ → Bool) (number : ℕ) where
    -- under one transformation
    under : (t : ℕ) → count_by is_counted (matches_under (test t) number t s)
        ≡ count_by (λ m. test t m && (eqb number n && q t m)) (range_with_len 0 (s * s))
    under t = grind (arith, count-map, count-filter)

    -- the matches of this pattern are its tries that pass both tests
    of_this : (p : Pattern) → number ≡ n → count_by is_counted (matches_of_one test number p s)
        ≡ count_by (λ try. test try.0 try.1 && q try.0 try.1) (tries_of p s)
    of_this p same =
        count-joined is_counted (λ (try : ℕ × ℕ). test try.0 try.1 && q try.0 try.1)
        (λ t. matches_under (test t) number t s) (λ t. map (λ m. (t, m)) (range_with_len 0 (s * s)))
        (range_with_len 0 (count_of p.mark))
        (λ t. under t
        ∙ count-same (λ m. test t m && (eqb number n && q t m)) (λ m. test t m && q t m) (range_with_len 0 (s * s))
        (λ m there. ap (λ b. test t m && (b && q t m)) (eq-eqb number n same))
        ∙ sym (count-map (λ (try : ℕ × ℕ). test try.0 try.1 && q try.0 try.1) (λ m. (t, m))
        (range_with_len 0 (s * s))))

    -- no match of another pattern is counted
    of_other : (p : Pattern) → (number ≡ n → ⊥) → count_by is_counted (matches_of_one test number p s) ≡ 0
    of_other p differ =
        count-joined is_counted (λ (z : Match). false) (λ t. matches_under (test t) number t s)
        (λ t. matches_under (test t) number t s) (range_with_len 0 (count_of p.mark))
        (λ t. under t
        ∙ count-none (λ m. test t m && (eqb number n && q t m)) (range_with_len 0 (s * s))
        (λ m. ap (λ b. test t m && (b && q t m)) (ne_eqb number n differ) ∙ and-false (test t m))
        ∙ sym (count-none (λ (z : Match). false) (matches_under (test t) number t s) (λ z. refl)))
        ∙ count-none (λ (z : Match). false) (matches_of_one test number p s) (λ z. refl)

  module _ (test : ℕ → Pattern → ℕ → ℕ → Bool) where
    -- the matches of the patterns that are numbered from i on
    abbrev from : ℕ → List Pattern → List Match
    from i patterns = flat_map (λ numbered. matches_of_one (test numbered.0 numbered.1) numbered.0 numbered.1 s)
        (enumerate_from i patterns)

    -- no pattern behind the number is counted
    later : (patterns : List Pattern) (i : ℕ) → n < i → count_by is_counted (from i patterns) ≡ 0
    later [] i low = refl
    later (x ∷ patterns) i low = grind (arith, count-append, of_other, later patterns (i + 1))

    -- the pattern at a place behind the first number
    counted_from : (patterns : List Pattern) (i j : ℕ) (p : Pattern) → slice_get patterns j ≡ Some p → i + j ≡ n
        → count_by is_counted (from i patterns)
        ≡ count_by (λ try. test n p try.0 try.1 && q try.0 try.1) (tries_of p s)
    counted_from [] i j p there is = absurd (none-some p there)
    counted_from (x ∷ patterns) i zero p there is = grind (arith, count-append, of_this, later, same_Some)
    counted_from (x ∷ patterns) i (suc j) p there is =
        grind (arith, count-append, of_other, counted_from patterns (i + 1) j p there)

    -- the matches of the pattern with the number that pass the test are its tries that pass both tests
    pub counted : (patterns : List Pattern) (p : Pattern) → slice_get patterns n ≡ Some p
        → count_by is_counted (matches_by test patterns s)
        ≡ count_by (λ try. test n p try.0 try.1 && q try.0 try.1) (tries_of p s)
    counted patterns p there = counted_from patterns 0 n p there (omega arith)
