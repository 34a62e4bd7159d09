-- What is in the lists of matches, and in what order.
use Rattle.std.proofs.Common.{◌≡◌, ℕ, ◌+◌, ◌-◌, ◌*◌, ◌<◌, ◌⊎◌, inl, inr, Bool, true, List, filter, Contains, Some}
use Rattle.std.proofs.Common.{slice_get}
use Rattle.std.proofs.Common.{refl, sym, ap, ◌∙◌, subst, arith}
use Rattle.std.specs.List.{range_with_len, enumerate_from, AllPairs}
use Rattle.std.proofs.lemmas.Bool.{cases_order}
use Rattle.std.proofs.lemmas.List.Kept.{AllPairs-filter}
use Rattle.pat_types.specs.declared.pattern.Pattern.{Pattern}
use Rattle.pat_types.specs.Marks.{count_of}
use Rattle.match_rules.specs.declared.found.Match.{Match}
use Rattle.match_rules.specs.Match.{matches_under, matches_of_one, matches_by, ComesBefore}
use Rattle.match_rules.proofs.Lists.{same_in_order, Contains-map, Contains-map_from, Contains-flat_map}
use Rattle.match_rules.proofs.Lists.{Contains-flat_map_from, Contains-filter, Contains-filter_from, Contains-below}
use Rattle.match_rules.proofs.Lists.{Contains-below_from, range_rises, Contains-enumerate, Contains-enumerate_from}
use Rattle.match_rules.proofs.Lists.{enumerate_rises, AllPairs-map, AllPairs-flat_map}

-- nothing comes before what comes before it
pub one_way : (y z : Match) → ComesBefore y z → ComesBefore z y → ⊥
one_way y z (inl a) (inl b) = omega arith
one_way y z (inl a) (inr (e, b)) = omega arith
one_way y z (inr (e, a)) (inl b) = omega arith
one_way y z (inr (e, inl a)) (inr (f, inl b)) = omega arith
one_way y z (inr (e, inl a)) (inr (f, inr (g, b))) = omega arith
one_way y z (inr (e, inr (h, a))) (inr (f, inl b)) = omega arith
one_way y z (inr (e, inr (h, a))) (inr (f, inr (g, b))) = omega arith

-- of two matches one comes before the other, or they are the same
pub which_first : (y z : Match) → ComesBefore y z ⊎ ((y ≡ z) ⊎ ComesBefore z y)
which_first y z = grind (arith, cases_order)

-- a match that comes before one that comes before a third comes before the third
pub before_both : (x y z : Match) → ComesBefore x y → ComesBefore y z → ComesBefore x z
before_both x y z (inl a) (inl b) = inl (omega arith)
before_both x y z (inl a) (inr (f, b)) = inl (omega arith)
before_both x y z (inr (e, a)) (inl b) = inl (omega arith)
before_both x y z (inr (e, inl a)) (inr (f, inl b)) = inr (e ∙ f, inl (omega arith))
before_both x y z (inr (e, inl a)) (inr (f, inr (g, b))) = inr (e ∙ f, inl (omega arith))
before_both x y z (inr (e, inr (h, a))) (inr (f, inl b)) = inr (e ∙ f, inl (omega arith))
before_both x y z (inr (e, inr (h, a))) (inr (f, inr (g, b))) = inr (e ∙ f, inr (h ∙ g, omega arith))

-- two lists of matches in order with the same elements are the same
pub same_matches : (ys zs : List Match) → AllPairs ComesBefore ys → AllPairs ComesBefore zs
    → ((z : Match) → Contains ys z → Contains zs z) → ((z : Match) → Contains zs z → Contains ys z) → ys ≡ zs
same_matches = same_in_order ComesBefore one_way

-- a match by its three parts
abbrev pub match_with : ℕ → ℕ → ℕ → Match
match_with number t m = record { pattern = number; transform = t; at = m }

-- z is the match under t at a point that passes the test
record IsUnder (test : ℕ → Bool) (number t s : ℕ) (z : Match) : Type 0 where
  pub pattern : z.pattern ≡ number
  pub transform : z.transform ≡ t
  pub at : z.at < s * s
  pub passes : test z.at ≡ true

-- what is in the matches under one transformation
under-has : (test : ℕ → Bool) (number t s : ℕ) (z : Match) → Contains (matches_under test number t s) z
    → IsUnder test number t s z
under-has test number t s z there =
    let from = Contains-map (match_with number t) (filter test (range_with_len 0 (s * s))) z there in
    let kept = Contains-filter test (range_with_len 0 (s * s)) from.0 from.1 in
    let same : from.0 ≡ z.at = ap (λ (y : Match). y.at) from.2 in
    record {
      pattern = sym (ap (λ (y : Match). y.pattern) from.2);
      transform = sym (ap (λ (y : Match). y.transform) from.2);
      at = subst (λ m. m < s * s) same (Contains-below (s * s) from.0 kept.0);
      passes = subst (λ m. test m ≡ true) same kept.1;
    }

-- the match at a point that passes is among those under its transformation
under-from : (test : ℕ → Bool) (number t s m : ℕ) → m < s * s → test m ≡ true
    → Contains (matches_under test number t s) (match_with number t m)
under-from test number t s m on passes =
    Contains-map_from (match_with number t) (filter test (range_with_len 0 (s * s))) m
    (Contains-filter_from test (range_with_len 0 (s * s)) m (Contains-below_from (s * s) m on) passes)

-- the matches under one transformation are in order
under-in_order : (test : ℕ → Bool) (number t s : ℕ) → AllPairs ComesBefore (matches_under test number t s)
under-in_order test number t s =
    AllPairs-map ComesBefore (match_with number t) (filter test (range_with_len 0 (s * s)))
    (λ i j d l k. inr (
      refl,
      inr (
        refl,
        AllPairs-filter (λ m n. m < n) test (range_with_len 0 (s * s))
            (range_rises 0 (s * s)) i j d l k,
      ),
    ))

-- z is the match of the pattern under one of its transformations at a point, and passes the test
record IsOf (test : ℕ → ℕ → Bool) (number : ℕ) (p : Pattern) (s : ℕ) (z : Match) : Type 0 where
  pub pattern : z.pattern ≡ number
  pub transform : z.transform < count_of p.mark
  pub at : z.at < s * s
  pub passes : test z.transform z.at ≡ true

-- what is in the matches of one pattern
one-has : (test : ℕ → ℕ → Bool) (number : ℕ) (p : Pattern) (s : ℕ) (z : Match)
    → Contains (matches_of_one test number p s) z → IsOf test number p s z
one-has test number p s z there =
    let from = Contains-flat_map (λ t. matches_under (test t) number t s)
    (range_with_len 0 (count_of p.mark)) z there in
    let under = under-has (test from.0) number from.0 s z from.2 in
    record {
      pattern = under.pattern;
      transform = subst (λ t. t < count_of p.mark) (sym under.transform)
          (Contains-below (count_of p.mark) from.0 from.1);
      at = under.at;
      passes = subst (λ t. test t z.at ≡ true) (sym under.transform) under.passes;
    }

-- a match under one of the transformations is among those of its pattern
one-from : (test : ℕ → ℕ → Bool) (number : ℕ) (p : Pattern) (s t m : ℕ) → t < count_of p.mark → m < s * s
    → test t m ≡ true → Contains (matches_of_one test number p s) (match_with number t m)
one-from test number p s t m low on passes =
    Contains-flat_map_from (λ u. matches_under (test u) number u s) (range_with_len 0 (count_of p.mark)) t
    (match_with number t m)
    (Contains-below_from (count_of p.mark) t low) (under-from (test t) number t s m on passes)

-- the matches of one pattern are in order
one-in_order : (test : ℕ → ℕ → Bool) (number : ℕ) (p : Pattern) (s : ℕ)
    → AllPairs ComesBefore (matches_of_one test number p s)
one-in_order test number p s =
    AllPairs-flat_map ComesBefore (λ t u. t < u) (λ t. matches_under (test t) number t s)
    (range_with_len 0 (count_of p.mark)) (range_rises 0 (count_of p.mark))
    (λ t. under-in_order (test t) number t s)
    (λ t u y z low here there.
    let first = under-has (test t) number t s y here in
    let second = under-has (test u) number u s z there in
    inr (first.pattern ∙ sym second.pattern, inl (omega (arith, first.transform, second.transform, low))))

-- z is the match of one of the patterns under one of its transformations at a point, and passes the test
pub record IsBy (test : ℕ → Pattern → ℕ → ℕ → Bool) (patterns : List Pattern) (s : ℕ) (z : Match) : Type 0 where
  pub pattern : Pattern
  pub number : slice_get patterns z.pattern ≡ Some pattern
  pub transform : z.transform < count_of pattern.mark
  pub at : z.at < s * s
  pub passes : test z.pattern pattern z.transform z.at ≡ true

module _ (test : ℕ → Pattern → ℕ → ℕ → Bool) (patterns : List Pattern) (s : ℕ) where
  -- the matches of one numbered pattern
  abbrev of_numbered : ℕ × Pattern → List Match
  of_numbered numbered = matches_of_one (test numbered.0 numbered.1) numbered.0 numbered.1 s

  -- what is in the matches of all patterns
  pub by-has : (z : Match) → Contains (matches_by test patterns s) z → IsBy test patterns s z
  by-has z there =
      let from = Contains-flat_map of_numbered (enumerate_from 0 patterns) z there in
      let of = one-has (test from.0.0 from.0.1) from.0.0 from.0.1 s z from.2 in
      let at_number = (Contains-enumerate 0 patterns from.0 from.1).1 in
      let number : from.0.0 - 0 ≡ z.pattern = omega (arith, of.pattern) in
      record {
        pattern = from.0.1;
        number = ap (slice_get patterns) (sym number) ∙ at_number;
        transform = of.transform;
        at = of.at;
        passes = subst (λ n. test n from.0.1 z.transform z.at ≡ true) (sym of.pattern) of.passes;
      }

  -- a match of one of the patterns is among those of all
  pub by-from : (z : Match) → IsBy test patterns s z → Contains (matches_by test patterns s) z
  by-from z is =
      let none : 0 + z.pattern ≡ z.pattern = omega arith in
      Contains-flat_map_from of_numbered (enumerate_from 0 patterns) (z.pattern, is.pattern) z
      (subst (λ n. Contains (enumerate_from 0 patterns) (n, is.pattern)) none
      (Contains-enumerate_from 0 patterns z.pattern is.pattern is.number))
      (one-from (test z.pattern is.pattern) z.pattern is.pattern s z.transform z.at is.transform is.at is.passes)

  -- the matches of all patterns are in order
  pub by-in_order : AllPairs ComesBefore (matches_by test patterns s)
  by-in_order =
      AllPairs-flat_map ComesBefore (λ x y. x.0 < y.0) of_numbered (enumerate_from 0 patterns)
      (enumerate_rises 0 patterns)
      (λ x. one-in_order (test x.0 x.1) x.0 x.1 s)
      (λ x w y z low here there.
      let first = one-has (test x.0 x.1) x.0 x.1 s y here in
      let second = one-has (test w.0 w.1) w.0 w.1 s z there in
      inl (omega (arith, first.pattern, second.pattern, low)))
