-- Matches that are kept by a further test.
use Rattle.std.proofs.Common.{◌≡◌, ℕ, Bool, true, false, ◌&&◌, List, [], ◌∷◌, filter, slice_get, Some, refl, sym, ap}
use Rattle.std.proofs.Common.{◌∙◌}
use Rattle.std.specs.List.{list_all}
use Rattle.std.proofs.lemmas.Bool.{and_parts, and_from}
use Rattle.std.proofs.lemmas.List.Kept.{AllPairs-filter}
use Rattle.pat_types.specs.declared.pattern.Pattern.{Pattern}
use Rattle.match_rules.specs.declared.found.Match.{Match}
use Rattle.match_rules.specs.Match.{matches_by, ComesBefore}
use Rattle.match_rules.proofs.Lists.{Contains-filter, Contains-filter_from}
use Rattle.match_rules.proofs.Orders.{by-has, by-from, by-in_order, same_matches}

-- all say yes where each does
pub all_agreed : (names : List (List ℕ)) → list_all (λ name. true) names ≡ true
all_agreed [] = refl
all_agreed (name ∷ names) = all_agreed names

-- a further test that is passed changes nothing
pub and_yes : (b y : Bool) → y ≡ true → (b && y) ≡ b
and_yes true y is = is
and_yes false y is = refl

-- a test is passed after two others, the second of which is beside one that is passed
pub asked_last : (found allowed y agreed : Bool) → y ≡ true
    → (found && (allowed && agreed)) ≡ ((found && (allowed && y)) && agreed)
asked_last true true y agreed is = sym (ap (λ b. b && agreed) is)
asked_last true false y agreed is = refl
asked_last false allowed y agreed is = refl

module _ (patterns : List Pattern) (s : ℕ) (test after : ℕ → Pattern → ℕ → ℕ → Bool) (keep : Match → Bool)
    (is : (z : Match) (p : Pattern) → slice_get patterns z.pattern ≡ Some p
    → after z.pattern p z.transform z.at ≡ (test z.pattern p z.transform z.at && keep z)) where
  -- the matches by one test that pass a further one are the matches by both
  pub matches_by-filter : filter keep (matches_by test patterns s) ≡ matches_by after patterns s
  matches_by-filter =
      same_matches (filter keep (matches_by test patterns s)) (matches_by after patterns s)
      (AllPairs-filter ComesBefore keep (matches_by test patterns s) (by-in_order test patterns s))
      (by-in_order after patterns s)
      (λ z there.
      let kept = Contains-filter keep (matches_by test patterns s) z there in
      let by = by-has test patterns s z kept.0 in
      by-from after patterns s z (record {
        pattern = by.pattern;
        number = by.number;
        transform = by.transform;
        at = by.at;
        passes = is z by.pattern by.number ∙ and_from (test z.pattern by.pattern z.transform z.at)
            (keep z) by.passes kept.1;
      }))
      (λ z there.
      let by = by-has after patterns s z there in
      let parts = and_parts (test z.pattern by.pattern z.transform z.at) (keep z)
      (sym (is z by.pattern by.number) ∙ by.passes) in
      Contains-filter_from keep (matches_by test patterns s) z
      (by-from test patterns s z (record {
        pattern = by.pattern;
        number = by.number;
        transform = by.transform;
        at = by.at;
        passes = parts.0;
      }))
      parts.1)
