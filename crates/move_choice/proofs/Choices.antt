-- The choice among matches, by the definition, in words, and one match after another.
use Rattle.std.proofs.Common.{◌≡◌, ◌↔◌, ◌⊎◌, ℕ, ◌+◌, ◌<◌, ◌≤◌, inl, inr, Bool, true, false, cond, List, [], ◌∷◌, ◌++◌}
use Rattle.std.proofs.Common.{length, take, get_or, not, Some, None, Contains, refl, sym, ap, ◌∙◌, subst, arith}
use Rattle.std.proofs.Common.{add-one}
use Rattle.std.specs.List.{find, list_all}
use Rattle.std.proofs.lemmas.Bool.{cases_Bool, and_parts, not-true, not_from_false, both_ways}
use Rattle.std.proofs.lemmas.List.{append_assoc, append-nil, take_more, take_all}
use Rattle.std.proofs.lemmas.List.Elements.{Contains-append_left, Contains-append_right, Contains-append_cases}
use Rattle.std.proofs.lemmas.Option.{none-some, same_Some}
use Rattle.pat_types.specs.declared.pattern.Pattern.{Pattern}
use Rattle.match_rules.specs.declared.found.Match.{Match}
use Rattle.match_rules.proofs.Lists.{Contains-cons_cases, Contains-first, Contains-rest, Contains-nil, passes_all}
use Rattle.move_choice.specs.Choice.{is_preferred, choice_by, choice_of, IsChoice}
use Rattle.move_choice.proofs.Preferring.{Preferred, is_preferred-to, is_preferred-from, not_to_itself}
use Rattle.move_choice.proofs.Preferring.{preferred_to_both, which_preferred}

module _ (p : Match → Bool) where
  -- the first match passes
  find-here : (y : Match) (ys : List Match) → p y ≡ true → find p (y ∷ ys) ≡ Some y
  find-here y ys passes = ap (λ b. cond b (Some y) (find p ys)) passes

  -- the first match does not
  find-later : (y : Match) (ys : List Match) → p y ≡ false → find p (y ∷ ys) ≡ find p ys
  find-later y ys fails = ap (λ b. cond b (Some y) (find p ys)) fails

  -- what is found passes
  find-passes : (zs : List Match) (z : Match) → find p zs ≡ Some z → p z ≡ true
  find-passes [] z e = absurd (none-some z e)
  find-passes (y ∷ ys) z e = elim (cases_Bool (p y)) [
    | inl passes ↦ subst (λ x. p x ≡ true) (same_Some y z (sym (find-here y ys passes) ∙ e)) passes
    | inr fails ↦ find-passes ys z (sym (find-later y ys fails) ∙ e)
  ]

  -- what is found stands in the list
  find-there : (zs : List Match) (z : Match) → find p zs ≡ Some z → Contains zs z
  find-there [] z e = absurd (none-some z e)
  find-there (y ∷ ys) z e = elim (cases_Bool (p y)) [
    | inl passes ↦ Contains-first y ys z (same_Some y z (sym (find-here y ys passes) ∙ e))
    | inr fails ↦ Contains-rest y ys z (find-there ys z (sym (find-later y ys fails) ∙ e))
  ]

  -- the only match that passes is found
  find-only : (zs : List Match) (z : Match) → Contains zs z → p z ≡ true
      → ((y : Match) → Contains zs y → p y ≡ true → y ≡ z) → find p zs ≡ Some z
  find-only [] z there passes only = absurd (Contains-nil z there)
  find-only (y ∷ ys) z there passes only = elim (cases_Bool (p y)) [
    | inl here ↦ find-here y ys here ∙ ap Some (only y (Contains-first y ys y refl) here)
    | inr fails ↦
        find-later y ys fails
        ∙ find-only ys z (elim (Contains-cons_cases y ys z there) [
          | inl same ↦ absurd (both_ways (p y) fails (ap p same ∙ passes))
          | inr rest ↦ rest
        ]) passes (λ x inside. only x (Contains-rest y ys x inside))
  ]

-- a list of which each element passes has only elements that pass
each_passes : (test : Match → Bool) (zs : List Match) → list_all test zs ≡ true → (z : Match) → Contains zs z
    → test z ≡ true
each_passes test [] all z there = absurd (Contains-nil z there)
each_passes test (y ∷ ys) all z there = grind (arith, and_parts, each_passes test ys)

-- z stands in the list, and no match of the list is preferred to it
pub record IsFirst (w : Match → ℕ) (zs : List Match) (z : Match) : Type 0 where
  pub there : Contains zs z
  pub none : (y : Match) → Contains zs y → Preferred w y z → ⊥

module _ (w : Match → ℕ) where
  -- the choice in words is the match to which none is preferred
  pub IsFirst-from : (zs : List Match) (z : Match) → IsChoice w zs z → IsFirst w zs z
  IsFirst-from zs z is = record { there = is.there; none = none }
    where
      none : (y : Match) → Contains zs y → Preferred w y z → ⊥
      none y inside (inl more) = let most = is.none_greater y inside in omega (arith, more, most)
      none y inside (inr (same, before)) = is.none_earlier y inside same before

  -- the match to which none is preferred is the choice in words
  pub IsFirst-to : (zs : List Match) (z : Match) → IsFirst w zs z → IsChoice w zs z
  IsFirst-to zs z is = record {
    there = is.there;
    none_greater = λ y inside. elim (which_preferred w y z) [
      | inl preferred ↦ absurd (is.none y inside preferred)
      | inr (inl same) ↦ (let equal : w y ≡ w z = ap w same in omega (arith, equal))
      | inr (inr less) ↦ at_most y less
    ];
    none_earlier = λ y inside same before. is.none y inside (inr (same, before));
  }
    where
      at_most : (y : Match) → Preferred w z y → w y ≤ w z
      at_most y (inl more) = omega arith
      at_most y (inr (same, before)) = omega arith

  -- a match passes the test of the definition exactly if none of the list is preferred to it
  tested-from : (zs : List Match) (z : Match) → ((y : Match) → Contains zs y → Preferred w y z → ⊥)
      → list_all (λ y. not (is_preferred w y z)) zs ≡ true
  tested-from zs z none = passes_all (λ y. not (is_preferred w y z)) zs (λ y inside.
      not_from_false (is_preferred w y z) (elim (cases_Bool (is_preferred w y z)) [
        | inl preferred ↦ absurd (none y inside (is_preferred-to w y z preferred))
        | inr fails ↦ fails
      ]))

  -- no match of the list is preferred to one that passes
  tested-to : (zs : List Match) (z : Match) → list_all (λ y. not (is_preferred w y z)) zs ≡ true
      → (y : Match) → Contains zs y → Preferred w y z → ⊥
  tested-to zs z passes y inside preferred =
      both_ways (is_preferred w y z)
      (not-true (is_preferred w y z) (each_passes (λ x. not (is_preferred w x z)) zs passes y inside))
      (is_preferred-from w y z preferred)

  -- the match to which none is preferred is found, as of two such neither is preferred to the other
  pub choice-found : (zs : List Match) (z : Match) → IsFirst w zs z → choice_by w zs ≡ Some z
  choice-found zs z is =
      find-only (λ x. list_all (λ y. not (is_preferred w y x)) zs) zs z is.there (tested-from zs z is.none)
      (λ y inside passes. elim (which_preferred w y z) [
        | inl preferred ↦ absurd (is.none y inside preferred)
        | inr (inl same) ↦ same
        | inr (inr less) ↦ absurd (tested-to zs y passes z is.there less)
      ])

  -- a match is found exactly if it is the choice in words
  pub choice-words : (zs : List Match) (z : Match) → (choice_by w zs ≡ Some z) ↔ IsChoice w zs z
  choice-words zs z =
      let test : Match → Bool = λ x. list_all (λ y. not (is_preferred w y x)) zs in (
        λ e. IsFirst-to zs z
            (record { there = find-there test zs z e; none = tested-to zs z (find-passes test zs z e) }),
        λ is. choice-found zs z (IsFirst-from zs z is),
      )

  -- one match alone is the choice
  pub IsFirst-alone : (z : Match) → IsFirst w (z ∷ []) z
  IsFirst-alone z = record {
    there = Contains-first z [] z refl;
    none = λ y inside preferred. elim (Contains-cons_cases z [] y inside) [
      | inl same ↦ not_to_itself w z (subst (λ x. Preferred w x z) (sym same) preferred)
      | inr rest ↦ Contains-nil y rest
    ];
  }

  -- a match more at the end that is not preferred
  pub IsFirst-keeps : (zs : List Match) (c z : Match) → IsFirst w zs c → (Preferred w z c → ⊥)
      → IsFirst w (zs ++ z ∷ []) c
  IsFirst-keeps zs c z is not_preferred = record {
    there = Contains-append_left zs (z ∷ []) c is.there;
    none = λ y inside preferred. elim (Contains-append_cases zs (z ∷ []) y inside) [
      | inl before ↦ is.none y before preferred
      | inr last ↦ elim (Contains-cons_cases z [] y last) [
        | inl same ↦ not_preferred (subst (λ x. Preferred w x c) (sym same) preferred)
        | inr rest ↦ Contains-nil y rest
      ]
    ];
  }

  -- a match more at the end that is preferred
  pub IsFirst-takes : (zs : List Match) (c z : Match) → IsFirst w zs c → Preferred w z c → IsFirst w (zs ++ z ∷ []) z
  IsFirst-takes zs c z is takes = record {
    there = Contains-append_right zs (z ∷ []) z (Contains-first z [] z refl);
    none = λ y inside preferred. elim (Contains-append_cases zs (z ∷ []) y inside) [
      | inl before ↦ is.none y before (preferred_to_both w y z c preferred takes)
      | inr last ↦ elim (Contains-cons_cases z [] y last) [
        | inl same ↦ not_to_itself w z (subst (λ x. Preferred w x z) (sym same) preferred)
        | inr rest ↦ Contains-nil y rest
      ]
    ];
  }

  -- of some matches one is the choice among those up to each of them
  first_of : (z : Match) (zs front : List Match) (c : Match) → IsFirst w front c
      → (x : Match) × IsFirst w (front ++ zs) x
  first_of z [] front c is = (c, subst (λ l. IsFirst w l c) (sym (append-nil front)) is)
  first_of z (y ∷ ys) front c is =
      let on : (x : Match) × IsFirst w (front ++ y ∷ []) x = elim (cases_Bool (is_preferred w y c)) [
        | inl takes ↦ (y, IsFirst-takes front c y is (is_preferred-to w y c takes))
        | inr keeps ↦ (
          c,
          IsFirst-keeps front c y is
              (λ preferred. both_ways (is_preferred w y c) keeps (is_preferred-from w y c preferred)),
        )
      ] in
      let rest = first_of z ys (front ++ y ∷ []) on.0 on.1 in
      (rest.0, subst (λ l. IsFirst w l rest.0) (append_assoc front (y ∷ []) ys) rest.1)

  -- there is no choice exactly if there is no match
  pub no-choice : (zs : List Match) → (choice_by w zs ≡ None) ↔ (zs ≡ [])
  no-choice [] = ((λ e. refl), (λ e. refl))
  no-choice (z ∷ zs) =
      let some = first_of z zs (z ∷ []) z (IsFirst-alone z) in
      ((λ e. absurd (none-some some.0 (sym e ∙ choice-found (z ∷ zs) some.0 some.1))), (λ e. absurd (cc)))

-- among no matches there is no choice
pub choice-empty : (patterns : List Pattern) (zs : List Match) → length zs ≡ 0 → choice_of patterns zs ≡ None
unfolding choice_of
choice-empty patterns [] empty = refl
choice-empty patterns (z ∷ zs) empty = absurd (omega arith)

-- some matches, the first of them, and the rest
module _ (found rest : List Match) (first : Match) (place : found ≡ first ∷ rest) where
  -- the n-th of the rest is the one behind the n-th of all
  one_of_rest : (i : ℕ) (z : Match) → get_or found (i + 1) z ≡ get_or rest i z
  one_of_rest i z = ap (λ l. get_or l (i + 1) z) place ∙ ap (λ n. get_or (first ∷ rest) n z) (add-one i)

  -- it is one of the matches
  pub among : (i : ℕ) (z : Match) → i < length rest → z ≡ get_or rest i z → Contains found z
  among i z within here = (i + 1, omega (arith, ap length place), one_of_rest i z ∙ sym here)

  -- the first match is one of the matches
  pub first_among : Contains found first
  first_among = subst (λ l. Contains l first) (sym place) (0, omega arith, refl)

  -- the matches up to the i-th of the rest
  one_more : (i : ℕ) (z : Match) → i < length rest → z ≡ get_or rest i z
      → take (i + 1 + 1) found ≡ take (i + 1) found ++ z ∷ []
  one_more i z within here =
      take_more found (i + 1) z (omega (arith, ap length place))
      ∙ ap (λ y. take (i + 1) found ++ y ∷ []) (one_of_rest i z ∙ sym here)

  -- one match more, which is not preferred
  pub IsFirst-keeps_more : (w : Match → ℕ) (i : ℕ) (c z : Match) → i < length rest → z ≡ get_or rest i z
      → IsFirst w (take (i + 1) found) c → is_preferred w z c ≡ false → IsFirst w (take (i + 1 + 1) found) c
  IsFirst-keeps_more w i c z within here is keeps =
      subst (λ l. IsFirst w l c) (sym (one_more i z within here)) (IsFirst-keeps w (take (i + 1) found) c z is
      (λ preferred. both_ways (is_preferred w z c) keeps (is_preferred-from w z c preferred)))

  -- one match more, which is preferred
  pub IsFirst-takes_more : (w : Match → ℕ) (i : ℕ) (c z : Match) → i < length rest → z ≡ get_or rest i z
      → IsFirst w (take (i + 1) found) c → is_preferred w z c ≡ true → IsFirst w (take (i + 1 + 1) found) z
  IsFirst-takes_more w i c z within here is takes =
      subst (λ l. IsFirst w l z) (sym (one_more i z within here))
      (IsFirst-takes w (take (i + 1) found) c z is (is_preferred-to w z c takes))

  -- the choice among all
  pub choice-all : (w : Match → ℕ) (i : ℕ) (c : Match) → length rest ≤ i → IsFirst w (take (i + 1) found) c
      → choice_by w found ≡ Some c
  choice-all w i c past is =
      choice-found w found c
      (subst (λ l. IsFirst w l c) (take_all (i + 1) found (omega (arith, ap length place))) is)
