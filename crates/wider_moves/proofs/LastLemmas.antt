-- What a search that stops at two liberties adds, where n were counted.
use Rattle.std.proofs.Common.{◌≡◌, ℕ, ◌<◌, ◌||◌, false, leb, List, sym, ap}
use Rattle.std.proofs.Common.{arith, inl, inr, ◌∙◌}
use Rattle.std.proofs.lemmas.Bool.{cases_Bool, and_parts, and_from}
use Rattle.std.proofs.lemmas.Bool.{leb-true, leb-false, eqb-true, eq-eqb}
use Rattle.std.specs.Ordering.{nat_cmp}
use Rattle.std.specs.FinSet as sets
use Rattle.go_rules.specs.declared.Cell.{Cell}
use Rattle.go_rules.specs.Strings.{liberties}
use Rattle.go_rules.proofs.Tests.{same_tests}
use Rattle.go_base.specs.Surroundings.{is_only_liberty}
use Rattle.trial_board.specs.SomeLiberties.{FindsLiberties}
use Rattle.wider_rules.proofs.StringLemmas.{has_liberty, how_many, joined, adds_nothing}

module _ (s : ℕ) (cells : List Cell) (r n p : ℕ) (libs old new : sets.FinSet nat_cmp)
    (finds : FindsLiberties s cells r 1 libs) (count : n ≡ sets.len libs) where
  -- the one liberty of a string in atari came
  pub one_liberty : n ≡ 1 → new ≡ sets.union old libs
      → sets.contains new p ≡ (sets.contains old p || is_only_liberty s cells r p)
  unfolding is_only_liberty
  one_liberty one e =
      let whole = finds.all (omega (arith, count, one)) in
      joined old libs new p e
      ∙ ap (λ b. sets.contains old p || b)
      (has_liberty s cells r p libs whole
      ∙ same_tests _ _
      (λ h. and_from _ _ (eq-eqb (liberties s cells r) 1 (sym (how_many s cells r libs whole) ∙ sym count ∙ one)) h)
      (λ h. (and_parts _ _ h).1))

  -- nothing came of another string
  pub other_liberties : (n ≡ 1 → ⊥) → sets.contains old p ≡ (sets.contains old p || is_only_liberty s cells r p)
  unfolding is_only_liberty
  other_liberties other = adds_nothing _ _ (elim (cases_Bool (is_only_liberty s cells r p)) [
    | inl h ↦
        let one = eqb-true (liberties s cells r) 1 (and_parts _ _ h).0 in
        absurd (elim (cases_Bool (leb (sets.len libs) 1)) [
          | inl few ↦ other (count ∙ how_many s cells r libs (finds.all (leb-true (sets.len libs) 1 few)) ∙ one)
          | inr many ↦
              let more = finds.more (omega (arith, many_is (sets.len libs) many)) in
              omega (arith, one, more)
        ])
    | inr fails ↦ fails
  ])
    where
      many_is : (k : ℕ) → leb k 1 ≡ false → 1 < k
      many_is k e = leb-false k 1 e
