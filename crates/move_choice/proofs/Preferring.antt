-- Of two matches that differ one is preferred, and preferring goes on from match to match.
use Rattle.std.proofs.Common.{◌≡◌, ◌↔◌, ◌⊎◌, ℕ, ◌<◌, inl, inr, Bool, true, ◌&&◌, ◌||◌, sym, ◌∙◌, arith}
use Rattle.std.specs.Prelude.{◌==◌, nat_lt}
use Rattle.std.proofs.lemmas.Bool.{cases_order, or_cases, or_left, or_right, and_parts, and_from, eqb-true, eq-eqb}
use Rattle.std.proofs.lemmas.Bool.{lt-ltb, ltb-true}
use Rattle.match_rules.specs.declared.found.Match.{Match}
use Rattle.match_rules.specs.Match.{ComesBefore}
use Rattle.match_rules.proofs.Orders.{which_first, before_both, one_way}
use Rattle.move_choice.specs.Choice.{comes_before, is_preferred}

-- one of two holds, or a third with a fourth, as tests and as facts
either_or_both : (a b c : Bool) → (a || (b && c)) ≡ true → (a ≡ true) ⊎ ((b ≡ true) × (c ≡ true))
either_or_both a b c h = grind (arith, or_cases, and_parts)

-- the test of the order is the fact
pub comes_before-is : (y z : Match) → (comes_before y z ≡ true) ↔ ComesBefore y z
comes_before-is y z = grind (arith, either_or_both, ltb-true, eqb-true, or_left, lt-ltb, or_right, and_from, eq-eqb)

module _ (w : Match → ℕ) where
  -- y is worth more than z, or as much and comes before it
  abbrev pub Preferred : Match → Match → Type 0
  Preferred y z = (w z < w y) ⊎ ((w y ≡ w z) × ComesBefore y z)

  -- the test of preferring is the fact
  pub is_preferred-to : (y z : Match) → is_preferred w y z ≡ true → Preferred y z
  is_preferred-to y z h = elim (either_or_both (nat_lt (w z) (w y)) (w y == w z) (comes_before y z) h) [
    | inl less ↦ inl (ltb-true (w z) (w y) less)
    | inr (same, before) ↦ inr (eqb-true (w y) (w z) same, (comes_before-is y z).0 before)
  ]

  -- what is preferred passes the test
  pub is_preferred-from : (y z : Match) → Preferred y z → is_preferred w y z ≡ true
  is_preferred-from y z (inl less) = or_left _ _ (lt-ltb (w z) (w y) less)
  is_preferred-from y z (inr (same, before)) =
      or_right _ _ (and_from _ _ (eq-eqb (w y) (w z) same) ((comes_before-is y z).1 before))

  -- no match is preferred to itself
  pub not_to_itself : (y : Match) → Preferred y y → ⊥
  not_to_itself y (inl less) = omega arith
  not_to_itself y (inr (same, before)) = one_way y y before before

  -- a match that is preferred to one that is preferred to a third is preferred to the third
  pub preferred_to_both : (x y z : Match) → Preferred x y → Preferred y z → Preferred x z
  preferred_to_both x y z (inl a) (inl b) = inl (omega arith)
  preferred_to_both x y z (inl a) (inr (same, b)) = inl (omega arith)
  preferred_to_both x y z (inr (same, a)) (inl b) = inl (omega arith)
  preferred_to_both x y z (inr (same, a)) (inr (equal, b)) = inr (same ∙ equal, before_both x y z a b)

  -- of two matches one is preferred, or they are the same
  pub which_preferred : (y z : Match) → Preferred y z ⊎ ((y ≡ z) ⊎ Preferred z y)
  which_preferred y z = elim (cases_order (w y) (w z)) [
    | inl same ↦ elim (which_first y z) [
      | inl before ↦ inl (inr (same, before))
      | inr (inl equal) ↦ inr (inl equal)
      | inr (inr after) ↦ inr (inr (inr (sym same, after)))
    ]
    | inr (inl less) ↦ inr (inr (inl less))
    | inr (inr more) ↦ inl (inl more)
  ]
