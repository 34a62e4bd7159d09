-- What is known of a question about points.
use Rattle.std.proofs.Common.{◌≡◌, ℕ, inl, inr, Bool, true, false, ◌||◌, cond, refl, sym, ap, ◌∙◌, subst}
use Rattle.std.specs.Ordering.{nat_cmp}
use Rattle.std.specs.FinSet as set
use Rattle.std.proofs.lemmas.Bool.{cases_eq, eq-eqb, ne_eqb, true≢false, false≢true}
use Rattle.go_rules.proofs.Sets.{contains-insert_nat}
use Rattle.match_engine.specs.declared.legality.PointAnswers.{PointAnswers}
use Rattle.match_engine.specs.PointAnswers.{Knows}

module _ (test : ℕ → Bool) where
  -- nothing is known at first
  pub Knows-nothing : (asked holds : set.FinSet nat_cmp) → asked ≡ set.empty → holds ≡ set.empty
      → Knows test (record { asked = asked; holds = holds })
  Knows-nothing asked holds none none' = record {
    answered = λ q there. absurd
        (false≢true (sym (ap (λ s. set.contains s q) none ∙ set.contains-empty nat_cmp q) ∙ there));
    no_other = λ q missing. ap (λ s. set.contains s q) none' ∙ set.contains-empty nat_cmp q;
  }

  -- one answer more is known
  pub Knows-more : (old new : PointAnswers) (m : ℕ) (holds : Bool) → Knows test old → set.contains old.asked m ≡ false
      → holds ≡ test m
      → new.asked ≡ set.insert old.asked m → new.holds ≡ cond holds (set.insert old.holds m) old.holds → Knows test new
  Knows-more old new m holds before new_here is asked kept = record {
    answered = λ q there. elim (cases_eq q m) [
      | inl here ↦ subst (λ n. set.contains new.holds n ≡ test n) (sym here) (at_last holds refl ∙ is)
      | inr other ↦ elsewhere q other ∙ before.answered q (sym (asked_elsewhere q other) ∙ there)
    ];
    no_other = λ q missing. elim (cases_eq q m) [
      | inl here ↦ absurd (true≢false (sym (asked_last q here) ∙ missing))
      | inr other ↦ elsewhere q other ∙ before.no_other q (sym (asked_elsewhere q other) ∙ missing)
    ];
  }
    where
      asked_last : (q : ℕ) → q ≡ m → set.contains new.asked q ≡ true
      asked_last q here = ap (λ s. set.contains s q) asked ∙ contains-insert_nat old.asked m q
          ∙ ap (λ b. b || set.contains old.asked q) (eq-eqb q m here)

      asked_elsewhere : (q : ℕ) → (q ≡ m → ⊥) → set.contains new.asked q ≡ set.contains old.asked q
      asked_elsewhere q other =
          ap (λ s. set.contains s q) asked ∙ contains-insert_nat old.asked m q
          ∙ ap (λ b. b || set.contains old.asked q) (ne_eqb q m other)

      at_last : (b : Bool) → holds ≡ b → set.contains new.holds m ≡ holds
      at_last true e = ap (λ s. set.contains s m) (kept ∙ ap (λ b. cond b (set.insert old.holds m) old.holds) e)
          ∙ contains-insert_nat old.holds m m ∙ ap (λ b. b || set.contains old.holds m) (eq-eqb m m refl) ∙ sym e
      at_last false e = ap (λ s. set.contains s m) (kept ∙ ap (λ b. cond b (set.insert old.holds m) old.holds) e)
          ∙ before.no_other m new_here ∙ sym e

      at_other : (b : Bool) (q : ℕ) → (q ≡ m → ⊥)
          → set.contains (cond b (set.insert old.holds m) old.holds) q ≡ set.contains old.holds q
      at_other true q other = contains-insert_nat old.holds m q
          ∙ ap (λ b. b || set.contains old.holds q) (ne_eqb q m other)
      at_other false q other = refl

      elsewhere : (q : ℕ) → (q ≡ m → ⊥) → set.contains new.holds q ≡ set.contains old.holds q
      elsewhere q other = ap (λ s. set.contains s q) kept ∙ at_other holds q other
