-- A set of points with one member.
use Rattle.std.proofs.Common.{◌≡◌, ℕ, ◌-◌, ◌&&◌, true, false, not, cond, ap, inl, inr, ◌∙◌}
use Rattle.std.proofs.lemmas.Bool.{cases_eq, ne_eqb, both_ways}
use Rattle.std.specs.Ordering.{nat_cmp, eq_by_cmp}
use Rattle.std.specs.Cmp.{nat_cmp_total}
use Rattle.std.specs.FinSet as sets
use Rattle.go_rules.proofs.Sets.{eq_by_nat_cmp}

-- a set with one member, from which this one was taken, is empty
emptied : (points : sets.FinSet nat_cmp) (q : ℕ) → sets.len points ≡ 1 → sets.contains points q ≡ true
    → sets.remove points q ≡ sets.empty
emptied points q one has = sets.empty_of_len (sets.remove points q)
    (sets.len-remove nat_cmp_total points q ∙ ap (λ b. cond b (sets.len points - 1) (sets.len points)) has
    ∙ ap (λ n. n - 1) one)

-- a set of one member has no other
pub one_member : (points : sets.FinSet nat_cmp) (q p : ℕ) → sets.len points ≡ 1 → sets.contains points q ≡ true
    → sets.contains points p ≡ true → p ≡ q
one_member points q p one has also = elim (cases_eq p q) [
  | inl e ↦ e
  | inr ne ↦
      let other : eq_by_cmp nat_cmp p q ≡ false = eq_by_nat_cmp p q ∙ ne_eqb p q ne in
      let stays : sets.contains (sets.remove points q) p ≡ true =
      sets.contains-remove nat_cmp_total points q p ∙ ap (λ b. not b && sets.contains points p) other ∙ also in
      absurd (both_ways (sets.contains (sets.remove points q) p)
      (ap (λ t. sets.contains t p) (emptied points q one has) ∙ sets.contains-empty nat_cmp p) stays)
]
