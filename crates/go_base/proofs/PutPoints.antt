-- One cell put on the points of a set, one by one.
use Rattle.std.proofs.Common.{◌≡◌, ℕ, ◌+◌, ◌<◌, ◌≤◌, true, false, cond, List, length, map, refl, sym, ap, arith, inl}
use Rattle.std.proofs.Common.{inr, ◌∙◌, get_or-set_same, get_or-set_other}
use Rattle.std.proofs.Math.ListN.{set}
use Rattle.std.specs.List.{range_with_len}
use Rattle.std.proofs.lemmas.List.FromFn.{fill_by_all}
use Rattle.std.proofs.lemmas.Bool.{cases_eq, cases_lt}
use Rattle.std.specs.Ordering.{nat_cmp}
use Rattle.std.specs.FinSet as sets
use Rattle.go_rules.specs.declared.Cell.{Cell}
use Rattle.go_rules.specs.declared.Cell.TheVariants.{Empty}
use Rattle.go_rules.specs.Strings.{cell_at}

-- the points of the set below n hold what was put, and all others are as they were
pub record PutOn (cell : Cell) (points : sets.FinSet nat_cmp) (old new : List Cell) (n : ℕ) : Type 0 where
  pub done : (k : ℕ) → k < n → cell_at new k ≡ cond (sets.contains points k) cell (cell_at old k)
  pub rest : (k : ℕ) → n ≤ k → cell_at new k ≡ cell_at old k

-- nothing was put on the points below 0
pub PutOn-none : (cell : Cell) (points : sets.FinSet nat_cmp) (old : List Cell) → PutOn cell points old old 0
PutOn-none cell points old = record { done = λ k l. absurd (omega arith); rest = λ k l. refl }

-- after the put on the next member, the cell stands on each member up to it
pub PutOn-next : (cell : Cell) (points : sets.FinSet nat_cmp) (old new : List Cell) (n m : ℕ) → n ≤ m
    → PutOn cell points old new n → ((k : ℕ) → n ≤ k → k < m → sets.contains points k ≡ false)
    → m < length new → sets.contains points m ≡ true → PutOn cell points old (set new m cell) (m + 1)
PutOn-next cell points old new n m l h none i t = grind (arith, cases_eq, get_or-set_same, get_or-set_other, cases_lt)

-- no member is left
pub PutOn-all : (cell : Cell) (points : sets.FinSet nat_cmp) (old new : List Cell) (n m : ℕ)
    → PutOn cell points old new n → length new ≡ m → ((k : ℕ) → n ≤ k → sets.contains points k ≡ false)
    → new ≡ map (λ q. cond (sets.contains points q) cell (cell_at old q)) (range_with_len 0 m)
PutOn-all cell points old new n m h len none =
    fill_by_all (λ q. cond (sets.contains points q) cell (cell_at old q)) new m Empty len (λ k i. elim (cases_lt k n) [
      | inl below ↦ h.done k below
      | inr above ↦ h.rest k above ∙ ap (λ b. cond b cell (cell_at old k)) (sym (none k above))
    ])
