-- Looks follow on one another.
use Rattle.std.proofs.Common.{◌≡◌, ℕ, Bool, true, List, refl, arith}
use Rattle.go_rules.specs.declared.Cell.{Cell}
use Rattle.go_rules.specs.Position.{BoardState}
use Rattle.go_base.specs.Views.{Looks}

module _ {V : Type 0} {cells : V → BoardState → List Cell} {asks : V → V → (ℕ → Bool) → Type 0} where
  -- nothing was asked for
  pub Looks-none : ((v : V) (S : ℕ → Bool) → asks v v S) → (v : V) (S : ℕ → Bool) → Looks cells asks v v S
  Looks-none law v S = record { asked = law v S; same = λ pos. refl }

  -- what was asked for twice was asked for
  pub Looks-more : ((u v w : V) (S : ℕ → Bool) → asks u v S → asks v w S → asks u w S) → {u v w : V} {S : ℕ → Bool}
      → Looks cells asks u v S → Looks cells asks v w S → Looks cells asks u w S
  Looks-more law {u} {v} {w} {S} a b = grind arith

  -- what was asked for in a set was asked for in a larger one
  pub Looks-within : ((u v : V) (S T : ℕ → Bool) → asks u v S → ((q : ℕ) → S q ≡ true → T q ≡ true) → asks u v T)
      → {u v : V} {S T : ℕ → Bool} → Looks cells asks u v S → ((q : ℕ) → S q ≡ true → T q ≡ true)
      → Looks cells asks u v T
  Looks-within law {u} {v} {S} {T} a h = record { asked = law u v S T a.asked h; same = a.same }
