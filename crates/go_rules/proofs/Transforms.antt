-- What holds of the eight transformations.
use Rattle.std.proofs.Common.{◌≡◌, ℕ, zero, suc, ◌<◌, refl, ap, ◌∙◌, arith, inl, inr, lit<}
use Rattle.std.specs.Prelude.{ℤ, pos, negsuc, neg_ℤ}
use Rattle.std.proofs.lemmas.Int.{ints}
use Rattle.go_rules.specs.Transform.{Offset, IsNear, transformed, transformations, AreNextTo, AreOneStepApart}

-- what holds of each of the eight holds of every transformation
pub each_of_eight : (P : ℕ → Type 0) → P 0 → P 1 → P 2 → P 3 → P 4 → P 5 → P 6 → P 7 → (t : ℕ) → t < transformations
    → P t
each_of_eight P a b c d e f g h zero l = a
each_of_eight P a b c d e f g h (suc zero) l = b
each_of_eight P a b c d e f g h (suc (suc zero)) l = c
each_of_eight P a b c d e f g h (suc (suc (suc zero))) l = d
each_of_eight P a b c d e f g h (suc (suc (suc (suc zero)))) l = e
each_of_eight P a b c d e f g h (suc (suc (suc (suc (suc zero))))) l = f
each_of_eight P a b c d e f g h (suc (suc (suc (suc (suc (suc zero)))))) l = g
each_of_eight P a b c d e f g h (suc (suc (suc (suc (suc (suc (suc zero))))))) l = h
each_of_eight P a b c d e f g h (suc (suc (suc (suc (suc (suc (suc (suc t)))))))) l = absurd (omega arith)

-- a number is what its negative is the negative of
neg-neg : (x : ℤ) → neg_ℤ (neg_ℤ x) ≡ x
neg-neg (pos zero) = refl
neg-neg (pos (suc n)) = refl
neg-neg (negsuc n) = refl

-- some transformation undoes this one
abbrev IsUndone : ℕ → Type 0
IsUndone t = (u : ℕ) × (u < transformations) × ((d : Offset) → transformed u (transformed t d) ≡ d)

-- each transformation is undone by one of the eight
pub is_undone : (t : ℕ) → t < transformations → IsUndone t
is_undone =
    each_of_eight IsUndone
    (0, lit< tt, λ d. refl)
    (3, lit< tt, λ d. ap (λ x. (x, d.1)) (neg-neg d.0))
    (2, lit< tt, λ d. ap (λ x. (x, neg_ℤ (neg_ℤ d.1))) (neg-neg d.0) ∙ ap (λ x. (d.0, x)) (neg-neg d.1))
    (1, lit< tt, λ d. ap (λ x. (d.0, x)) (neg-neg d.1))
    (4, lit< tt, λ d. ap (λ x. (d.0, x)) (neg-neg d.1))
    (5, lit< tt, λ d. ap (λ x. (x, neg_ℤ (neg_ℤ d.1))) (neg-neg d.0) ∙ ap (λ x. (d.0, x)) (neg-neg d.1))
    (6, lit< tt, λ d. ap (λ x. (x, d.1)) (neg-neg d.0))
    (7, lit< tt, λ d. refl)

-- the negatives of two numbers next to each other are next to each other
next-neg : (a b : ℤ) → AreNextTo a b → AreNextTo (neg_ℤ a) (neg_ℤ b)
next-neg a b (inl e) = inr (omega (arith, ints))
next-neg a b (inr e) = inl (omega (arith, ints))

-- both offsets are moved by t, and stay one step apart
abbrev KeepsSteps : ℕ → Type 0
KeepsSteps t = (d e : Offset) → AreOneStepApart d e → AreOneStepApart (transformed t d) (transformed t e)

-- offsets one step apart are moved to offsets one step apart
pub keeps_steps : (t : ℕ) → t < transformations → KeepsSteps t
keeps_steps =
    each_of_eight KeepsSteps
    (λ d e h. h)
    (λ d e h. elim h [ inl r ↦ inr (ap neg_ℤ r.0, r.1) | inr c ↦ inl (c.0, next-neg d.0 e.0 c.1) ])
    (λ d e h. elim h [
      | inl r ↦ inl (ap neg_ℤ r.0, next-neg d.1 e.1 r.1)
      | inr c ↦ inr (ap neg_ℤ c.0, next-neg d.0 e.0 c.1)
    ])
    (λ d e h. elim h [ inl r ↦ inr (r.0, next-neg d.1 e.1 r.1) | inr c ↦ inl (ap neg_ℤ c.0, c.1) ])
    (λ d e h. elim h [ inl r ↦ inl (r.0, next-neg d.1 e.1 r.1) | inr c ↦ inr (ap neg_ℤ c.0, c.1) ])
    (λ d e h. elim h [
      | inl r ↦ inr (ap neg_ℤ r.0, next-neg d.1 e.1 r.1)
      | inr c ↦ inl (ap neg_ℤ c.0, next-neg d.0 e.0 c.1)
    ])
    (λ d e h. elim h [ inl r ↦ inl (ap neg_ℤ r.0, r.1) | inr c ↦ inr (c.0, next-neg d.0 e.0 c.1) ])
    (λ d e h. elim h [ inl r ↦ inr (r.0, r.1) | inr c ↦ inl (c.0, c.1) ])

-- an offset between points of the largest board is moved to such an offset
abbrev KeepsNear : ℕ → Type 0
KeepsNear t = (d : Offset) → IsNear d → IsNear (transformed t d)

-- the parts of an offset, and their negatives, stay within the largest board
near : (x y : ℤ) → IsNear (x, y) → IsNear (x, neg_ℤ y) × IsNear (neg_ℤ x, y) × IsNear (y, x)
near x y h = grind arith

-- a transformation keeps an offset within the largest board
pub keeps_near : (t : ℕ) → t < transformations → KeepsNear t
keeps_near =
    each_of_eight KeepsNear
    (λ d h. h)
    (λ d h. (near (neg_ℤ d.0) d.1 (near d.0 d.1 h).1).2)
    (λ d h. (near (neg_ℤ d.0) d.1 (near d.0 d.1 h).1).0)
    (λ d h. (near d.0 (neg_ℤ d.1) (near d.0 d.1 h).0).2)
    (λ d h. (near d.0 d.1 h).0)
    (λ d h. (near (neg_ℤ d.0) (neg_ℤ d.1) (near (neg_ℤ d.0) d.1 (near d.0 d.1 h).1).0).2)
    (λ d h. (near d.0 d.1 h).1)
    (λ d h. (near d.0 d.1 h).2)
