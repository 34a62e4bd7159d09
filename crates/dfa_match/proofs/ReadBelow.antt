-- Below how many letters the words of each point have been read.
use Rattle.std.proofs.Common.{◌≡◌, ℕ, ◌+◌, ◌<◌, ◌⊎◌, inl, inr, false, ◌==◌, cond, List}
use Rattle.std.proofs.Common.{[], ◌∷◌, if◌then◌else◌, map, Contains, refl, ap, ◌∙◌, arith}
use Rattle.std.specs.List.{AllPairs}
use Rattle.std.proofs.lemmas.Bool.{cases_Bool, eqb-true, eqb-false, eq-eqb, ne_eqb}
use Rattle.spiral.specs.Spiral.{offset_count}
use Rattle.match_rules.proofs.Lists.{Contains-cons_cases, Contains-rest, Contains-nil, AllPairs-rest, AllPairs-before}
use Rattle.dfa_match.specs.declared.walks.Walk.{Walk}
use Rattle.dfa_match.specs.Walks.{anchor_of}

-- below how many letters the words of the point m of a board of size s have been read: as f says of its walk, and all
-- if it has no walk left
abbrev pub read_below : ℕ → (Walk → ℕ) → List Walk → ℕ → ℕ
read_below s f [] m = offset_count + 1
read_below s f (w ∷ walks) m = if anchor_of s w == m then f w else read_below s f walks m

-- as many as the walk has read, before what is accepted behind them is given out
abbrev pub before_giving : Walk → ℕ
before_giving w = w.letters

-- as many letters as a walk has read, once what is accepted behind them is given out
abbrev pub after_giving : Walk → ℕ
after_giving w = w.letters + 1

-- the point m has a walk, as whose its words have been read, or it has none
abbrev pub HasWalkOrNone : ℕ → (Walk → ℕ) → List Walk → ℕ → Type 0
HasWalkOrNone s f walks m =
    ((w : Walk) × Contains walks w × (anchor_of s w ≡ m) × (read_below s f walks m ≡ f w))
    ⊎ (((w : Walk) → Contains walks w → anchor_of s w ≡ m → ⊥) × (read_below s f walks m ≡ offset_count + 1))

-- so it is with a walk of another point before these
another_walk : (s : ℕ) (f : Walk → ℕ) (w : Walk) (walks : List Walk) (m : ℕ) → (anchor_of s w == m) ≡ false
    → HasWalkOrNone s f walks m → HasWalkOrNone s f (w ∷ walks) m
another_walk s f w walks m other (inl later) = inl (
  later.0,
  Contains-rest w walks later.0 later.1,
  later.2,
  ap (λ b. cond b (f w) (read_below s f walks m)) other ∙ later.3,
)
another_walk s f w walks m other (inr none) = grind (arith, eqb-false)

-- a point has a walk, or none
pub read_cases : (s : ℕ) (f : Walk → ℕ) (walks : List Walk) (m : ℕ) → HasWalkOrNone s f walks m
read_cases s f [] m = inr ((λ w there same. Contains-nil w there), refl)
read_cases s f (w ∷ walks) m = grind (arith, cases_Bool, eqb-true, another_walk, read_cases s f walks m)

-- where anchors rise the point of a walk has that one
pub read_there : (s : ℕ) (f : Walk → ℕ) (walks : List Walk) (w : Walk)
    → AllPairs (λ u v. anchor_of s u < anchor_of s v) walks
    → Contains walks w → read_below s f walks (anchor_of s w) ≡ f w
read_there s f [] w rising there = absurd (Contains-nil w there)
read_there s f (v ∷ walks) w rising there = elim (Contains-cons_cases v walks w there) [
  | inl first ↦ ap (λ b. cond b (f v) (read_below s f walks (anchor_of s w)))
      (eq-eqb (anchor_of s v) (anchor_of s w) (ap (anchor_of s) first)) ∙ ap f first
  | inr later ↦
      let before : anchor_of s v < anchor_of s w =
      AllPairs-before (λ (u : Walk) (x : Walk). anchor_of s u < anchor_of s x) v walks w rising later in
      ap (λ b. cond b (f v) (read_below s f walks (anchor_of s w)))
      (ne_eqb (anchor_of s v) (anchor_of s w) (λ same. omega (arith, before, same)))
      ∙ read_there s f walks w
      (AllPairs-rest (λ (u : Walk) (x : Walk). anchor_of s u < anchor_of s x) v walks rising) later
]

-- a point without a walk has no walk for another count
pub read_none : (s : ℕ) (f : Walk → ℕ) (walks : List Walk) (m : ℕ)
    → ((w : Walk) → Contains walks w → anchor_of s w ≡ m → ⊥)
    → read_below s f walks m ≡ offset_count + 1
read_none s f walks m none = grind (arith, read_cases)

-- walks that are changed, but for their anchors, are counted behind the change
pub read_changed : (s : ℕ) (f : Walk → Walk) (h : Walk → ℕ) (walks : List Walk) (m : ℕ)
    → ((w : Walk) → (f w).corner ≡ w.corner)
    → read_below s h (map f walks) m ≡ read_below s (λ w. h (f w)) walks m
read_changed s f h [] m keeps = refl
read_changed s f h (w ∷ walks) m keeps = grind (arith, read_changed s f h walks m keeps)
