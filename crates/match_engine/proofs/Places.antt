-- Where offsets lead, one after another and between two others.
use Rattle.std.proofs.Common.{◌≡◌, ℕ, ◌+◌, ◌*◌, ◌/◌, ◌%◌, ◌<◌, ◌⊎◌, inl, inr, Option, Some, None}
use Rattle.std.proofs.Common.{refl, sym, ap, ◌∙◌, arith, ℤ, pos, negsuc, ◌+ℤ◌, ◌≤ℤ◌, neg_ℤ}
use Rattle.std.proofs.lemmas.Bool.{cases_eq, ltb-true, lt-ltb}
use Rattle.std.proofs.lemmas.Int.{ints}
use Rattle.std.proofs.lemmas.Nat.{mul-add-lt, div-mul-add, mod-mul-add, div_below, mod_below, div-add-mod'}
use Rattle.std.proofs.lemmas.Option.{none-some, same_Some, cond_some}
use Rattle.go_rules.specs.Transform.{Offset, transformed, transformations}
use Rattle.go_rules.proofs.Transforms.{each_of_eight}
use Rattle.spiral.specs.Spiral.{strip_of, point_of, place_at}

-- one offset after another
abbrev pub sum_of : Offset → Offset → Offset
sum_of d e = (d.0 +ℤ e.0, d.1 +ℤ e.1)

-- the negative of a sum is the sum of the negatives
neg-add : (a b : ℤ) → neg_ℤ (a +ℤ b) ≡ neg_ℤ a +ℤ neg_ℤ b
neg-add a b = omega (arith, ints)

-- t moves a sum of offsets as it moves each
abbrev MovesSums : ℕ → Type 0
MovesSums t = (d e : Offset) → ((transformed t (sum_of d e)).0 ≡ (transformed t d).0 +ℤ (transformed t e).0)
    × ((transformed t (sum_of d e)).1 ≡ (transformed t d).1 +ℤ (transformed t e).1)

-- every transformation moves sums as it moves each
moves_sums : (t : ℕ) → t < transformations → MovesSums t
moves_sums = grind (arith, each_of_eight, neg-add)

-- t leaves the offset (0, 0) where it is
abbrev KeepsNone : ℕ → Type 0
KeepsNone t = transformed t (pos 0, pos 0) ≡ (pos 0, pos 0)

-- every transformation leaves the offset (0, 0) where it is
keeps_none : (t : ℕ) → t < transformations → KeepsNone t
keeps_none = each_of_eight KeepsNone refl refl refl refl refl refl refl refl

-- y lies between x and z, whichever of them is greater
abbrev IsBetween : ℤ → ℤ → ℤ → Type 0
IsBetween x y z = ((x ≤ℤ y) × (y ≤ℤ z)) ⊎ ((z ≤ℤ y) × (y ≤ℤ x))

-- e lies in the rectangle from d down and right to f
pub record IsWithin (d e f : Offset) : Type 0 where
  pub above : d.0 ≤ℤ e.0
  pub below : e.0 ≤ℤ f.0
  pub left : d.1 ≤ℤ e.1
  pub right : e.1 ≤ℤ f.1

-- the negatives are between the negatives
turned_between : (x y z : ℤ) → x ≤ℤ y → y ≤ℤ z → IsBetween (neg_ℤ x) (neg_ℤ y) (neg_ℤ z)
turned_between x y z a b = inr (omega (arith, ints, a, b), omega (arith, ints, a, b))

-- t moves what lies in a rectangle into the moved rectangle
abbrev KeepsWithin : ℕ → Type 0
KeepsWithin t = (d e f : Offset) → IsWithin d e f
    → IsBetween (transformed t d).0 (transformed t e).0 (transformed t f).0
    × IsBetween (transformed t d).1 (transformed t e).1 (transformed t f).1

-- every transformation moves rectangles to rectangles
keeps_within : (t : ℕ) → t < transformations → KeepsWithin t
keeps_within =
    each_of_eight KeepsWithin
    (λ d e f w. (inl (w.above, w.below), inl (w.left, w.right)))
    (λ d e f w. (inl (w.left, w.right), turned_between d.0 e.0 f.0 w.above w.below))
    (λ d e f w. (turned_between d.0 e.0 f.0 w.above w.below, turned_between d.1 e.1 f.1 w.left w.right))
    (λ d e f w. (turned_between d.1 e.1 f.1 w.left w.right, inl (w.above, w.below)))
    (λ d e f w. (inl (w.above, w.below), turned_between d.1 e.1 f.1 w.left w.right))
    (λ d e f w. (turned_between d.1 e.1 f.1 w.left w.right, turned_between d.0 e.0 f.0 w.above w.below))
    (λ d e f w. (turned_between d.0 e.0 f.0 w.above w.below, inl (w.left, w.right)))
    (λ d e f w. (inl (w.left, w.right), inl (w.above, w.below)))

-- the moved offset d leads from m to the point a, in this row and this column
pub record IsPlaced (s t m : ℕ) (d : Offset) (a : ℕ) : Type 0 where
  pub row : ℕ
  pub column : ℕ
  pub row_is : pos (m / s) +ℤ (transformed t d).0 ≡ pos row
  pub column_is : pos (m % s) +ℤ (transformed t d).1 ≡ pos column
  pub row_on : row < s
  pub column_on : column < s
  pub point : row * s + column ≡ a

-- a strip that is there is on the board
strip_of-Some : (s : ℕ) (z : ℤ) (n : ℕ) → strip_of s z ≡ Some n → (z ≡ pos n) × (n < s)
strip_of-Some s (pos k) n e = grind (arith, cond_some, ltb-true)
strip_of-Some s (negsuc k) n e = absurd (none-some n e)

-- a point that is there stands in a row and a column
point_of-Some : (s a : ℕ) (row column : Option ℕ) → point_of s row column ≡ Some a
    → (r : ℕ) × (c : ℕ) × (row ≡ Some r) × (column ≡ Some c) × (r * s + c ≡ a)
point_of-Some s a None column e = absurd (none-some a e)
point_of-Some s a (Some r) None e = absurd (none-some a e)
point_of-Some s a (Some r) (Some c) e = (r, c, refl, refl, same_Some (r * s + c) a e)

module _ (s t m : ℕ) where
  -- what an offset leads to stands in a row and a column
  pub placed-Some : (d : Offset) (a : ℕ) → place_at s t m d ≡ Some a → IsPlaced s t m d a
  unfolding place_at
  placed-Some d a e =
      grind (
        arith,
        point_of-Some s a (strip_of s (pos (m / s) +ℤ (transformed t d).0)) (strip_of s (pos (m % s) +ℤ (transformed t d).1)) e,
        strip_of-Some s (pos (m / s) +ℤ (transformed t d).0),
        strip_of-Some s (pos (m % s) +ℤ (transformed t d).1),
      )

  -- the point in that row and column is what the offset leads to
  pub place_at-at : (d : Offset) (a : ℕ) → IsPlaced s t m d a → place_at s t m d ≡ Some a
  unfolding place_at
  place_at-at d a p = grind (arith, lt-ltb)

  -- an offset leads to a point of the board
  pub placed_on : (d : Offset) (a : ℕ) → place_at s t m d ≡ Some a → a < s * s
  placed_on d a e = grind (arith, placed-Some d a e, mul-add-lt)

-- from a strip reached by one part, another part leads where the sum of both leads
next_strip : (h r : ℕ) (x y w : ℤ) → pos h +ℤ x ≡ pos r → w ≡ x +ℤ y → pos r +ℤ y ≡ pos h +ℤ w
next_strip h r x y w e f = omega (arith, ints, e, f)

-- the offset e leads from the point that d leads to where both together lead
pub place_at-sum : (s t m : ℕ) (d e : Offset) (a : ℕ) → t < transformations → place_at s t m d ≡ Some a
    → place_at s t a e ≡ place_at s t m (sum_of d e)
unfolding place_at
place_at-sum s t m d e a low there =
    let p = placed-Some s t m d a there in
    let sums = moves_sums t low d e in
    let row : a / s ≡ p.row = ap (λ n. n / s) (sym p.point) ∙ div-mul-add p.row s p.column p.column_on in
    let column : a % s ≡ p.column = ap (λ n. n % s) (sym p.point) ∙ mod-mul-add p.row s p.column p.column_on in
    let rows : pos (a / s) +ℤ (transformed t e).0 ≡ pos (m / s) +ℤ (transformed t (sum_of d e)).0 =
    ap (λ n. pos n +ℤ (transformed t e).0) row
    ∙ next_strip (m / s) p.row (transformed t d).0 (transformed t e).0
    (transformed t (sum_of d e)).0 p.row_is sums.0 in
    let columns : pos (a % s) +ℤ (transformed t e).1 ≡ pos (m % s) +ℤ (transformed t (sum_of d e)).1 =
    ap (λ n. pos n +ℤ (transformed t e).1) column
    ∙ next_strip (m % s) p.column (transformed t d).1 (transformed t e).1
    (transformed t (sum_of d e)).1 p.column_is sums.1 in
    ap (λ z. point_of s (strip_of s z) (strip_of s (pos (a % s) +ℤ (transformed t e).1))) rows
    ∙ ap (λ z. point_of s (strip_of s (pos (m / s) +ℤ (transformed t (sum_of d e)).0)) (strip_of s z)) columns

-- a board with a point has a row
some_row : (s p : ℕ) → p < s * s → 0 < s
some_row s p h = grind (arith, cases_eq)

-- by the offset (0, 0) a strip leads to itself
same_strip : (n : ℕ) (z : ℤ) → z ≡ pos 0 → pos n +ℤ z ≡ pos n
same_strip n z none = omega (arith, ints, none)

-- the offset (0, 0) leads from a point to itself
pub place_at-none : (s t m : ℕ) → t < transformations → m < s * s → place_at s t m (pos 0, pos 0) ≡ Some m
place_at-none s t m low on =
    let still : transformed t (pos 0, pos 0) ≡ (pos 0, pos 0) = keeps_none t low in
    place_at-at s t m (pos 0, pos 0) m (record {
      row = m / s;
      column = m % s;
      row_is = same_strip (m / s) _ (ap (λ (d : Offset). d.0) still);
      column_is = same_strip (m % s) _ (ap (λ (d : Offset). d.1) still);
      row_on = div_below m s s (some_row s m on) on;
      column_on = mod_below m s (some_row s m on);
      point = div-add-mod' m s;
    })

-- z is the number of one of the first s strips
abbrev IsStrip : ℕ → ℤ → Type 0
IsStrip s z = (n : ℕ) × (z ≡ pos n) × (n < s)

-- what is neither below 0 nor as great as s is one
strip_within : (s : ℕ) (z : ℤ) → pos 0 ≤ℤ z → (z +ℤ pos 1) ≤ℤ pos s → IsStrip s z
strip_within s (pos n) low high = (n, refl, omega (arith, ints, high))
strip_within s (negsuc n) low high = absurd (omega (arith, ints, low))

-- a strip between two strips of the board is one
strip_between : (s h b c : ℕ) (x y z : ℤ) → pos h +ℤ x ≡ pos b → b < s → pos h +ℤ z ≡ pos c → c < s → IsBetween x y z
    → IsStrip s (pos h +ℤ y)
strip_between s h b c x y z e k f l (inl up) = grind (arith, strip_within, ints)
strip_between s h b c x y z e k f l (inr down) = grind (arith, strip_within, ints)

-- an offset that leads to a row and a column of the board leads to a point
placed : (s t m : ℕ) (e : Offset) → IsStrip s (pos (m / s) +ℤ (transformed t e).0)
    → IsStrip s (pos (m % s) +ℤ (transformed t e).1) → (q : ℕ) × (place_at s t m e ≡ Some q)
placed s t m e row column = grind (arith, place_at-at s t m e (row.0 * s + column.0))

-- what lies between two offsets that lead to points leads to a point
pub placed_between : (s t m a b : ℕ) (d e f : Offset) → t < transformations → place_at s t m d ≡ Some a
    → place_at s t m f ≡ Some b → IsWithin d e f → (q : ℕ) × (place_at s t m e ≡ Some q)
placed_between s t m a b d e f low first last within =
    let p = placed-Some s t m d a first in
    let q = placed-Some s t m f b last in
    let moved = keeps_within t low d e f within in
    placed s t m e
    (strip_between s (m / s) p.row q.row _ _ _ p.row_is p.row_on q.row_is q.row_on moved.0)
    (strip_between s (m % s) p.column q.column _ _ _ p.column_is p.column_on q.column_is q.column_on moved.1)
