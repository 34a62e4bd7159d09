-- What the neighbourhood of a set of points has.
use Rattle.std.proofs.Common.{◌≡◌, ◌⊎◌, ℕ, ◌*◌, ◌<◌, Bool, true, List, refl, sym, ap, subst, inl, inr, ◌∙◌, arith}
use Rattle.std.proofs.lemmas.Bool.{and_parts, and_from, or_cases, or_left, or_right, eqb-true, eq-eqb, lt-ltb, ltb-true}
use Rattle.go_rules.specs.declared.Cell.{Cell}
use Rattle.go_rules.specs.Board.{are_neighbours}
use Rattle.go_rules.specs.Strings.{cell_at, is_stone, is_in_string, Path}
use Rattle.go_rules.specs.Neighbourhood.{whole_strings_of, neighbourhood_of}
use Rattle.go_rules.proofs.Counts.{any_below_gives, any_below_from}
use Rattle.go_rules.proofs.StringMembers.{is_in_string_on}
use Rattle.go_rules.proofs.InWords.{whole_strings_of-on_board, neighbourhood_of-on_board}
use Rattle.go_rules.proofs.Paths.{is_is_in_string-from_fact}
use Rattle.go_base.specs.Views.{alone, around}

-- The whole strings and the neighbourhood of a set S of points.
module _ (s : ℕ) (cells : List Cell) (S : ℕ → Bool) where
  -- a point of S is in its whole strings
  pub whole_self : (q : ℕ) → q < s * s → S q ≡ true → whole_strings_of s cells S q ≡ true
  unfolding whole_strings_of
  whole_self q on h = and_from _ _ (lt-ltb q (s * s) on) (or_left _ _ h)

  -- and so is each stone of its string
  pub whole_string : (x q : ℕ) → x < s * s → S x ≡ true → is_in_string s cells x q ≡ true
      → whole_strings_of s cells S q ≡ true
  unfolding whole_strings_of
  whole_string x q on h i =
      and_from _ _ (lt-ltb q (s * s) (is_in_string_on s cells x q on i))
      (or_right _ _ (any_below_from (s * s) _ x on (and_from _ _ h i)))

  -- the whole strings are in the neighbourhood
  pub close_whole : (q : ℕ) → whole_strings_of s cells S q ≡ true → neighbourhood_of s cells S q ≡ true
  unfolding neighbourhood_of
  close_whole q h = and_from _ _ (lt-ltb q (s * s) (whole_strings_of-on_board s cells S q h)) (or_left _ _ h)

  -- and so is each neighbour of one of their points
  pub close_next : (y q : ℕ) → q < s * s → whole_strings_of s cells S y ≡ true → are_neighbours s y q ≡ true
      → neighbourhood_of s cells S q ≡ true
  unfolding neighbourhood_of
  close_next y q on h i =
      and_from _ _ (lt-ltb q (s * s) on) (or_right _ _
      (any_below_from (s * s) _ y (whole_strings_of-on_board s cells S y h) (and_from _ _ h i)))

  -- a point of S is in the neighbourhood
  pub close_self : (q : ℕ) → q < s * s → S q ≡ true → neighbourhood_of s cells S q ≡ true
  close_self q on h = close_whole q (whole_self q on h)

-- a neighbourhood is within its own neighbourhood
pub close_again : (s : ℕ) (cells : List Cell) (S : ℕ → Bool) (q : ℕ) → neighbourhood_of s cells S q ≡ true
    → neighbourhood_of s cells (neighbourhood_of s cells S) q ≡ true
close_again s cells S q h = grind (arith, close_self, neighbourhood_of-on_board)

-- a point of the board is in the neighbourhood of itself
pub close_alone : (s : ℕ) (cells : List Cell) (p q : ℕ) → p < s * s → alone p q ≡ true
    → neighbourhood_of s cells (alone p) q ≡ true
close_alone s cells p q on h = close_self s cells (alone p) q (subst (λ x. x < s * s) (sym (eqb-true q p h)) on) h

-- what is in the whole strings of S is in S, or in the string of a point of S
pub whole_cases : (s : ℕ) (cells : List Cell) (S : ℕ → Bool) (q : ℕ) → whole_strings_of s cells S q ≡ true
    → (S q ≡ true) ⊎ ((x : ℕ) × (x < s * s) × (S x ≡ true) × (is_in_string s cells x q ≡ true))
unfolding whole_strings_of
whole_cases s cells S q h = grind (arith, or_cases, and_parts, any_below_gives)

-- how a point belongs to the neighbourhood of S
pub data Closeness (s : ℕ) (cells : List Cell) (S : ℕ → Bool) (q : ℕ) : Type 0 where
  within : whole_strings_of s cells S q ≡ true → Closeness s cells S q
  beside : (y : ℕ) → q < s * s → whole_strings_of s cells S y ≡ true → are_neighbours s y q ≡ true
      → Closeness s cells S q

-- what is in the neighbourhood of S belongs to it in one of these ways
pub closeness : (s : ℕ) (cells : List Cell) (S : ℕ → Bool) (q : ℕ) → neighbourhood_of s cells S q ≡ true
    → Closeness s cells S q
unfolding neighbourhood_of
closeness s cells S q h = elim (or_cases _ _ (and_parts _ _ h).1) [
  | inl w ↦ within w
  | inr n ↦
      let found = any_below_gives (s * s) _ n in
      let both = and_parts _ _ found.2 in
      beside found.0 (neighbourhood_of-on_board s cells S q h) both.0 both.1
]

-- more points have more whole strings
whole_mono : (s : ℕ) (cells : List Cell) (S T : ℕ → Bool) → ((q : ℕ) → S q ≡ true → T q ≡ true) → (q : ℕ)
    → whole_strings_of s cells S q ≡ true → whole_strings_of s cells T q ≡ true
unfolding whole_strings_of
whole_mono s cells S T m q h =
    let parts = and_parts _ _ h in
    and_from _ _ parts.0 (elim (or_cases _ _ parts.1) [
      | inl i ↦ or_left _ _ (m q i)
      | inr i ↦
          let found = any_below_gives (s * s) _ i in
          let both = and_parts _ _ found.2 in
          or_right _ _ (any_below_from (s * s) _ found.0 found.1 (and_from _ _ (m found.0 both.0) both.1))
    ])

-- more points have a larger neighbourhood
pub close_mono : (s : ℕ) (cells : List Cell) (S T : ℕ → Bool) → ((q : ℕ) → S q ≡ true → T q ≡ true) → (q : ℕ)
    → neighbourhood_of s cells S q ≡ true → neighbourhood_of s cells T q ≡ true
close_mono s cells S T m q h = elim (closeness s cells S q h) [
  | within w ↦ close_whole s cells T q (whole_mono s cells S T m q w)
  | beside y on w n ↦ close_next s cells T y q on (whole_mono s cells S T m y w) n
]

-- the neighbourhood of a point of S is within that of S
pub close_point : (s : ℕ) (cells : List Cell) (S : ℕ → Bool) (x : ℕ) → S x ≡ true → (q : ℕ)
    → neighbourhood_of s cells (alone x) q ≡ true → neighbourhood_of s cells S q ≡ true
close_point s cells S x h q c = close_mono s cells (alone x) S (λ r e. ap S (eqb-true r x e) ∙ h) q c

-- a point is itself alone
pub alone_self : (p : ℕ) → alone p p ≡ true
alone_self p = eq-eqb p p refl

-- a point and its neighbours are in the neighbourhood of the point
pub close_sides : (s : ℕ) (cells : List Cell) (p r : ℕ) → p < s * s → around s p r ≡ true
    → neighbourhood_of s cells (alone p) r ≡ true
close_sides s cells p r on h =
    let parts = and_parts _ _ h in
    elim (or_cases _ _ parts.1) [
      | inl e ↦ close_alone s cells p r on e
      | inr n ↦ close_next s cells (alone p) p r (ltb-true r (s * s) parts.0)
          (whole_self s cells (alone p) p on (alone_self p)) n
    ]

-- a stone of the string of p and its neighbours are in the neighbourhood of p
pub close_around : (s : ℕ) (cells : List Cell) (p q r : ℕ) → p < s * s → is_stone (cell_at cells p) ≡ true
    → Path s cells p q → around s q r ≡ true → neighbourhood_of s cells (alone p) r ≡ true
close_around s cells p q r on stone path h =
    let whole : whole_strings_of s cells (alone p) q ≡ true =
    whole_string s cells (alone p) p q on (alone_self p)
    (is_is_in_string-from_fact s cells p q on (record { stone = stone; path = path })) in
    let parts = and_parts _ _ h in
    elim (or_cases _ _ parts.1) [
      | inl e ↦ close_whole s cells (alone p) r
          (subst (λ x. whole_strings_of s cells (alone p) x ≡ true) (sym (eqb-true r q e)) whole)
      | inr n ↦ close_next s cells (alone p) q r (ltb-true r (s * s) parts.0) whole n
    ]
