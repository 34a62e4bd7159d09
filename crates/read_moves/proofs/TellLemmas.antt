-- What is told of points, side by side.
use Rattle.std.proofs.Common.{◌≡◌, ◌⊎◌, ℕ, ◌+◌, ◌*◌, ◌<◌, ◌≤◌, true, cond, Some, List, sym, ap, subst, arith, inl, inr}
use Rattle.std.proofs.Common.{refl, ◌∙◌}
use Rattle.std.proofs.lemmas.Bool.{cases_Bool, cases_eq, eq-eqb, ne_eqb, both_ways}
use Rattle.go_rules.specs.declared.Cell.{Cell}
use Rattle.go_rules.specs.declared.Cell.TheVariants.{Empty}
use Rattle.go_rules.specs.declared.Colour.{Colour}
use Rattle.go_rules.specs.Strings.{cell_at, same_cell}
use Rattle.go_rules.proofs.Paths.{same_cell-true, same_cell-from}
use Rattle.go_base.specs.Sides.{neighbour_at}
use Rattle.go_base.proofs.SidesOfPoints.{neighbour_at-all, neighbour_at-near}
use Rattle.read_rules.specs.Candidates.{IsEmptyNeighbour}
use Rattle.read_moves.specs.declared.reach.Reach.{Reach}
use Rattle.read_moves.specs.declared.reach.Reach.TheVariants.{Nothing, Only, More}
use Rattle.read_moves.specs.Reaches.{HasOther, HasReach, together, is_more, IsOtherLibertyOf, IsReached, by_side}
use Rattle.read_moves.specs.Reaches.{by_string}

-- two of one point at least are two of a larger set
other_within : (P Q : ℕ → Type 0) → ((x : ℕ) → P x → Q x) → (p : ℕ) → HasOther P p → HasOther Q p
other_within P Q f p o = record { point = o.point; inside = f o.point o.inside; other = o.other }

-- what is told of one set of points is told of the same set
pub HasReach-same : (P Q : ℕ → Type 0) (r : Reach) → ((x : ℕ) → P x → Q x) → ((x : ℕ) → Q x → P x) → HasReach P r
    → HasReach Q r
HasReach-same P Q Nothing to from h = λ x q. h x (from x q)
HasReach-same P Q (Only p) to from h = (to p h.0, λ x q. h.1 x (from x q))
HasReach-same P Q More to from h = λ p. other_within P Q to p (h p)

-- a larger set has two points too
pub HasReach-more : (P Q : ℕ → Type 0) (r : Reach) → is_more r ≡ true → ((x : ℕ) → P x → Q x) → HasReach P r
    → HasReach Q r
HasReach-more P Q Nothing more to h = absurd (let no = more in cc)
HasReach-more P Q (Only p) more to h = absurd (let no = more in cc)
HasReach-more P Q More more to h = λ p. other_within P Q to p (h p)

-- what is told of P and of Q is told together of both
pub HasReach-together : (P Q : ℕ → Type 0) (a b : Reach) → HasReach P a → HasReach Q b
    → HasReach (λ x. P x ⊎ Q x) (together a b)
HasReach-together P Q Nothing Nothing h k = λ x e. elim e [ inl i ↦ h x i | inr i ↦ k x i ]
HasReach-together P Q Nothing (Only q) h k = (inr k.0, λ x e. elim e [ inl i ↦ absurd (h x i) | inr i ↦ k.1 x i ])
HasReach-together P Q Nothing More h k = λ z. other_within Q (λ x. P x ⊎ Q x) (λ x i. inr i) z (k z)
HasReach-together P Q (Only p) Nothing h k = (inl h.0, λ x e. elim e [ inl i ↦ h.1 x i | inr i ↦ absurd (k x i) ])
HasReach-together P Q (Only p) (Only q) h k = elim (cases_eq p q) [
  | inl e ↦ rw (eq-eqb p q e)
      (inl h.0, λ x i. elim i [ inl i ↦ h.1 x i | inr i ↦ k.1 x i ∙ sym e ])
  | inr ne ↦ rw (ne_eqb p q ne) (λ z. elim (cases_eq p z) [
    | inl e ↦ record { point = q; inside = inr k.0; other = λ same. ne (e ∙ sym same) }
    | inr off ↦ record { point = p; inside = inl h.0; other = off }
  ])
]
HasReach-together P Q (Only p) More h k = λ z. other_within Q (λ x. P x ⊎ Q x) (λ x i. inr i) z (k z)
HasReach-together P Q More b h k = λ z. other_within P (λ x. P x ⊎ Q x) (λ x i. inl i) z (h z)

-- what is told together with nothing is told
together-nothing : (r : Reach) → together r Nothing ≡ r
together-nothing Nothing = refl
together-nothing (Only p) = refl
together-nothing More = refl

-- x is of P, or of S at one of the first n sides
pub data IsSoFar (P : ℕ → Type 0) (S : ℕ → ℕ → Type 0) (n x : ℕ) : Type 0 where
  before : P x → IsSoFar P S n x
  at_side : (side : ℕ) → side < n → S side x → IsSoFar P S n x

-- What is told of the points of P, and of those of S at one side after another.
module _ (P : ℕ → Type 0) (S : ℕ → ℕ → Type 0) where
  -- no side was visited
  pub SoFar-none : (r : Reach) → HasReach P r → HasReach (IsSoFar P S 0) r
  SoFar-none r h = HasReach-same P (IsSoFar P S 0) r (λ x i. before i) back h
    where
      back : (x : ℕ) → IsSoFar P S 0 x → P x
      back x (before i) = i
      back x (at_side side below i) = absurd (omega (arith, below))

  -- the next side has the points that are told of it
  pub SoFar-next : (n : ℕ) (old one : Reach) → HasReach (IsSoFar P S n) old → HasReach (S n) one
      → HasReach (IsSoFar P S (n + 1)) (together old one)
  SoFar-next n old one h its = HasReach-same (λ x. IsSoFar P S n x ⊎ S n x) (IsSoFar P S (n + 1)) (together old one)
      to from (HasReach-together (IsSoFar P S n) (S n) old one h its)
    where
      to : (x : ℕ) → IsSoFar P S n x ⊎ S n x → IsSoFar P S (n + 1) x
      to x (inl (before i)) = before i
      to x (inl (at_side side below i)) = at_side side (omega (arith, below)) i
      to x (inr i) = at_side n (omega arith) i

      from : (x : ℕ) → IsSoFar P S (n + 1) x → IsSoFar P S n x ⊎ S n x
      from x (before i) = inl (before i)
      from x (at_side side below i) = elim (cases_eq side n) [
        | inl e ↦ inr (subst (λ k. S k x) e i)
        | inr ne ↦ inl (at_side side (omega (arith, below, ne)) i)
      ]

  -- the next side has no points
  pub SoFar-skip : (n : ℕ) (r : Reach) → HasReach (IsSoFar P S n) r → ((x : ℕ) → S n x → ⊥)
      → HasReach (IsSoFar P S (n + 1)) r
  SoFar-skip n r h none = subst (HasReach (IsSoFar P S (n + 1))) (together-nothing r) (SoFar-next n r Nothing h none)

-- no point
abbrev pub Nowhere : ℕ → Type 0
Nowhere x = ⊥

-- x is an empty point at this side of l
pub record IsEmptySide (s : ℕ) (cells : List Cell) (l side x : ℕ) : Type 0 where
  pub at : neighbour_at s l side ≡ Some x
  pub is_empty : cell_at cells x ≡ Empty

-- x is another liberty of the string of c at this side of l
pub record IsLibertyAtSide (s : ℕ) (cells : List Cell) (c : Colour) (l side x : ℕ) : Type 0 where
  pub q : ℕ
  pub at : neighbour_at s l side ≡ Some q
  pub its : IsOtherLibertyOf s cells c l q x

-- What a stone of c at the point l reaches, on a board of s rows.
module _ (s : ℕ) (cells : List Cell) (l : ℕ) (on : l < s * s) where
  -- the point at a side is told, where it is empty
  pub side_told : (side q : ℕ) (one : Reach) → neighbour_at s l side ≡ Some q
      → one ≡ cond (same_cell (cell_at cells q) Empty) (Only q) Nothing → HasReach (IsEmptySide s cells l side) one
  side_told side q one at is = subst (HasReach (IsEmptySide s cells l side)) (sym is)
      (elim (cases_Bool (same_cell (cell_at cells q) Empty)) [
        | inl t ↦ rw t (
          record { at = at; is_empty = same_cell-true _ _ t },
          λ x i. let same : Some x ≡ Some q = sym i.at ∙ at in cc,
        )
        | inr f ↦ rw f (λ x i.
            let same : x ≡ q = (let k : Some x ≡ Some q = sym i.at ∙ at in cc) in
            both_ways (same_cell (cell_at cells q) Empty) f
            (same_cell-from _ _ (ap (cell_at cells) (sym same) ∙ i.is_empty)))
      ])

  -- after the four sides the empty neighbours are told
  pub sides_told : (n : ℕ) (r : Reach) → 4 ≤ n → HasReach (IsSoFar Nowhere (IsEmptySide s cells l) n) r
      → HasReach (IsEmptyNeighbour s cells l) r
  sides_told n r four =
      HasReach-same (IsSoFar Nowhere (IsEmptySide s cells l) n) (IsEmptyNeighbour s cells l) r to from
    where
      to : (x : ℕ) → IsSoFar Nowhere (IsEmptySide s cells l) n x → IsEmptyNeighbour s cells l x
      to x (before i) = absurd i
      to x (at_side side below i) =
          let near = neighbour_at-near s l side x on i.at in
          record { on_board = near.0; is_empty = i.is_empty; beside = near.1 }

      from : (x : ℕ) → IsEmptyNeighbour s cells l x → IsSoFar Nowhere (IsEmptySide s cells l) n x
      from x i =
          let side = neighbour_at-all s l x on i.on_board i.beside in
          at_side side.0 (omega (arith, side.1, four)) (record { at = side.2; is_empty = i.is_empty })

  -- The strings of c at the sides.
  module _ (c : Colour) where
    -- the liberties of the string at a side are told
    pub string_told : (side q : ℕ) (one : Reach) → neighbour_at s l side ≡ Some q
        → HasReach (IsOtherLibertyOf s cells c l q) one → HasReach (IsLibertyAtSide s cells c l side) one
    string_told side q one at = grind (arith, HasReach-same)

    -- what was told so far is reached
    pub so_far_reached : (n x : ℕ) → IsSoFar (IsEmptyNeighbour s cells l) (IsLibertyAtSide s cells c l) n x
        → IsReached s cells c l x
    so_far_reached n x v2 = grind (arith, neighbour_at-near)

    -- after the four sides what is reached is told
    pub strings_told : (n : ℕ) (r : Reach) → 4 ≤ n
        → HasReach (IsSoFar (IsEmptyNeighbour s cells l) (IsLibertyAtSide s cells c l) n) r
        → HasReach (IsReached s cells c l) r
    strings_told n r four = HasReach-same (IsSoFar (IsEmptyNeighbour s cells l) (IsLibertyAtSide s cells c l) n)
        (IsReached s cells c l) r (so_far_reached n) from
      where
        from : (x : ℕ) → IsReached s cells c l x
            → IsSoFar (IsEmptyNeighbour s cells l) (IsLibertyAtSide s cells c l) n x
        from x (by_side i) = before i
        from x (by_string b ne) =
            let side = neighbour_at-all s l b.q on b.its.on_board b.beside in
            at_side side.0 (omega (arith, side.1, four))
            (record { q = b.q; at = side.2; its = record { its = b.its; other = ne } })
