-- The neighbours of a point at which a cell stands, added side by side.
use Rattle.std.proofs.Common.{◌≡◌, ◌⊎◌, ℕ, ◌+◌, ◌*◌, ◌<◌, ◌≤◌, ◌&&◌, ◌||◌, Bool, true, cond, Option, Some, List}
use Rattle.std.proofs.Common.{sym, ap, subst, arith, inl, inr, ◌∙◌}
use Rattle.std.proofs.lemmas.Bool.{cases_Bool, cases_eq, or_cases, or_left, or_right, eqb-true, eq-eqb, both_ways}
use Rattle.std.proofs.lemmas.Bool.{and_parts, and_from, lt-ltb, ltb-true}
use Rattle.std.specs.Ordering.{nat_cmp}
use Rattle.std.specs.FinSet as sets
use Rattle.go_rules.specs.declared.Cell.{Cell}
use Rattle.go_rules.specs.Below.{any_below}
use Rattle.go_rules.specs.Neighbourhood.{neighbourhood_of}
use Rattle.go_rules.specs.Strings.{cell_at, same_cell}
use Rattle.go_rules.proofs.Counts.{any_below_gives}
use Rattle.go_rules.proofs.Sets.{contains-insert_nat}
use Rattle.go_rules.proofs.Tests.{same_tests}
use Rattle.go_rules.specs.Position.{BoardState}
use Rattle.go_base.specs.Facts.{Fact, SizeIs, Agrees, same_size}
use Rattle.go_base.specs.Sides.{neighbour_at}
use Rattle.go_base.specs.Views.{alone, neighbours_of}
use Rattle.go_base.proofs.SidesOfPoints.{neighbour_at-all, neighbour_at-near}
use Rattle.trial_board.specs.Trials.{Trying}
use Rattle.trial_board.proofs.WalkLemmas.{Walked, Walked-same, Walked-next}
use Rattle.wider_rules.proofs.FurtherPlaces.{side_close}
use Rattle.wider_rules.specs.Strings.{holds_next}

-- l is on the board, and q is its neighbour at this side
pub record IsSide (s l side q : ℕ) : Type 0 where
  pub on_board : l < s * s
  pub at : neighbour_at s l side ≡ Some q

-- a side that was found on a board of the same size is one of this board
pub side_found : (s l side q : ℕ) {shown size : ℕ} {found : Option ℕ} → s ≡ shown → l < shown * shown → size ≡ shown
    → found ≡ neighbour_at size l side → found ≡ Some q → IsSide s l side q
side_found s l side q e on size value is = grind arith

-- if no side was found on a board of the same size this board has none
no_side : (s l side : ℕ) {shown size : ℕ} {found : Option ℕ} → s ≡ shown → size ≡ shown
    → found ≡ neighbour_at size l side → ((q : ℕ) → found ≡ Some q → ⊥) → (q : ℕ) → neighbour_at s l side ≡ Some q → ⊥
no_side s l side e size value none q at =
    none q (value ∙ ap (λ n. neighbour_at n l side) (size ∙ sym e) ∙ at)

-- the point at a side is a neighbour
pub side_near : {s l side q : ℕ} → IsSide s l side q → (r : ℕ) → alone q r ≡ true → neighbours_of s l r ≡ true
side_near {s} {l} {side} {q} is r h = grind (arith, neighbour_at-near, eqb-true, and_from, lt-ltb)

-- Looks from l, at one side after another, where the side was asked for by the size of the board that is shown.
module _ {L : Type 0} {shows : L → BoardState} {seen : L → Fact → Bool} {area : ℕ → BoardState → ℕ → Bool}
    {Found More : ℕ → BoardState → Type 0} {first mid : Trying L} {size : ℕ} {found : Option ℕ} (l side : ℕ)
    (told : seen first.look (SizeIs (shows first.look).size) ≡ true)
    (on : l < (shows first.look).size * (shows first.look).size) (sized : size ≡ (shows first.look).size)
    (value : found ≡ neighbour_at size l side) (walk : Walked shows seen area Found first mid) where
  -- one more side gave a point, which was looked at
  pub Walked-side : {now : Trying L} {q : ℕ} (close : ℕ → BoardState → ℕ → Bool) (Says : ℕ → BoardState → Type 0)
      → found ≡ Some q → Walked shows seen close Says mid now
      → ((s : ℕ) (here : BoardState) → IsSide s l side q → (r : ℕ) → close s here r ≡ true → area s here r ≡ true)
      → ((s : ℕ) (here : BoardState) → IsSide s l side q → Found s here → Says s here → More s here)
      → Walked shows seen area More first now
  Walked-side close Says is look inside more =
      let here = λ (pos : BoardState) (a : Agrees (seen first.look) pos).
      side_found pos.size l side _ (same_size told a) on sized value is in
      Walked-next close Says walk look (λ pos a i. inside pos.size _ (here pos a))
      (λ pos a. more pos.size _ (here pos a))

  -- one more side is off the board
  pub Walked-off : ((q : ℕ) → found ≡ Some q → ⊥)
      → ((s : ℕ) (here : BoardState) → ((q : ℕ) → neighbour_at s l side ≡ Some q → ⊥) → Found s here → More s here)
      → Walked shows seen area More first mid
  Walked-off none more =
      Walked-same walk (λ pos a. more pos.size _ (no_side pos.size l side (same_size told a) sized value none))

-- the neighbours of points are in the neighbourhood of these
pub sides_close : (s : ℕ) (cells : List Cell) (points : ℕ → Bool) (r : ℕ)
    → any_below (s * s) (λ l. points l && neighbours_of s l r) ≡ true → neighbourhood_of s cells points r ≡ true
sides_close s cells points r h =
    let l = any_below_gives (s * s) _ h in
    let both = and_parts _ _ l.2 in
    let near = and_parts _ _ both.1 in
    side_close s cells points l.0 r l.1 both.0 (ltb-true r (s * s) near.0) near.1

-- of the first n sides of l, the neighbours at which the cell stands came, and nothing else
pub record AddsSides (s : ℕ) (cells : List Cell) (cell : Cell) (l n : ℕ) (old new : sets.FinSet nat_cmp) : Type 0 where
  pub kept : (p : ℕ) → sets.contains old p ≡ true → sets.contains new p ≡ true
  pub all : (side : ℕ) → side < n → (p : ℕ) → neighbour_at s l side ≡ Some p
      → same_cell (cell_at cells p) cell ≡ true
      → sets.contains new p ≡ true
  pub only : (p : ℕ) → sets.contains new p ≡ true
      → (sets.contains old p ≡ true) ⊎ (holds_next s cells cell l p ≡ true)

module _ (s : ℕ) (cells : List Cell) (cell : Cell) (l : ℕ) where
  -- no side was visited
  pub AddsSides-none : (old : sets.FinSet nat_cmp) → AddsSides s cells cell l 0 old old
  AddsSides-none old = record { kept = λ p i. i; all = λ side below. absurd (omega arith); only = λ p i. inl i }

  -- the next side gave nothing, or another cell
  pub AddsSides-skip : (n : ℕ) (old new : sets.FinSet nat_cmp) → AddsSides s cells cell l n old new
      → ((p : ℕ) → neighbour_at s l n ≡ Some p → same_cell (cell_at cells p) cell ≡ true → ⊥)
      → AddsSides s cells cell l (n + 1) old new
  AddsSides-skip n old new h none = record {
    kept = h.kept;
    all = λ side below p at holds. elim (cases_eq side n) [
      | inl e ↦ absurd (none p (ap (neighbour_at s l) (sym e) ∙ at) holds)
      | inr ne ↦ h.all side (omega arith) p at holds
    ];
    only = h.only;
  }

  -- the next side gave the cell
  AddsSides-add : (n q : ℕ) (old new : sets.FinSet nat_cmp) → AddsSides s cells cell l n old new → IsSide s l n q
      → same_cell (cell_at cells q) cell ≡ true → AddsSides s cells cell l (n + 1) old (sets.insert new q)
  unfolding holds_next
  AddsSides-add n q old new h is holds = record {
    kept = λ p i. contains-insert_nat new q p ∙ or_right _ _ (h.kept p i);
    all = λ side below p at' holds'. contains-insert_nat new q p ∙ elim (cases_eq side n) [
      | inl e ↦ or_left _ _ (eq-eqb p q (let same : Some p ≡ Some q = sym at' ∙ ap (neighbour_at s l) e ∙ is.at in cc))
      | inr ne ↦ or_right _ _ (h.all side (omega arith) p at' holds')
    ];
    only = λ p i. elim (or_cases _ _ (sym (contains-insert_nat new q p) ∙ i)) [
      | inl same ↦
          let near = neighbour_at-near s l n q is.on_board is.at in
          inr (subst (λ x. holds_next s cells cell l x ≡ true) (sym (eqb-true p q same))
          (and_from _ _ (and_from _ _ (lt-ltb q (s * s) near.0) holds) near.1))
      | inr before ↦ h.only p before
    ];
  }

  -- the next side gave a point, which came where the cell stands there
  pub AddsSides-visit : (n q : ℕ) (old mid new : sets.FinSet nat_cmp) → AddsSides s cells cell l n old mid
      → IsSide s l n q
      → new ≡ cond (same_cell (cell_at cells q) cell) (sets.insert mid q) mid → AddsSides s cells cell l (n + 1) old new
  AddsSides-visit n q old mid new h is made =
      subst (AddsSides s cells cell l (n + 1) old) (sym made) (elim (cases_Bool (same_cell (cell_at cells q) cell)) [
        | inl t ↦ rw t (AddsSides-add n q old mid h is t)
        | inr f ↦ rw f (AddsSides-skip n old mid h (λ p at' holds.
            let same : q ≡ p = (let k : Some q ≡ Some p = sym is.at ∙ at' in cc) in
            both_ways (same_cell (cell_at cells p) cell)
            (ap (λ x. same_cell (cell_at cells x) cell) (sym same) ∙ f) holds))
      ])

  -- after the four sides all such neighbours are there
  pub AddsSides-all : (n : ℕ) (old new : sets.FinSet nat_cmp) → AddsSides s cells cell l n old new → l < s * s → 4 ≤ n
      → (p : ℕ) → sets.contains new p ≡ (sets.contains old p || holds_next s cells cell l p)
  unfolding holds_next
  AddsSides-all n old new h on four p = same_tests _ _
      (λ i. elim (h.only p i) [ inl before ↦ or_left _ _ before | inr now ↦ or_right _ _ now ])
      (λ i. elim (or_cases _ _ i) [
        | inl before ↦ h.kept p before
        | inr now ↦
            let parts = and_parts _ _ now in
            let place = and_parts _ _ parts.0 in
            let side = neighbour_at-all s l p on (ltb-true p (s * s) place.0) parts.1 in
            h.all side.0 (omega (arith, side.1, four)) p side.2 place.1
      ])
