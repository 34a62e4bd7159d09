-- The empty sides of a point.
use Rattle.std.proofs.Common.{◌≡◌, ℕ, ◌*◌, ◌<◌, ◌||◌, ◌&&◌, Bool, true, ltb, List, sym, ap, subst, ◌∙◌, arith}
use Rattle.std.proofs.lemmas.Bool.{eqb-true, and_parts, and_from, ltb-true}
use Rattle.std.specs.Ordering.{nat_cmp}
use Rattle.std.specs.FinSet as sets
use Rattle.go_rules.specs.declared.Cell.{Cell}
use Rattle.go_rules.specs.declared.Cell.TheVariants.{Empty}
use Rattle.go_rules.proofs.Counts.{any_below_gives, any_below_from}
use Rattle.go_rules.proofs.Sets.{same_nat_set, contains-set_below, len-set_below}
use Rattle.go_rules.proofs.Tests.{same_tests}
use Rattle.go_rules.specs.Below.{any_below, set_below, count_below}
use Rattle.go_rules.proofs.Paths.{same_cell-true}
use Rattle.go_base.specs.Views.{alone, neighbours_of}
use Rattle.go_base.proofs.SidesOfPoints.{neighbour_at-near}
use Rattle.go_base.proofs.PointNeighbourhoods.{whole_self, close_next, close_again, close_mono, alone_self}
use Rattle.go_rules.specs.Neighbourhood.{neighbourhood_of}
use Rattle.trial_board.specs.Overlays.{neighbourhood_twice}
use Rattle.wider_rules.specs.Strings.{holds_next}
use Rattle.wider_moves.proofs.SideLemmas.{IsSide}
use Rattle.read_rules.specs.Candidates.{is_empty_beside, IsEmptyNeighbour}

-- the points next to those of S at which nothing stands are the empty ones
pub empty_beside_are : (s : ℕ) (cells : List Cell) (S : ℕ → Bool) (p : ℕ)
    → any_below (s * s) (λ l. S l && holds_next s cells Empty l p) ≡ is_empty_beside s cells S p
unfolding holds_next is_empty_beside
empty_beside_are s cells S p = grind (arith, same_tests, any_below_gives, and_parts, and_from, any_below_from)

-- and so are the neighbours of one point
pub empty_sides_are : (s : ℕ) (cells : List Cell) (l p : ℕ) → l < s * s
    → holds_next s cells Empty l p ≡ is_empty_beside s cells (alone l) p
empty_sides_are s cells l p on = same_tests _ _
    (λ h. any_below_from (s * s) _ l on (and_from _ _ (alone_self l) h))
    (λ h.
    let k = any_below_gives (s * s) _ h in
    let both = and_parts _ _ k.2 in
    subst (λ x. holds_next s cells Empty x p ≡ true) (eqb-true k.0 l both.0) both.1)
    ∙ empty_beside_are s cells (alone l) p

-- the test for an empty neighbour of l
pub side_gives : (s : ℕ) (cells : List Cell) (l x : ℕ) → is_empty_beside s cells (alone l) x ≡ true
    → IsEmptyNeighbour s cells l x
unfolding is_empty_beside
side_gives s cells l x h = grind (arith, and_parts, any_below_gives, ltb-true, same_cell-true, eqb-true)

-- an empty neighbour of l is on the board
beside_within : (s : ℕ) (cells : List Cell) (l x : ℕ) → is_empty_beside s cells (alone l) x ≡ (ltb x
    (s * s) && is_empty_beside s cells (alone l) x)
unfolding is_empty_beside
beside_within s cells l x = grind arith

-- the empty neighbours of l that were added to none, counted
pub sides_counted : (s : ℕ) (cells : List Cell) (l : ℕ) (old found : sets.FinSet nat_cmp) → old ≡ sets.empty
    → ((x : ℕ) → sets.contains found x ≡ (sets.contains old x || is_empty_beside s cells (alone l) x))
    → sets.len found ≡ count_below (s * s) (is_empty_beside s cells (alone l))
sides_counted s cells l old found none added =
    let test = is_empty_beside s cells (alone l) in
    ap sets.len (same_nat_set found (set_below (s * s) test) (λ x. added x
    ∙ ap (λ b. b || test x) (ap (λ t. sets.contains t x) none ∙ sets.contains-empty nat_cmp x)
    ∙ beside_within s cells l x ∙ sym (contains-set_below (s * s) test x)))
    ∙ len-set_below (s * s) test

-- the sides of l are near it
pub sides_near : (s : ℕ) (cells : List Cell) (l : ℕ) → l < s * s → (r : ℕ) → neighbours_of s l r ≡ true
    → neighbourhood_twice s cells l r ≡ true
sides_near s cells l on r h =
    let near = and_parts _ _ h in
    close_again s cells (alone l) r (close_next s cells (alone l) l r (ltb-true r (s * s) near.0)
    (whole_self s cells (alone l) l on (alone_self l)) near.1)

-- and so is what is looked at around the string of the neighbour at a side
pub string_near : {s l side q : ℕ} (cells : List Cell) → IsSide s l side q → (r : ℕ)
    → neighbourhood_of s cells (alone q) r ≡ true → neighbourhood_twice s cells l r ≡ true
string_near {s} {l} {side} {q} cells is r h =
    let first = neighbourhood_of s cells (alone l) in
    let near = neighbour_at-near s l side q is.on_board is.at in
    let q_near = close_next s cells (alone l) l q near.0 (whole_self s cells (alone l) l is.on_board (alone_self l))
    near.1 in
    close_mono s cells (alone q) first (λ x same. ap first (eqb-true x q same) ∙ q_near) r h
