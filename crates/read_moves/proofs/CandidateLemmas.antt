-- Where the candidates are looked for.
use Rattle.std.proofs.Common.{◌≡◌, ℕ, ◌*◌, ◌<◌, ◌&&◌, ◌||◌, true, ltb, List, sym, ap, subst, ◌∙◌}
use Rattle.std.proofs.lemmas.Bool.{and_parts, ltb-true, eqb-true}
use Rattle.std.specs.Ordering.{nat_cmp}
use Rattle.std.specs.FinSet as sets
use Rattle.go_rules.specs.declared.Cell.{Cell}
use Rattle.go_rules.specs.declared.Colour.{Colour}
use Rattle.go_rules.specs.Below.{any_below}
use Rattle.go_rules.specs.Strings.{cell_at, liberty_points, IsLiberty}
use Rattle.go_rules.specs.Position.{BoardState}
use Rattle.go_rules.specs.Neighbourhood.{neighbourhood_of}
use Rattle.go_rules.proofs.Counts.{any_below_gives}
use Rattle.go_rules.proofs.Paths.{IsLiberty-from_test, is_is_in_string-from_fact}
use Rattle.go_base.specs.Views.{alone, neighbours_of}
use Rattle.go_base.proofs.PointNeighbourhoods.{whole_self, whole_string, close_next, close_again, close_alone}
use Rattle.go_base.proofs.PointNeighbourhoods.{close_mono, alone_self}
use Rattle.trial_board.specs.Overlays.{neighbourhood_twice}
use Rattle.read_rules.specs.Candidates.{near_candidates, attacker_of, is_empty_beside, is_left}
use Rattle.read_rules.specs.Stages.{is_wide_by_liberties}
use Rattle.read_rules.proofs.StageLemmas.{has_liberty, wide_is}

-- the liberties of t, on a position of the size of the trial position
pub its_liberties : (here : BoardState) (s t : ℕ) (libs : sets.FinSet nat_cmp) → here.size ≡ s
    → libs ≡ liberty_points s here.cells t → libs ≡ liberty_points here.size here.cells t
its_liberties here s t libs size e = e ∙ ap (λ n. liberty_points n here.cells t) (sym size)

-- on a board of s rows, the empty neighbours of at most two liberties and what the attacker's plays leave, added to
-- none, are the wide candidates of the stated tree
pub stated_found : (here : BoardState) (s t p : ℕ) (libs none mid new : sets.FinSet nat_cmp) (c : Colour)
    → here.size ≡ s → libs ≡ liberty_points s here.cells t → none ≡ sets.empty
    → c ≡ attacker_of (cell_at here.cells t)
    → sets.contains mid p
    ≡ (sets.contains none p || (ltb (sets.len libs) 3 && is_empty_beside s here.cells (sets.contains libs) p))
    → sets.contains new p
    ≡ (sets.contains mid p || any_below (s * s) (λ l. sets.contains libs l && is_left here c l p))
    → sets.contains new p ≡ is_wide_by_liberties here t p
stated_found here s t p libs none mid new c size its empty colour beside left =
    wide_is here t p libs (its_liberties here s t libs size its) none c (sets.contains new p) empty colour
    (subst (λ n. sets.contains new p ≡ ((sets.contains none p
    || (ltb (sets.len libs) 3 && is_empty_beside n here.cells (sets.contains libs) p))
    || any_below (n * n) (λ l. sets.contains libs l && is_left here c l p))) (sym size)
    (left ∙ ap (λ b. b || any_below (s * s) (λ l. sets.contains libs l && is_left here c l p)) beside))

-- Where the candidates of t are looked for.
module _ (s : ℕ) (cells : List Cell) (t : ℕ) (on : t < s * s) where
  -- a liberty is in the first
  liberty_near : (l : ℕ) → IsLiberty s cells t l → neighbourhood_of s cells (alone t) l ≡ true
  liberty_near l lib =
      let q = lib.beside in
      let q_in = is_is_in_string-from_fact s cells t q.0 on q.1 in
      close_next s cells (alone t) q.0 l lib.on_board (whole_string s cells (alone t) t q.0 on (alone_self t) q_in) q.2

  -- what is in the second is where candidates are looked for
  pub near_twice : (r : ℕ) → neighbourhood_twice s cells t r ≡ true → near_candidates s cells t r ≡ true
  near_twice r h = close_again s cells _ r (close_again s cells _ r h)

  -- and so is the point itself
  pub near_self : (r : ℕ) → alone t r ≡ true → near_candidates s cells t r ≡ true
  near_self r h = near_twice r (close_again s cells _ r (close_alone s cells t r on h))

  -- the neighbours of the liberties too
  pub near_liberties : (libs : sets.FinSet nat_cmp) (r : ℕ) → libs ≡ liberty_points s cells t
      → any_below (s * s) (λ l. sets.contains libs l && neighbours_of s l r) ≡ true → near_candidates s cells t r ≡ true
  near_liberties libs r e h =
      let l = any_below_gives (s * s) _ h in
      let both = and_parts _ _ l.2 in
      let lib = IsLiberty-from_test s cells t l.0 (sym (has_liberty s cells t l.0 libs e) ∙ both.0) in
      let near = and_parts _ _ both.1 in
      let first = neighbourhood_of s cells (alone t) in
      near_twice r (close_next s cells first l.0 r (ltb-true r (s * s) near.0)
      (whole_self s cells first l.0 l.1 (liberty_near l.0 lib)) near.1)

  -- and what a play at a liberty looks at
  pub near_plays : (libs : sets.FinSet nat_cmp) (r : ℕ) → libs ≡ liberty_points s cells t
      → any_below (s * s) (λ l. sets.contains libs l && neighbourhood_twice s cells l r) ≡ true
      → near_candidates s cells t r ≡ true
  near_plays libs r e h =
      let l = any_below_gives (s * s) _ h in
      let both = and_parts _ _ l.2 in
      let lib = IsLiberty-from_test s cells t l.0 (sym (has_liberty s cells t l.0 libs e) ∙ both.0) in
      let first = neighbourhood_of s cells (alone t) in
      let within_first = close_mono s cells (alone l.0) first
      (λ q same. ap first (eqb-true q l.0 same) ∙ liberty_near l.0 lib) in
      close_again s cells _ r (close_mono s cells (neighbourhood_of s cells (alone l.0))
      (neighbourhood_of s cells first) within_first r both.1)
