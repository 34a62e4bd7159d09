-- Where the search for further candidates looks.
use Rattle.std.proofs.Common.{◌≡◌, ℕ, ◌*◌, ◌<◌, ◌&&◌, true, ltb, List, sym, ◌∙◌}
use Rattle.std.proofs.lemmas.Bool.{and_parts, ltb-true}
use Rattle.std.specs.Ordering.{nat_cmp}
use Rattle.std.specs.FinSet as sets
use Rattle.go_rules.specs.declared.Cell.{Cell}
use Rattle.go_rules.specs.Strings.{liberty_points}
use Rattle.go_rules.specs.Neighbourhood.{neighbourhood_of}
use Rattle.go_rules.proofs.Counts.{any_below_gives}
use Rattle.go_rules.proofs.Paths.{IsLiberty-from_test}
use Rattle.go_base.specs.Floods.{enemy_points}
use Rattle.go_base.specs.Views.{alone}
use Rattle.go_base.proofs.FloodVisits.{enemy_close}
use Rattle.go_base.proofs.PointNeighbourhoods.{close_mono, close_again, close_alone}
use Rattle.wider_rules.specs.Further.{is_ally, is_cutter, is_covered, is_covered_liberty}
use Rattle.wider_rules.specs.FurtherAreas.{first_area, second_area, third_area, fourth_area}
use Rattle.wider_rules.proofs.FurtherLaws.{ally_gives, linked_gives, enemy_gives}
use Rattle.wider_rules.proofs.FurtherPlaces.{liberty_first, enemy_first, ally_second, linked_second, side_close}
use Rattle.wider_rules.proofs.FurtherPlaces.{liberty_close}
use Rattle.wider_rules.proofs.FurtherPlaces.{enemy_close as enemies_close, second_third, third_fourth}
use Rattle.wider_rules.specs.Strings.{is_near_friend}
use Rattle.wider_rules.proofs.StringLemmas.{has_liberty}

-- a liberty that Cover goes by is on the board
pub covered_on : (s : ℕ) (cells : List Cell) (target l : ℕ) → is_covered_liberty s cells target l ≡ true → l < s * s
unfolding is_covered_liberty
covered_on s cells target l h =
    let q = any_below_gives (s * s) _ h in
    (IsLiberty-from_test s cells q.0 l (and_parts _ _ q.2).1).on_board

-- Where the search for the further candidates of a target looks.
module _ (s : ℕ) (cells : List Cell) (target : ℕ) (on : target < s * s) where
  -- the liberties of a target are on the board
  pub liberty_on : (libs : sets.FinSet nat_cmp) (l : ℕ) → libs ≡ liberty_points s cells target
      → sets.contains libs l ≡ true
      → l < s * s
  liberty_on libs l e h =
      (IsLiberty-from_test s cells target l (sym (has_liberty s cells target l libs e) ∙ h)).on_board

  -- the neighbourhood of the target's liberties is in the second area
  pub around_liberties : (libs : sets.FinSet nat_cmp) (r : ℕ) → libs ≡ liberty_points s cells target
      → neighbourhood_of s cells (sets.contains libs) r ≡ true → second_area s cells target r ≡ true
  around_liberties libs r e h = close_mono s cells (sets.contains libs) (first_area s cells target)
      (λ l i. liberty_first s cells target on l
      (IsLiberty-from_test s cells target l (sym (has_liberty s cells target l libs e) ∙ i))) r h

  -- and so is that of the enemies next to it
  pub around_enemies : (foes : sets.FinSet nat_cmp) (r : ℕ) → foes ≡ enemy_points s cells target
      → neighbourhood_of s cells (sets.contains foes) r ≡ true → second_area s cells target r ≡ true
  around_enemies foes r e h = close_mono s cells (sets.contains foes) (first_area s cells target)
      (λ q i. enemy_close s cells target q foes on e i) r h

  -- the target's point is in the second area
  pub self_second : (r : ℕ) → alone target r ≡ true → second_area s cells target r ≡ true
  self_second r h = close_again s cells (alone target) r (close_alone s cells target r on h)

  -- and so is what a search of its string looks at
  pub first_second : (r : ℕ) → first_area s cells target r ≡ true → second_area s cells target r ≡ true
  first_second r h = close_again s cells (alone target) r h

  -- a near friend is in the second area
  friend_second : (q : ℕ) → q < s * s → is_near_friend s cells target q ≡ true → second_area s cells target q ≡ true
  unfolding is_near_friend
  friend_second q on_q h =
      let l = any_below_gives (s * s) _ (and_parts _ _ (and_parts _ _ h).0).1 in
      let both = and_parts _ _ l.2 in
      side_close s cells (first_area s cells target) l.0 q l.1
      (liberty_first s cells target on l.0 (IsLiberty-from_test s cells target l.0 both.0)) on_q both.1

  -- what a search of the strings of near friends looks at is in the third
  pub around_friends : (friends : sets.FinSet nat_cmp) (r : ℕ)
      → ((q : ℕ) → sets.contains friends q ≡ (ltb q (s * s) && is_near_friend s cells target q))
      → neighbourhood_of s cells (sets.contains friends) r ≡ true → third_area s cells target r ≡ true
  around_friends friends r is h = close_mono s cells (sets.contains friends) (second_area s cells target)
      (λ q i.
      let both = and_parts _ _ (sym (is q) ∙ i) in
      friend_second q (ltb-true q (s * s) both.0) both.1) r h

  -- and so is what a search of the strings of allies looks at
  pub around_allies : (most : ℕ) (allies : sets.FinSet nat_cmp) (r : ℕ)
      → ((q : ℕ) → sets.contains allies q ≡ (ltb q (s * s) && is_ally most s cells target q))
      → neighbourhood_of s cells (sets.contains allies) r ≡ true → third_area s cells target r ≡ true
  around_allies most allies r is h = close_mono s cells (sets.contains allies) (second_area s cells target)
      (λ q i.
      let both = and_parts _ _ (sym (is q) ∙ i) in
      let ally = ally_gives s cells target most q on (ltb-true q (s * s) both.0) both.1 in
      ally_second s cells target on most ally.0 q ally.1) r h

  -- an enemy next to a linked string is in the third
  cutter_third : (most r : ℕ) → r < s * s → is_cutter most s cells target r ≡ true
      → third_area s cells target r ≡ true
  unfolding is_cutter
  cutter_third most r on_r h =
      let q = any_below_gives (s * s) _ h in
      let both = and_parts _ _ q.2 in
      let linked = linked_gives s cells target most q.0 on q.1 both.0 in
      enemies_close s cells (second_area s cells target) q.0 r q.1
      (linked_second s cells target on most linked.0 q.0 linked.1)
      (enemy_gives s cells q.0 r on_r both.1)

  -- what a search of the strings of these looks at is in the fourth
  pub around_cutters : (most : ℕ) (cutters : sets.FinSet nat_cmp) (r : ℕ)
      → ((q : ℕ) → sets.contains cutters q ≡ (ltb q (s * s) && is_cutter most s cells target q))
      → neighbourhood_of s cells (sets.contains cutters) r ≡ true → fourth_area s cells target r ≡ true
  around_cutters most cutters r is h = close_mono s cells (sets.contains cutters) (third_area s cells target)
      (λ q i.
      let both = and_parts _ _ (sym (is q) ∙ i) in
      cutter_third most q (ltb-true q (s * s) both.0) both.1) r h

  -- a liberty that Cover goes by is in the second
  covered_second : (l : ℕ) → l < s * s → is_covered_liberty s cells target l ≡ true
      → second_area s cells target l ≡ true
  unfolding is_covered_liberty is_covered
  covered_second l on_l h =
      let q = any_below_gives (s * s) _ h in
      let both = and_parts _ _ q.2 in
      liberty_close s cells (first_area s cells target) q.0 l q.1
      (enemy_first s cells target on q.0 (enemy_gives s cells target q.0 q.1 (and_parts _ _ both.0).0))
      (IsLiberty-from_test s cells q.0 l both.1)

  -- so what a look at its neighbours looks at is in the third
  pub around_covered : (libs : sets.FinSet nat_cmp) (r : ℕ)
      → ((l : ℕ) → sets.contains libs l ≡ is_covered_liberty s cells target l)
      → neighbourhood_of s cells (sets.contains libs) r ≡ true → third_area s cells target r ≡ true
  around_covered libs r is h = close_mono s cells (sets.contains libs) (second_area s cells target)
      (λ l i. let its = sym (is l) ∙ i in covered_second l (covered_on s cells target l its) its) r h

  -- the second area is in the fourth
  pub second_fourth : (r : ℕ) → second_area s cells target r ≡ true → fourth_area s cells target r ≡ true
  second_fourth r h = third_fourth s cells target on r (second_third s cells target on r h)
