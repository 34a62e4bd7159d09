-- What shows whether the defender takes back a target that is taken.
use Rattle.std.proofs.Common.{◌≡◌, ◌∙◌, ℕ, ◌*◌, ◌<◌, true, false, List, Option, Some, None, is_none}
use Rattle.std.proofs.Common.{refl, sym, ap, arith}
use Rattle.std.specs.FinSet as sets
use Rattle.std.specs.Option.{option_and_then}
use Rattle.std.proofs.lemmas.Bool.{and_from, and_parts, both_ways, not-true, not_from_false}
use Rattle.go_rules.specs.declared.Cell.{Cell}
use Rattle.go_rules.specs.declared.Cell.TheVariants.{Empty}
use Rattle.go_rules.specs.declared.Colour.{Colour}
use Rattle.go_rules.specs.Below.{first_below}
use Rattle.go_rules.specs.Board.{are_neighbours}
use Rattle.go_rules.specs.Strings.{cell_at, same_cell}
use Rattle.go_rules.specs.Position.{BoardState, IsPosition, other, stone_of}
use Rattle.go_rules.proofs.Counts.{first_below_gives}
use Rattle.go_rules.proofs.Paths.{same_cell-true, same_cell-from}
use Rattle.go_base.specs.Sides.{neighbour_at}
use Rattle.go_base.proofs.SidesOfPoints.{neighbour_at-near}
use Rattle.read_rules.specs.ActiveArea.{AgreeOn}
use Rattle.read_rules.specs.declared.node.Node.{Node}
use Rattle.read_rules.specs.declared.tree.Tree.TheVariants.{Wider}
use Rattle.read_rules.specs.GameTree.{taking_back}
use Rattle.read_rules.specs.Turns.{mover_of}
use Rattle.read_rules.specs.Rules.{TakesBack}
use Rattle.read_rules.proofs.RuleLemmas.{takes_back_from}
use Rattle.sure_rules.specs.Nodes.{is_attackers, is_gone, is_taken_for_good, target_of}
use Rattle.sure_rules.specs.Zones.{points_of, IsZone}
use Rattle.sure_rules.proofs.SureLemmas.{none_and_some}
use Rattle.sure_rules.proofs.ZoneLemmas.{zone_captured}
use Rattle.sure_proof.specs.Rests.{Points, play_rests_on, is_open, open_neighbour, wall_rests_on, loss_rests_on}
use Rattle.sure_proof.specs.Gathered.{IsWithin}
use Rattle.sure_proof.proofs.ShownLemmas.{insert_self, insert_more}
use Rattle.sure_proof.proofs.SoundLemmas.{has, play_beside, play_self, child_here}

-- the point is among what shows it
pub loss_point : (node : Node) (pos : BoardState) → has (loss_rests_on node pos) (target_of node) ≡ true
unfolding loss_rests_on
loss_point node pos = grind (arith, has, insert_self, play_self, insert_more)

-- in the wider tree, at the defender's turn, it is what shows whether the point is walled in
loss_is : (node : Node) (pos : BoardState) → node.turn.tree ≡ Wider → is_attackers node ≡ false
    → loss_rests_on node pos ≡ wall_rests_on pos.size pos.cells (mover_of node.turn) (target_of node)
    (open_neighbour pos.size pos.cells (other node.turn.defender) (target_of node))
unfolding loss_rests_on
loss_is node pos tree turn = grind (arith, and_from, not_from_false)

-- an open neighbour is at a side, and holds no stone of c
open_gives : (s : ℕ) (cells : List Cell) (c : Colour) (p q : ℕ) → open_neighbour s cells c p ≡ Some q
    → (side : ℕ) × (neighbour_at s p side ≡ Some q) × (same_cell (cell_at cells q) (stone_of c) ≡ false)
unfolding open_neighbour
open_gives s cells c p q e = by (first_below 4 (λ side. is_open cells c (neighbour_at s p side))) refl e
  where
    by : (o : Option ℕ) → first_below 4 (λ side. is_open cells c (neighbour_at s p side)) ≡ o
        → option_and_then (neighbour_at s p) o ≡ Some q
        → (side : ℕ) × (neighbour_at s p side ≡ Some q) × (same_cell (cell_at cells q) (stone_of c) ≡ false)
    by None is at = absurd (let wrong = at in cc)
    by (Some side) is at =
        let found = first_below_gives 4 (λ k. is_open cells c (neighbour_at s p k)) side is in
        (side, at, not-true (same_cell (cell_at cells q) (stone_of c)) (ap (is_open cells c) (sym at) ∙ found.1))

-- A target that is taken, and points among which is what shows whether it is taken back.
module _ (node : Node) (pos : BoardState) (good : IsPosition pos) (on : node.turn.target < pos.size * pos.size)
    (Z : Points) (rests : IsWithin (loss_rests_on node pos) Z) where
  -- A position that agrees on these points, on which the defender takes back.
  module _ (here : BoardState) (sound : IsPosition here) (same : AgreeOn (points_of (has Z)) pos here) (next : Node)
      (made : BoardState) (back : TakesBack node here next made) where
    -- what shows whether the point is walled in is among the points
    wall_within : IsWithin (wall_rests_on pos.size pos.cells (mover_of node.turn) (target_of node)
        (open_neighbour pos.size pos.cells (other node.turn.defender) (target_of node))) Z
    wall_within q inside = grind (arith, has, loss_is)

    -- each neighbour there holds a stone of the attacker
    walled_there : (q : ℕ) → q < pos.size * pos.size → are_neighbours pos.size (target_of node) q ≡ true
        → cell_at here.cells q ≡ stone_of (other node.turn.defender)
    walled_there q q_on near = grind arith

    -- so no neighbour is open here
    none_open : open_neighbour pos.size pos.cells (other node.turn.defender) (target_of node) ≡ None
    none_open =
        grind (arith, wall_within, open_gives, neighbour_at-near, insert_self, both_ways, same_cell-from, walled_there)

    -- what the play at its point rests on is among the points
    pub play_within : IsWithin (play_rests_on pos.size pos.cells (mover_of node.turn) sets.empty (target_of node)) Z
    play_within q inside = grind (arith, wall_within, none_open)

    -- he takes back here too
    pub back_here : is_gone node pos ≡ true → (first : BoardState) × TakesBack node pos next first
    back_here gone =
        let child = child_here node pos here sets.empty (target_of node) Z good sound on same play_within next made
        back.child in (
          child.0,
          record {
            lost = grind (arith, same_cell-true (cell_at pos.cells (target_of node)) Empty gone);
            lone = grind (arith, play_within, play_beside, walled_there);
            child = child.1;
          },
        )

-- what shows that a target is taken for good is a zone
pub loss_zone : (node : Node) (pos : BoardState) (m : ℕ) → IsPosition pos → node.turn.target < pos.size * pos.size
    → is_taken_for_good node pos ≡ true → IsZone m node pos (has (loss_rests_on node pos))
loss_zone node pos m good on kept =
    let parts = and_parts (is_gone node pos) (is_none (taking_back node pos)) kept in
    zone_captured m node pos (has (loss_rests_on node pos)) parts.0 (record {
      point = loss_point node pos;
      kept = λ here sound same next made back.
          let w = back_here node pos good on (loss_rests_on node pos) (λ q inside. inside) here sound same next made back
          parts.0 in
          none_and_some (none_by (taking_back node pos) parts.1) (takes_back_from node pos next w.0 w.1);
    })
  where
    none_by : (o : Option (Node × BoardState)) → is_none o ≡ true → o ≡ None
    none_by None e = refl
    none_by (Some child) e = cc
