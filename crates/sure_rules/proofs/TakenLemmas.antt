-- Where a target that is taken can be taken back, and that every reply of the defender fails there too.
use Rattle.std.proofs.Common.{◌≡◌, ◌≢◌, ℕ, suc, ◌*◌, ◌<◌, true, false, not, Some, Ok, ap, arith}
use Rattle.std.proofs.lemmas.Bool.{cases_Bool, cases_eq, cases_lt, both_ways, and_parts, and_from}
use Rattle.std.proofs.lemmas.List.{get_or_past}
use Rattle.go_rules.specs.declared.Cell.TheVariants.{Empty}
use Rattle.go_rules.specs.declared.Colour.{Colour}
use Rattle.go_rules.specs.Strings.{cell_at}
use Rattle.go_rules.specs.Position.{BoardState}
use Rattle.go_rules.specs.Play.{play_free, pass}
use Rattle.go_rules.proofs.Links.{liberties_some}
use Rattle.go_rules.proofs.Paths.{same_cell-true, same_cell-from}
use Rattle.go_rules.proofs.Plays.{length_after}
use Rattle.go_rules.proofs.PlayLaws.{done_state, others_stay}
use Rattle.go_rules.proofs.Results.{free_suicide}
use Rattle.read_rules.specs.declared.node.Node.{Node}
use Rattle.read_rules.specs.declared.tree.Tree.TheVariants.{Wider}
use Rattle.read_rules.specs.GameTree.{allowance_of, next_node, taking_back}
use Rattle.read_rules.specs.Turns.{mover_of}
use Rattle.read_rules.specs.Rules.{IsChild}
use Rattle.read_rules.proofs.LibertyLemmas.{child_free}
use Rattle.read_rules.proofs.RuleLemmas.{child_from, taking_back_gives, takes_back_from}
use Rattle.read_rules.proofs.WinLemmas.{some_or_none}
use Rattle.sure_rules.specs.Nodes.{is_attackers, is_gone, is_taken_for_good, target_of, defender_of}
use Rattle.sure_rules.specs.SureTree.{surely_wins}
use Rattle.sure_rules.specs.SureInWords.{EveryReplyFails}
use Rattle.sure_rules.specs.Defences.{CanTakeBack, IsTaken, standing_at}
use Rattle.sure_rules.proofs.MoveLemmas.{moved_child, defenders_by}
use Rattle.sure_rules.proofs.SureLemmas.{none_and_some, none_at_attackers, sure-captured, sure-taken_back}
use Rattle.sure_rules.proofs.SureLemmas.{sure_at_end, sure_defender_gives}

-- a play can be made only at a point of the board
pub free_on_board : (pos : BoardState) (c : Colour) (p : ℕ) (new : BoardState) → play_free pos c p ≡ Ok new
    → p < pos.size * pos.size
free_on_board pos c p new e =
    grind (arith, cases_lt, done_state, get_or_past, length_after, cases_eq, free_suicide, liberties_some, both_ways)

-- the same of a child
pub child_on_board : (node : Node) (pos : BoardState) (p : ℕ) (next : Node) (new : BoardState)
    → IsChild node pos p next new → p < pos.size * pos.size
child_on_board node pos p next new child =
    free_on_board pos (mover_of node.turn) p new (child_free node pos p next new child).1

-- an empty point stays empty after a play elsewhere
empty_stays : (pos : BoardState) (c : Colour) (p : ℕ) (new : BoardState) (q : ℕ) → play_free pos c p ≡ Ok new → q ≢ p
    → cell_at pos.cells q ≡ Empty → cell_at new.cells q ≡ Empty
empty_stays pos c p new q e ne was =
    grind (
      arith,
      cases_lt q (pos.size * pos.size),
      others_stay pos c p new q e,
      done_state pos c p new e,
      get_or_past,
      length_after,
    )

-- if the target is taken, and the defender plays elsewhere, it is taken for good
still_gone : (n : ℕ) (node : Node) (pos : BoardState) → is_attackers node ≡ false → is_gone node pos ≡ true
    → (p : ℕ) (next : Node) (new : BoardState) → target_of node ≢ p → IsChild node pos p next new
    → surely_wins n next new ≡ true
still_gone n node pos turn gone p next new ne child =
    grind (
      arith,
      child_free node pos p next new child,
      empty_stays pos (mover_of node.turn) p new (target_of node),
      sure-captured n,
      same_cell-true,
      same_cell-from,
      none_at_attackers,
    )

-- if he plays at the target's point, he takes back
by_taking_back : (n : ℕ) (node : Node) (pos : BoardState) (back : Node × BoardState) → is_gone node pos ≡ true
    → taking_back node pos ≡ Some back → surely_wins (suc n) node pos ≡ true → (next : Node) (new : BoardState)
    → IsChild node pos (target_of node) next new → surely_wins n next new ≡ true
by_taking_back n node pos back gone some sure next new child =
    grind (
      arith,
      taking_back_gives node pos back some,
      child_from node pos (target_of node) next new child,
      sure-taken_back n node pos back gone some,
    )

-- a target that is surely captured, but is not yet taken for good, is so after every reply of the defender
pub every_reply_fails : (n : ℕ) (node : Node) (pos : BoardState) → is_taken_for_good node pos ≡ false
    → is_attackers node ≡ false → surely_wins (suc n) node pos ≡ true → EveryReplyFails n node pos
every_reply_fails n node pos kept turn sure =
    grind (
      arith,
      cases_Bool (is_gone node pos),
      sure_defender_gives n node pos,
      some_or_none (taking_back node pos),
      both_ways (is_taken_for_good node pos) kept,
      sure-captured n (next_node node (allowance_of node)) (pass pos),
      none_at_attackers (next_node node (allowance_of node)) (pass pos) (ap not turn),
      cases_eq (target_of node),
      still_gone n node pos turn,
      by_taking_back n node pos,
      and_from,
    )

-- if it is not taken for good at the attacker's turn, it stands
pub stands_at_attackers : (node : Node) (pos : BoardState) → is_taken_for_good node pos ≡ false
    → is_attackers node ≡ true → is_gone node pos ≡ false
stands_at_attackers node pos kept turn = grind (arith, cases_Bool, both_ways, and_from, none_at_attackers)

-- if it is not taken for good, some ply is left
pub some_ply_left : (n : ℕ) (node : Node) (pos : BoardState) → is_taken_for_good node pos ≡ false
    → surely_wins n node pos ≡ true → n ≢ 0
some_ply_left n node pos kept sure e = grind (arith, sure_at_end, both_ways, and_from)

-- if the defender can take back in the wider tree by moves alone, he does at the node
back_by_moves : (node : Node) (pos : BoardState) → node.turn.tree ≡ Wider
    → CanTakeBack (target_of node) (defender_of node) (standing_at node pos)
    → (child : Node × BoardState) × (taking_back node pos ≡ Some child)
back_by_moves node pos tree back =
    let led = moved_child node pos (target_of node) back.there back.move in (
      (led.0, led.1),
      takes_back_from node pos led.0 led.1 (record {
        lost = record {
          tree = tree;
          turn = defenders_by (is_attackers node) (defender_of node) back.turn;
          taken = back.empty;
        };
        lone = back.lone;
        child = led.2;
      }),
    )

-- a target that is taken for good at the node is taken in the game
pub taken_in_game : (node : Node) (pos : BoardState) → is_taken_for_good node pos ≡ true
    → IsTaken node.turn.tree (target_of node) (defender_of node) (standing_at node pos)
taken_in_game node pos kept = grind (arith, and_parts, same_cell-true, none_and_some, back_by_moves)

-- so a target that is not taken in the game is not taken for good at the node
pub not_taken_for_good : (node : Node) (pos : BoardState)
    → (IsTaken node.turn.tree (target_of node) (defender_of node) (standing_at node pos) → ⊥)
    → is_taken_for_good node pos ≡ false
not_taken_for_good node pos not_taken = grind (arith, cases_Bool, taken_in_game)
