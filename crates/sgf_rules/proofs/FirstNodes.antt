-- A record goes on from its first node.
use Rattle.std.proofs.Common.{◌≡◌, ℕ, List, [], ◌∷◌, Option, Some, None, Result, Ok, Err, refl, arith}
use Rattle.go_rules.specs.Position.{BoardState}
use Rattle.go_rules.specs.Replay.{empty_board}
use Rattle.sgf_rules.specs.declared.kind.FaultKind.{FaultKind}
use Rattle.sgf_rules.specs.Trees.{Node}
use Rattle.sgf_rules.specs.MainLine.{main_line}
use Rattle.sgf_rules.specs.Uses.{uses_in}
use Rattle.sgf_rules.specs.Game.{and_then, after_node, after_nodes, game_on, game_of}
use Rattle.sgf_rules.specs.FirstNode.{first_position_of}

-- a step and then no other is the step
then_nothing : (r : Result BoardState FaultKind) (f : BoardState → Result BoardState FaultKind)
    → and_then r f ≡ and_then (and_then r (λ next. after_nodes next [])) f
unfolding after_nodes
then_nothing (Ok pos) f = refl
then_nothing (Err kind) f = refl

-- nodes are gone through from the first on
nodes_from_first : (pos : BoardState) (n : Node) (ns : List Node)
    → after_nodes pos (n ∷ ns) ≡ and_then (after_nodes pos (n ∷ [])) (λ now. after_nodes now ns)
unfolding after_nodes
nodes_from_first pos n ns = then_nothing (after_node pos (uses_in n)) (λ now. after_nodes now ns)

-- also from the empty board of a size
game_from_first : (size : Option ℕ) (n : Node) (ns : List Node)
    → game_on size (n ∷ ns) ≡ and_then (game_on size (n ∷ [])) (λ now. after_nodes now ns)
game_from_first None n ns = refl
game_from_first (Some s) n ns = nodes_from_first (empty_board s) n ns

-- the record's game, along its main line
pub record_from_first : (text : List ℕ) (n : Node) (ns : List Node) → main_line text ≡ Some (n ∷ ns)
    → game_of text ≡ and_then (first_position_of text) (λ now. after_nodes now ns)
unfolding game_of first_position_of
record_from_first text n ns e = grind (arith, game_from_first)
