-- What a node says, in words, and when one node gives the attacker at least as much as another.
use Rattle.std.specs.Prelude.{◌≡◌, ℕ, ◌*◌, ◌<◌, ◌≤◌, true, Bool, ◌&&◌, is_none, if◌then◌else◌}
use Rattle.go_rules.specs.declared.Colour.{Colour}
use Rattle.go_rules.specs.Board.{are_neighbours}
use Rattle.go_rules.specs.Strings.{cell_at}
use Rattle.go_rules.specs.Position.{BoardState, stone_of}
use Rattle.read_rules.specs.declared.node.Node.{Node}
use Rattle.read_rules.specs.declared.tree.Tree.TheVariants.{Wider}
use Rattle.read_rules.specs.GameTree.{is_captured, has_many_liberties, taking_back}

-- it is the attacker's turn
abbrev pub is_attackers : Node → Bool
is_attackers node = node.turn.attacker_to_play

-- the colour of the target's stone
abbrev pub defender_of : Node → Colour
defender_of node = node.turn.defender

-- the point whose string is read
abbrev pub target_of : Node → ℕ
target_of node = node.turn.target

-- the target's point is empty
abbrev pub is_gone : Node → BoardState → Bool
is_gone node pos = is_captured pos node.turn.target

-- the target is taken, and the defender cannot take back at once
abbrev pub is_taken_for_good : Node → BoardState → Bool
is_taken_for_good node pos = is_gone node pos && is_none (taking_back node pos)

-- the target has more liberties than the attacker may play at, by the node's tree and its wide plies
abbrev pub has_too_many : Node → BoardState → Bool
has_too_many node pos = has_many_liberties node.turn pos

-- how often the side that is not to play may still ignore the ko ban
abbrev pub other_allowance_of : Node → ℕ
other_allowance_of node = if node.turn.attacker_to_play then node.defender_ko else node.attacker_ko

-- both nodes are about the same string in the same tree, and the same side is to play; and the second has at least as
-- many wide plies left, lets the attacker ignore the ban at least as often, and lets the defender do so at most as
-- often
pub record IsNoHarder (node more : Node) : Type 0 where
  pub target : more.turn.target ≡ node.turn.target
  pub defender : more.turn.defender ≡ node.turn.defender
  pub turn : more.turn.attacker_to_play ≡ node.turn.attacker_to_play
  pub tree : more.turn.tree ≡ node.turn.tree
  pub wide : node.turn.wide ≤ more.turn.wide
  pub attacker_ko : node.attacker_ko ≤ more.attacker_ko
  pub defender_ko : more.defender_ko ≤ node.defender_ko

-- the node in the wider tree
abbrev pub in_wider_tree : Node → Node
in_wider_tree node = record {
  turn = record node.turn { tree = Wider };
  attacker_ko = node.attacker_ko;
  defender_ko = node.defender_ko;
}

-- the target is a string of two stones or more: it is the defender's, and so is the stone at a neighbouring point
pub record HasMoreStones (node : Node) (pos : BoardState) : Type 0 where
  pub stands : cell_at pos.cells node.turn.target ≡ stone_of node.turn.defender
  pub beside : ℕ
  pub on_board : beside < pos.size * pos.size
  pub adjacent : are_neighbours pos.size node.turn.target beside ≡ true
  pub same : cell_at pos.cells beside ≡ stone_of node.turn.defender
