-- A node of the game tree on a board with trial moves, under any ko allowances.
use Rattle.std.specs.Prelude.{◌≡◌, ℕ, ◌+◌, Bool, ◌&&◌, ◌==◌, nat_lt, Option}
use Rattle.std.specs.Option.{option_map}
use Rattle.go_rules.specs.Position.{BoardState}
use Rattle.read_rules.specs.declared.node.Node.{Node}
use Rattle.read_rules.specs.declared.turn.Turn.{Turn}
use Rattle.read_rules.specs.GameTree.{child_of}
use Rattle.read_tree.specs.declared.allowances.Allowances.{Allowances}
use Rattle.read_tree.specs.declared.nodes.NodeAt.{NodeAt}

-- at most one side may still ignore the ban, and only once
abbrev pub has_one_at_most : Node → Bool
has_one_at_most node = nat_lt (node.attacker_ko + node.defender_ko) 2

-- the ko allowances of a node as a set: the attacker's if he may still ignore the ban, the defender's if he may, and
-- that of neither side if neither may
abbrev pub the_allowance : Node → Allowances
the_allowance node = record {
  defender = nat_lt 0 node.defender_ko;
  neither = (node.attacker_ko == 0) && (node.defender_ko == 0);
  attacker = nat_lt 0 node.attacker_ko;
}

-- both nodes are about the same string, in one tree
pub record SameReading (node next : Node) : Type 0 where
  pub tree : next.turn.tree ≡ node.turn.tree
  pub target : next.turn.target ≡ node.turn.target
  pub defender : next.turn.defender ≡ node.turn.defender

-- the mover's play at p leads from here to the node next over new; if next is none, p cannot be played
abbrev pub LeadsTo : Node → BoardState → ℕ → Option Node → BoardState → Type 0
LeadsTo node here p next new = child_of node here p ≡ option_map (λ n. (n, new)) next

-- the turn at a node
abbrev pub turn_of : NodeAt → Turn
turn_of node = record {
  tree = node.tree;
  target = node.target;
  defender = node.defender;
  attacker_to_play = node.attacker_turn;
  wide = node.k;
}

-- the node of the game tree that a NodeAt describes
abbrev pub game_node : NodeAt → Node
game_node node = record {
  turn = turn_of node;
  attacker_ko = node.a;
  defender_ko = node.d;
}
