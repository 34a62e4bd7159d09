-- What a reading remembers of the attacker's nodes, and when this is true.
use Rattle.std.specs.Prelude.{◌≡◌, ℕ, Bool, true, is_some, List}
use Rattle.std.specs.List.{All}
use Rattle.go_rules.specs.declared.Colour.{Colour}
use Rattle.go_rules.specs.Position.{BoardState}
use Rattle.go_base.specs.Facts.{Fact, Agrees}
use Rattle.trial_board.specs.Changed.{changed}
use Rattle.read_rules.specs.declared.tree.Tree.{Tree}
use Rattle.read_rules.specs.GameTree.{first_success}
use Rattle.read_rules.specs.declared.turn.Turn.{Turn}
use Rattle.read_tree.specs.declared.table.AttackerNode.{AttackerNode}
use Rattle.read_tree.specs.declared.table.Verdict.{Verdict}
use Rattle.read_tree.specs.declared.table.Entry.{Entry}
use Rattle.read_tree.specs.Allowances.{Ko, defender_may, neither_may, attacker_may, under, has}
use Rattle.read_tree.specs.declared.known_plies.KnownPlies.{KnownPlies}
use Rattle.read_tree.specs.KnownPlies.{IsTrueKnown}

-- the attacker's turn in the reading of a target in the tree, with this many wide plies left
abbrev pub attackers_turn : Tree → ℕ → Colour → ℕ → Turn
attackers_turn tree target defender wide =
    record { tree = tree; target = target; defender = defender; attacker_to_play = true; wide = wide }

-- at the node over the position, under the allowance, some candidate gives the attacker his way
abbrev pub is_won : Tree → ℕ → Colour → AttackerNode → BoardState → Ko → Bool
is_won tree target defender node pos ko = is_some
    (first_success node.plies (under (attackers_turn tree target defender node.wide) ko) (changed pos node.changes))

-- the verdict on the node is true: on each position that agrees with the facts, for each allowance that is known, the
-- attacker has his way exactly if the allowance is good
pub record IsTrueOf (seen : Fact → Bool) (tree : Tree) (target : ℕ) (defender : Colour) (node : AttackerNode)
    (verdict : Verdict) : Type 0 where
  pub each : (pos : BoardState) → Agrees seen pos → (ko : Ko) → has verdict.known ko ≡ true
      → has verdict.good ko ≡ is_won tree target defender node pos ko

-- what an entry knows under an allowance
abbrev pub known_of : Entry → Ko → KnownPlies
known_of entry defender_may = entry.defender
known_of entry neither_may = entry.neither
known_of entry attacker_may = entry.attacker

-- the node of an entry, with this many plies left after the attacker's play
abbrev pub entry_node : Entry → ℕ → AttackerNode
entry_node entry plies = record { changes = entry.changes; plies = plies; wide = entry.wide }

-- what the entry knows is true: on each position that agrees with the facts, under each allowance, with any number of
-- plies left
pub record IsTrueEntry (seen : Fact → Bool) (tree : Tree) (target : ℕ) (defender : Colour) (entry : Entry) : Type 0
  where
    pub each : (pos : BoardState) → Agrees seen pos → (ko : Ko)
        → IsTrueKnown (λ n. is_won tree target defender (entry_node entry n) pos ko) (known_of entry ko)

-- each entry of the table is true
pub record IsTrueTable (seen : Fact → Bool) (tree : Tree) (target : ℕ) (defender : Colour) (table : List Entry)
    : Type 0 where
  pub all : All (IsTrueEntry seen tree target defender) table

-- the table is true for the tree, the target and the defender of the turn
abbrev pub IsTrueTableAt : (Fact → Bool) → Turn → List Entry → Type 0
IsTrueTableAt seen turn table = IsTrueTable seen turn.tree turn.target turn.defender table
