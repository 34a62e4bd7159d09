-- A target that the attacker takes at once is surely captured.
use Rattle.std.proofs.Common.{◌≡◌, ℕ, ◌+◌, ◌*◌, ◌<◌, Bool, true, false, None, add-one, arith}
use Rattle.std.proofs.lemmas.Bool.{cases_Bool, both_ways}
use Rattle.go_rules.specs.Position.{BoardState, IsPosition}
use Rattle.go_rules.specs.Strings.{cell_at}
use Rattle.read_rules.specs.declared.node.Node.{Node}
use Rattle.read_rules.specs.GameTree.{attacker_wins, is_captured, taking_back}
use Rattle.read_rules.proofs.AnswerLemmas.{stone_stands}
use Rattle.read_rules.proofs.RuleLemmas.{attacker_gives}
use Rattle.read_rules.proofs.WinLemmas.{wins-no_plies, wins-none_left, some_or_none}
use Rattle.read_tree.specs.Steps.{IsTaken}
use Rattle.read_tree.proofs.TakeLemmas.{taking_wins}
use Rattle.sure_rules.specs.Nodes.{has_too_many}
use Rattle.sure_rules.specs.SureTree.{surely_wins}
use Rattle.sure_rules.specs.Zones.{WhereverAgrees, IsZone}
use Rattle.sure_rules.proofs.SureLemmas.{sure-captured, sure_attacker_from}

-- with no ply left a node is won if its target is taken, and is not taken back
won_at_end : (next : Node) (new : BoardState) → attacker_wins 0 next new ≡ true
    → (is_captured new next.turn.target ≡ true) × (taking_back next new ≡ None)
won_at_end next new won = grind (arith, cases_Bool, some_or_none, both_ways, wins-none_left, wins-no_plies)

-- the target is surely captured, with any plies left after the play
takes_surely : (n : ℕ) (node : Node) (here : BoardState) → IsPosition here → node.turn.target < here.size * here.size
    → has_too_many node here ≡ false → IsTaken node.turn here → surely_wins (n + 1) node here ≡ true
takes_surely n node here sound on few t =
    grind (
      arith,
      stone_stands (cell_at here.cells node.turn.target) node.turn.defender t.enemy,
      attacker_gives 0 node here,
      taking_wins 0 node here sound.cells on few t,
      add-one n,
      sure_attacker_from n node here,
      sure-captured n,
      won_at_end,
    )

-- so what shows that it is taken is a zone
pub taken_zone : (n : ℕ) (node : Node) (pos : BoardState) (Z : ℕ → Bool) → node.turn.target < pos.size * pos.size
    → WhereverAgrees pos Z (λ here. (has_too_many node here ≡ false) × IsTaken node.turn here)
    → IsZone (n + 1) node pos Z
taken_zone n node pos Z on taken = grind (arith, takes_surely)
