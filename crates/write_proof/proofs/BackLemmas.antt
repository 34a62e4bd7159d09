-- Whether the defender can take back under each of the asked ko allowances.
use Rattle.std.proofs.Common.{◌≡◌, true, false, Option, Some, None, is_some, refl, ap, arith}
use Rattle.go_rules.specs.Position.{BoardState, other}
use Rattle.read_rules.specs.declared.node.Node.{Node}
use Rattle.read_rules.specs.declared.turn.Turn.{Turn}
use Rattle.read_rules.specs.Trees.{is_wider}
use Rattle.read_rules.specs.GameTree.{is_captured, is_walled_in, has_lost_one_stone, can_play}
use Rattle.read_tree.specs.declared.allowances.Allowances.{Allowances}
use Rattle.read_tree.specs.Allowances.{has, under, IsFiltered}
use Rattle.read_tree.proofs.TakingLemmas.{lost_lone, back_none, back_is}
use Rattle.read_proof.specs.Proves.{can_take_back}
use Rattle.write_proof.specs.declared.alike.MoveSuccess.{MoveSuccess}
use Rattle.write_proof.specs.Alike.{IsMoveSuccess}
use Rattle.write_proof.proofs.AlikeLemmas.{success_each, success_same}

-- where the defender cannot take back there is no child to which he does
pub not_back : (o : Option (Node × BoardState)) → is_some o ≡ false → o ≡ None
not_back None e = refl
not_back (Some child) e = cc

-- a target that stands is not lost
pub lost_standing : (node : Node) (pos : BoardState) → is_captured pos node.turn.target ≡ false
    → has_lost_one_stone node pos ≡ false
lost_standing node pos e = grind arith

-- where no lone stone was lost, the defender cannot take back
pub cannot_take_back : (node : Node) (pos : BoardState) → has_lost_one_stone node pos ≡ false
    → can_take_back node pos ≡ false
cannot_take_back node pos e = ap is_some (back_none node pos e)

-- where one was, what is told of the play at its point is told of taking back
pub success_back : (asked found : Allowances) (told : MoveSuccess) (turn : Turn) (here : BoardState)
    → is_wider turn.tree ≡ true → turn.attacker_to_play ≡ false → is_captured here turn.target ≡ true
    → is_walled_in here.size here.cells turn.target (other turn.defender) ≡ true
    → IsFiltered asked found (λ ko. can_play (under turn ko) here turn.target) → IsMoveSuccess asked told (has found)
    → IsMoveSuccess asked told (λ ko. can_take_back (under turn ko) here)
success_back asked found told turn here wider defends taken walled tells is =
    grind (arith, success_same, success_each, back_is, lost_lone)
