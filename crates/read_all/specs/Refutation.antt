-- How the other side refutes a play that does not attain a code.
use Rattle.std.specs.Prelude.{ℕ, zero, suc, ◌-◌, Bool, Option, Some, None, if◌then◌else◌}
use Rattle.go_rules.specs.Position.{BoardState}
use Rattle.read_rules.specs.declared.node.Node.{Node}
use Rattle.read_rules.specs.declared.question.ReadingQuestion.{ReadingQuestion}
use Rattle.read_rules.specs.declared.question.Spot.{Spot}
use Rattle.read_rules.specs.Answer.{first_node}
use Rattle.read_rules.specs.GameTree.{attacker_wins, child_of, first_move}
use Rattle.read_tree.specs.Steps.{has_way}

-- the first move that gives the side to play its way at a node with n plies left; none if no ply is left
abbrev pub first_reply : ℕ → Node → BoardState → Option Spot
first_reply zero node pos = None
first_reply (suc n) node pos = first_move n node pos

-- the first reply at a node with n plies left, if the side whose move led there does not have its way; that side is the
-- attacker if the first argument is true
abbrev pub reply_unless : Bool → ℕ → Node → BoardState → Option Spot
reply_unless attacker n node pos = if has_way attacker (attacker_wins n node pos) then None else first_reply n node pos

-- the first reply at the child, as reply_unless says it; none if there is no child
abbrev pub reply_at : Bool → ℕ → Option (Node × BoardState) → Option Spot
reply_at attacker n None = None
reply_at attacker n (Some child) = reply_unless attacker n child.0 child.1

-- the refutation of the mover's play at p, with n plies left after it: the first reply with which the other side has
-- its way, if the play can be made and does not give the mover his way
abbrev pub reply_to : ℕ → Node → BoardState → ℕ → Option Spot
reply_to n node pos p = reply_at node.turn.attacker_to_play n (child_of node pos p)

-- the refutation of the play at p that does not attain the code, under the code's ko allowances
abbrev pub refutation_of : ReadingQuestion → BoardState → ℕ → ℕ → Option Spot
refutation_of q pos code p = reply_to (q.plies - 1) (first_node q code) pos p
