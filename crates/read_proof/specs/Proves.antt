-- When a text proves a claim about a node of the game tree: that the attacker wins there, or that he does not. A claim
-- is written as a Bool, true for the first.
use Rattle.std.specs.Prelude.{ℕ, zero, suc, ◌+◌, ◌/◌, Bool, not, ◌&&◌, ◌||◌, ◌==◌, nat_lt, List, [], ◌∷◌}
use Rattle.std.specs.Prelude.{◌++◌, Option, None, Some, is_some, if◌then◌else◌}
use Rattle.std.specs.List.{filter_map}
use Rattle.std.specs.Option.{option_and_then}
use Rattle.go_rules.specs.Position.{BoardState}
use Rattle.go_rules.specs.Play.{pass}
use Rattle.go_rules.specs.Strings.{liberties}
use Rattle.read_rules.specs.Candidates.{is_candidate}
use Rattle.read_rules.specs.Candidates.{candidates_of}
use Rattle.read_rules.specs.GameTree.{is_captured, has_many_liberties, child_of, next_node, allowance_of, taking_back}
use Rattle.read_rules.specs.declared.node.Node.{Node}
use Rattle.read_rules.specs.declared.question.Spot.{Spot}
use Rattle.read_rules.specs.declared.question.Spot.TheVariants.{At, Pass}
use Rattle.read_proof.specs.declared.token.Token.{Token}
use Rattle.read_proof.specs.declared.token.Token.TheVariants.{Settled, Move, Each}
use Rattle.read_proof.specs.Tokens.{Word, token_of}

-- the target has more liberties than the attacker can fill with n plies left, or so many that he may not play at it
unfoldable pub has_too_many : ℕ → Node → BoardState → Bool
has_too_many n node pos =
    if node.turn.attacker_to_play then nat_lt ((n + 1) / 2) (liberties pos.size pos.cells node.turn.target)
    || has_many_liberties node.turn pos
    else nat_lt (n / 2) (liberties pos.size pos.cells node.turn.target)

-- the defender can take back the target: it is a lone stone that is taken, and a play at its point takes stones
abbrev pub can_take_back : Node → BoardState → Bool
can_take_back node pos = is_some (taking_back node pos)

-- the claim is settled at the node with n plies left. That the attacker wins is settled if the target is taken and
-- cannot be taken back. That he does not is settled if the target is taken and can be taken back but no ply is left, or
-- if it stands and no ply is left or it has too many liberties
unfoldable pub is_settled : ℕ → Bool → Node → BoardState → Bool
is_settled n won node pos =
    if won then is_captured pos node.turn.target && not (can_take_back node pos)
    else if is_captured pos node.turn.target then (n == 0) && can_take_back node pos
    else (n == 0) || has_too_many n node pos

-- the claim is what the side to play wants: that the attacker wins, at his turn, or that he does not, at the defender's
abbrev pub is_wanted : Bool → Node → Bool
is_wanted won node = if node.turn.attacker_to_play then won else not won

-- one move may prove the claim: the target is taken, and the move takes it back; or the claim is what the side to play
-- wants, and the attacker may play at the target
unfoldable pub move_may_prove : Bool → Node → BoardState → Bool
move_may_prove won node pos = is_captured pos node.turn.target
    || (is_wanted won node && not (node.turn.attacker_to_play && has_many_liberties node.turn pos))

-- all moves together may prove the claim: it is not what the side to play wants, and the target stands
unfoldable pub each_may_prove : Bool → Node → BoardState → Bool
each_may_prove won node pos = not (is_wanted won node) && not (is_captured pos node.turn.target)

-- the child to which the defender's pass leads
abbrev pub passed : Node → BoardState → Node × BoardState
passed node pos = (next_node node (allowance_of node), pass pos)

-- the child to which a move of the side to play leads, if the node has that move: a candidate that can be played, or
-- the defender's pass
unfoldable pub child_after : Node → BoardState → Spot → Option (Node × BoardState)
child_after node pos (At p) = if is_candidate node.turn pos p then child_of node pos p else None
child_after node pos Pass = if node.turn.attacker_to_play then None else Some (passed node pos)

-- the child to which a move leads that takes back the target: the play at its point, if the defender can take back
abbrev pub back_after : Node → BoardState → Spot → Option (Node × BoardState)
back_after node pos (At p) = if p == node.turn.target then taking_back node pos else None
back_after node pos Pass = None

-- the child at which a proof goes on behind a move: if the target is taken, the child of the play that takes it back;
-- else the child to which the move leads
unfoldable pub child_behind : Node → BoardState → Spot → Option (Node × BoardState)
child_behind node pos spot =
    if is_captured pos node.turn.target then back_after node pos spot else child_after node pos spot

-- the child after the defender's pass; none at the attacker's turn
abbrev pub pass_children : Node → BoardState → List (Node × BoardState)
pass_children node pos = if node.turn.attacker_to_play then [] else passed node pos ∷ []

-- the children after the candidates that can be played, in reading order
abbrev pub play_children : Node → BoardState → List (Node × BoardState)
play_children node pos = filter_map (child_of node pos) (candidates_of node.turn pos)

-- the children of the node: the child after the defender's pass first, then the children after the candidates
unfoldable pub children_of : Node → BoardState → List (Node × BoardState)
children_of node pos = pass_children node pos ++ play_children node pos

-- a function that reads a claim's proof at a node: the words that follow the proof, or nothing if the words do not
-- begin with a proof
abbrev pub Prover : Type 0
Prover = Node → BoardState → List Word → Option (List Word)

-- the words that follow the proof at the child; nothing if there is no child or no proof of it
abbrev pub at_child : Prover → Option (Node × BoardState) → List Word → Option (List Word)
at_child prove None words = None
at_child prove (Some child) words = prove child.0 child.1 words

-- the words that follow the proofs at these children, one after another; nothing if one of the proofs is missing
abbrev pub at_each : Prover → List (Node × BoardState) → List Word → Option (List Word)
at_each prove [] words = Some words
at_each prove (child ∷ more) words = option_and_then (at_each prove more) (prove child.0 child.1 words)

-- the words that follow a proof whose first word is this token: `.` is a proof if the claim is settled, and a move or
-- `*` goes on as the arguments move and each say
abbrev pub by_token : Bool → (Spot → List Word → Option (List Word)) → (List Word → Option (List Word)) → Option Token
    → List Word → Option (List Word)
by_token settled move each None rest = None
by_token settled move each (Some Settled) rest = if settled then Some rest else None
by_token settled move each (Some (Move spot)) rest = move spot rest
by_token settled move each (Some Each) rest = each rest

-- the words that follow the proof of the claim at the node with n plies left; nothing if the words do not begin with a
-- proof
unfoldable pub proves : ℕ → Bool → Prover
proves n won node pos [] = None
proves zero won node pos (word ∷ rest) =
    by_token (is_settled zero won node pos) (λ spot left. None) (λ left. None) (token_of pos.size word) rest
proves (suc n) won node pos (word ∷ rest) =
    by_token (is_settled (suc n) won node pos)
    (λ spot left.
    if move_may_prove won node pos then at_child (proves n won) (child_behind node pos spot) left else None)
    (λ left. if each_may_prove won node pos then at_each (proves n won) (children_of node pos) left else None)
    (token_of pos.size word) rest
