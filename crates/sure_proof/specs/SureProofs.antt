-- When words prove that a string is surely captured, and the points on which the proof rests.
use Rattle.std.specs.Prelude.{◌≡◌, ℕ, zero, suc, ◌*◌, ◌==◌, ◌||◌, Bool, false, List, [], ◌∷◌, Option, None, Some}
use Rattle.std.specs.Prelude.{if◌then◌else◌, codes}
use Rattle.std.specs.List.{range_with_len, filter}
use Rattle.std.specs.Option.{option_and_then, option_map}
use Rattle.std.specs.FinSet as set
use Rattle.std.specs.Str.{bytes_eq}
use Rattle.go_rules.specs.Position.{BoardState, other}
use Rattle.go_rules.specs.Play.{pass}
use Rattle.vertices.specs.Vertices.{target_of as target_named}
use Rattle.read_rules.specs.declared.node.Node.{Node}
use Rattle.read_rules.specs.declared.question.Spot.TheVariants.{At}
use Rattle.read_rules.specs.GameTree.{allowance_of, next_node, child_of, taking_back}
use Rattle.read_rules.specs.Turns.{mover_of}
use Rattle.read_proof.specs.Tokens.{Word}
use Rattle.read_proof.specs.Proves.{child_after}
use Rattle.sure_rules.specs.Nodes.{is_attackers, is_gone, is_taken_for_good, has_too_many, target_of}
use Rattle.sure_proof.specs.Rests.{Points, play_rests_on, loss_rests_on, candidate_rests_on, guard_of, asked_of}

-- the result of reading a proof: the words that follow it, and the points on which it rests
pub record Proved : Type 0 where
  pub rest : List Word
  pub zone : Points

-- a proof that is followed by the words rest and rests on the points zone
abbrev pub proved_by : List Word → Points → Proved
proved_by rest zone = record { rest = rest; zone = zone }

-- a function that reads, at the front of words, a proof that the target is surely captured at a node; nothing if the
-- words do not begin with one
abbrev pub Prover : Type 0
Prover = Node → BoardState → List Word → Option Proved

-- the same proof, resting on the points more as well
abbrev pub with_points : Points → Proved → Proved
with_points more found = record { rest = found.rest; zone = set.union more found.zone }

-- the words after the first, if the first is this word
abbrev pub behind_word : Word → List Word → Option (List Word)
behind_word word [] = None
behind_word word (first ∷ rest) = if bytes_eq first word then Some rest else None

-- the move is a play at p
abbrev pub is_to : Option (Option ℕ) → ℕ → Bool
is_to None p = false
is_to (Some None) p = false
is_to (Some (Some q)) p = q == p

-- the words after the first, if the first is the vertex of p on a board of size s
abbrev pub behind_vertex : ℕ → ℕ → List Word → Option (List Word)
behind_vertex s p [] = None
behind_vertex s p (first ∷ rest) = if is_to (target_named s first) p then Some rest else None

-- `.` proves that the target is captured if it is taken and cannot be taken back; the proof rests on the points that
-- show this
abbrev pub by_capture : Node → BoardState → List Word → Option Proved
by_capture node pos rest = if is_taken_for_good node pos then Some (proved_by rest (loss_rests_on node pos)) else None

-- the vertex of the target's point proves a sure capture if the defender takes back there and the proof of the child
-- follows. The proof rests on the points that show to which position this leads, and on the points of the child's proof
abbrev pub by_back : Prover → Node → BoardState → Word → Option (Node × BoardState) → List Word → Option Proved
by_back prove node pos word None rest = None
by_back prove node pos word (Some child) rest = if is_to (target_named pos.size word) (target_of node)
    then option_map (with_points (loss_rests_on node pos)) (prove child.0 child.1 rest)
    else None

-- the points on which the mover's play at p rests, if what follows rests on Z
abbrev pub move_rests_on : Node → BoardState → ℕ → Points → Points
move_rests_on node pos p Z = play_rests_on pos.size pos.cells (mover_of node.turn) Z p

-- a proof of the child after the attacker's play at p, as a proof of the node. It rests on the points that show that
-- p is a candidate, on the points of the play, and on the points of the child's proof
abbrev pub with_candidate : Node → BoardState → ℕ → Proved → Proved
with_candidate node pos p found = with_points
    (set.union (candidate_rests_on node.turn pos p) (move_rests_on node pos p found.zone)) found

-- a vertex proves a sure capture if the attacker can play there and the proof of the child follows
abbrev pub by_child : Prover → Node → BoardState → ℕ → Option (Node × BoardState) → List Word → Option Proved
by_child prove node pos p None rest = None
by_child prove node pos p (Some child) rest = option_map (with_candidate node pos p) (prove child.0 child.1 rest)

-- a word proves a sure capture if it is the vertex of a candidate that can be played and the proof of the child follows
abbrev pub by_move : Prover → Node → BoardState → Option (Option ℕ) → List Word → Option Proved
by_move prove node pos None rest = None
by_move prove node pos (Some None) rest = None
by_move prove node pos (Some (Some p)) rest = by_child prove node pos p (child_after node pos (At p)) rest

-- the points Z, and those on which the mover's play at p rests, if what follows rests on Z
abbrev pub with_move : Node → BoardState → ℕ → Points → Points
with_move node pos p Z = set.union Z (move_rests_on node pos p Z)

-- the words after a proof of the child after a reply at p, and the points Z so far with those of the child's proof, and
-- with those of the play
abbrev pub with_reply : Node → BoardState → ℕ → Points → Proved → Proved
with_reply node pos p Z found =
    record { rest = found.rest; zone = with_move node pos p (set.union Z found.zone) }

-- the words after one reply, and the points so far with those on which the reply rests. A reply that cannot be played
-- has no words and rests on the points of the play. A reply that can be played has its vertex and the proof of its
-- child, and rests on the points of that proof too
abbrev pub at_reply : Prover → Node → BoardState → ℕ → Option (Node × BoardState) → Proved → Option Proved
at_reply prove node pos p None so_far =
    Some (record { rest = so_far.rest; zone = with_move node pos p so_far.zone })
at_reply prove node pos p (Some child) so_far = option_map (with_reply node pos p so_far.zone)
    (option_and_then (prove child.0 child.1) (behind_vertex pos.size p so_far.rest))

-- the words after several replies, one after another, and the points so far with those on which these replies rest
abbrev pub at_replies : Prover → Node → BoardState → List ℕ → Proved → Option Proved
at_replies prove node pos [] so_far = Some so_far
at_replies prove node pos (p ∷ more) so_far =
    option_and_then (at_replies prove node pos more) (at_reply prove node pos p (child_of node pos p) so_far)

-- the points of a set on a board of s rows, in reading order
abbrev pub points_in : ℕ → Points → List ℕ
points_in s Z = filter (set.contains Z) (range_with_len 0 (s * s))

-- the replies that the zone asks for, in reading order
abbrev pub replies_to : Node → BoardState → Points → List ℕ
replies_to node pos Z = points_in pos.size (asked_of pos.size pos.cells (other (mover_of node.turn)) Z)

-- the words after the `;` that ends the replies
abbrev pub at_end : Proved → Option Proved
at_end found = option_map (λ rest. record { rest = rest; zone = found.zone }) (behind_word (codes ";") found.rest)

-- the words after the replies that the zone of the pass asks for and the `;` that ends them; the proof rests on that
-- zone, on the points that guard it, and on the points of the replies
abbrev pub behind_pass : Prover → Node → BoardState → Proved → Option Proved
behind_pass prove node pos passed =
    option_and_then at_end (at_replies prove node pos (replies_to node pos passed.zone)
    (record {
      rest = passed.rest;
      zone = set.union passed.zone
          (guard_of pos.size pos.cells (other (mover_of node.turn)) passed.zone);
    }))

-- `*` proves a sure capture at the defender's turn if the proof after the pass follows, and then the replies
abbrev pub by_replies : Prover → Node → BoardState → List Word → Option Proved
by_replies prove node pos rest =
    option_and_then (behind_pass prove node pos) (prove (next_node node (allowance_of node)) (pass pos) rest)

-- what the first word proves if a ply is left: at the attacker's turn it is a vertex, and the target stands and has not
-- too many liberties; at the defender's turn it is `*`, or the vertex of the target's point if he takes back
abbrev pub by_turn : Prover → Node → BoardState → Word → List Word → Option Proved
by_turn prove node pos word rest =
    if is_attackers node
    then (if is_gone node pos || has_too_many node pos then None
    else by_move prove node pos (target_named pos.size word) rest)
    else if bytes_eq word (codes "*") then by_replies prove node pos rest
    else by_back prove node pos word (taking_back node pos) rest

-- the proof with which the words begin, that the target is surely captured at the node with n plies left; nothing if
-- they do not begin with one
unfoldable pub proves_surely : ℕ → Prover
proves_surely n node pos [] = None
proves_surely zero node pos (word ∷ rest) = if bytes_eq word (codes ".") then by_capture node pos rest else None
proves_surely (suc n) node pos (word ∷ rest) =
    if bytes_eq word (codes ".") then by_capture node pos rest
    else by_turn (proves_surely n) node pos word rest

-- the words are a proof that the target is surely captured at the node with n plies left, and no word follows the proof
abbrev pub IsSureProof : ℕ → Node → BoardState → List Word → Type 0
IsSureProof n node pos words = option_map (λ (found : Proved). found.rest) (proves_surely n node pos words) ≡ Some []
