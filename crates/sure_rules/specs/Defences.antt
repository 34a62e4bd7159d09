-- Play against every defence, described by moves alone. Nothing here speaks of game trees or of candidates: two sides
-- move in turn, and the side that defends a stone may answer as it likes. In the wider tree a lone stone counts as
-- taken only if it cannot be taken back at once.
use Rattle.std.specs.Prelude.{◌≡◌, ℕ, ◌-◌, ◌*◌, ◌<◌, ◌≤◌, true, List, [], ◌∷◌, length, Ok, Err, if◌then◌else◌}
use Rattle.go_rules.specs.declared.Cell.TheVariants.{Empty}
use Rattle.go_rules.specs.declared.Colour.{Colour}
use Rattle.go_rules.specs.declared.Illegal.TheVariants.{Ko}
use Rattle.go_rules.specs.Board.{are_neighbours}
use Rattle.go_rules.specs.Strings.{cell_at}
use Rattle.go_rules.specs.Position.{BoardState, other, stone_of}
use Rattle.go_rules.specs.Play.{play, play_free, pass}
use Rattle.read_rules.specs.declared.node.Node.{Node}
use Rattle.read_rules.specs.declared.question.Spot.{Spot}
use Rattle.read_rules.specs.declared.question.Spot.TheVariants.{At, Pass}
use Rattle.read_rules.specs.declared.question.ReadingQuestion.{ReadingQuestion}
use Rattle.read_rules.specs.declared.tree.Tree.{Tree}
use Rattle.read_rules.specs.declared.tree.Tree.TheVariants.{Stated, Wider}
use Rattle.read_rules.specs.GameTree.{allowance_of}
use Rattle.read_rules.specs.Turns.{mover_of}
use Rattle.read_rules.specs.Answer.{is_attack, own_allowance, other_allowance}
use Rattle.sure_rules.specs.Nodes.{other_allowance_of}

-- the standing of a game between two sides: the position, whose turn it is, and how often the side to play, and the
-- other side, may still ignore the ko ban
pub record Standing : Type 0 where
  pub board : BoardState
  pub to_play : Colour
  pub allowance : ℕ
  pub other_allowance : ℕ

-- the standing after a move to this board that leaves its mover the allowance left: the other side is to play
abbrev pub turned : Standing → BoardState → ℕ → Standing
turned here board left = record {
  board = board;
  to_play = other here.to_play;
  allowance = here.other_allowance;
  other_allowance = left;
}

-- the side to play may make the move, and it leads to there: the side passes; it makes a legal play; or it makes a play
-- that only the ko ban forbids, which takes one of its allowances
pub data IsMove (here : Standing) : Spot → Standing → Type 0 where
  passes : IsMove here Pass (turned here (pass here.board) here.allowance)
  plays : (p : ℕ) (new : BoardState) → p < here.board.size * here.board.size
      → play here.board here.to_play p ≡ Ok new → IsMove here (At p) (turned here new here.allowance)
  ignores_the_ban : (p : ℕ) (new : BoardState) → p < here.board.size * here.board.size
      → play here.board here.to_play p ≡ Err Ko → play_free here.board here.to_play p ≡ Ok new
      → 0 < here.allowance → IsMove here (At p) (turned here new (here.allowance - 1))

-- these moves, the newest first, lead from the start to here: each may be made, the attacker plays stones, and the
-- defender answers the moves so far by his reply to them
pub data IsGame (defender : Colour) (reply : List Spot → Spot) (start : Standing) : List Spot → Standing → Type 0 where
  begins : IsGame defender reply start [] start
  attacks : {moves : List Spot} {here there : Standing} → IsGame defender reply start moves here
      → here.to_play ≡ other defender → (p : ℕ) → IsMove here (At p) there
      → IsGame defender reply start (At p ∷ moves) there
  replies : {moves : List Spot} {here there : Standing} → IsGame defender reply start moves here
      → here.to_play ≡ defender → IsMove here (reply moves) there
      → IsGame defender reply start (reply moves ∷ moves) there

-- whenever it is the defender's turn, his reply to the moves so far is a move that he may make
abbrev pub IsDefence : Colour → (List Spot → Spot) → Standing → Type 0
IsDefence defender reply start = (moves : List Spot) (here : Standing) → IsGame defender reply start moves here
    → here.to_play ≡ defender → (there : Standing) × IsMove here (reply moves) there

-- the defender can take back the lone stone that was taken at the target: its point is empty, each neighbour of the
-- point holds a stone of the other side, it is his turn, and he may play at the point
pub record CanTakeBack (target : ℕ) (defender : Colour) (here : Standing) : Type 0 where
  pub empty : cell_at here.board.cells target ≡ Empty
  pub lone : (q : ℕ) → q < here.board.size * here.board.size → are_neighbours here.board.size target q ≡ true
      → cell_at here.board.cells q ≡ stone_of (other defender)
  pub turn : here.to_play ≡ defender
  pub there : Standing
  pub move : IsMove here (At target) there

-- the stone at the target is taken and cannot be taken back at once
pub record IsTakenForGood (target : ℕ) (defender : Colour) (here : Standing) : Type 0 where
  pub empty : cell_at here.board.cells target ≡ Empty
  pub kept : CanTakeBack target defender here → ⊥

-- what the attacker has to reach in a tree: in the stated tree the target's point is empty; in the wider tree the stone
-- is taken and cannot be taken back at once
abbrev pub IsTaken : Tree → ℕ → Colour → Standing → Type 0
IsTaken Stated target defender here = cell_at here.board.cells target ≡ Empty
IsTaken Wider target defender here = IsTakenForGood target defender here

-- against this reply some game of at most n moves ends with the stone taken
pub record IsTakenAgainst (tree : Tree) (n target : ℕ) (defender : Colour) (start : Standing)
    (reply : List Spot → Spot) : Type 0 where
  pub moves : List Spot
  pub end : Standing
  pub game : IsGame defender reply start moves end
  pub few : length moves ≤ n
  pub taken : IsTaken tree target defender end

-- against every defence the stone at the target is taken within n moves
abbrev pub IsTakenAnyway : Tree → ℕ → ℕ → Colour → Standing → Type 0
IsTakenAnyway tree n target defender start = (reply : List Spot → Spot) → IsDefence defender reply start
    → IsTakenAgainst tree n target defender start reply

-- these moves, the newest first, lead from the start to here: each may be made, the attacker plays at the point that
-- his plan names for the moves so far, the defender moves as he likes, and before each move the stone was not yet
-- taken
pub data IsPlayed (tree : Tree) (target : ℕ) (defender : Colour) (plan : List Spot → ℕ) (start : Standing) : List Spot
    → Standing → Type 0 where
  opens : IsPlayed tree target defender plan start [] start
  follows : {moves : List Spot} {here there : Standing} → IsPlayed tree target defender plan start moves here
      → (IsTaken tree target defender here → ⊥) → here.to_play ≡ other defender → IsMove here (At (plan moves)) there
      → IsPlayed tree target defender plan start (At (plan moves) ∷ moves) there
  answers : {moves : List Spot} {here there : Standing} → IsPlayed tree target defender plan start moves here
      → (IsTaken tree target defender here → ⊥) → here.to_play ≡ defender → (spot : Spot) → IsMove here spot there
      → IsPlayed tree target defender plan start (spot ∷ moves) there

-- the plan takes the stone at the target within n moves, whatever the defender plays: in every game by the plan, as
-- long as the stone is not taken, fewer than n moves were made, and at the attacker's turn the plan's move may be
-- made
pub record IsPlanWithin (tree : Tree) (n target : ℕ) (defender : Colour) (start : Standing)
    (plan : List Spot → ℕ) : Type 0 where
  pub in_time : (moves : List Spot) (here : Standing) → IsPlayed tree target defender plan start moves here
      → (IsTaken tree target defender here → ⊥) → length moves < n
  pub can_go_on : (moves : List Spot) (here : Standing) → IsPlayed tree target defender plan start moves here
      → (IsTaken tree target defender here → ⊥) → here.to_play ≡ other defender
      → (there : Standing) × IsMove here (At (plan moves)) there

-- some plan takes the stone at the target within n moves, whatever the defender plays
abbrev pub HasPlanWithin : Tree → ℕ → ℕ → Colour → Standing → Type 0
HasPlanWithin tree n target defender start = (plan : List Spot → ℕ) × IsPlanWithin tree n target defender start plan

-- the standing at a node
abbrev pub standing_at : Node → BoardState → Standing
standing_at node pos = record {
  board = pos;
  to_play = mover_of node.turn;
  allowance = allowance_of node;
  other_allowance = other_allowance_of node;
}

-- the standing at which a question begins under the ko allowances of a code: on the position, and with the side to play
-- that is asked about, the attacker in an attack and the defender in a defence
abbrev pub start_of : ReadingQuestion → BoardState → ℕ → Standing
start_of q pos code = record {
  board = pos;
  to_play = if is_attack q.kind then other q.colour else q.colour;
  allowance = own_allowance code;
  other_allowance = other_allowance code;
}
