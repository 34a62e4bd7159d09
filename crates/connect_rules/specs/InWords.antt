-- The connection tree and the answers in Go's words: what the computing definitions of Connection and Linkages are
-- proved to mean.
use Rattle.std.specs.Prelude.{◌≡◌, ℕ, ◌-◌, ◌<◌, not, Bool, true, false, IsTrue, Ok}
use Rattle.go_rules.specs.Strings.{cell_at}
use Rattle.go_rules.specs.Position.{BoardState, stone_of}
use Rattle.go_rules.specs.Play.{play, pass}
use Rattle.read_rules.specs.declared.question.Spot.{Spot}
use Rattle.read_rules.specs.declared.question.Spot.TheVariants.{At, Pass}
use Rattle.connect_rules.specs.declared.link.Link.{Link}
use Rattle.connect_rules.specs.declared.question.LinkQuestion.{LinkQuestion}
use Rattle.connect_rules.specs.ConnectingMoves.{is_connecting_move}
use Rattle.connect_rules.specs.Connection.{mover_of, can_connect, has_way}
use Rattle.connect_rules.specs.Linkages.{is_connect, link_of, pass_attains}

-- both points hold stones of the colour
pub record BothStand (link : Link) (pos : BoardState) : Type 0 where
  pub a : cell_at pos.cells link.a ≡ stone_of link.colour
  pub b : cell_at pos.cells link.b ≡ stone_of link.colour

-- the two strings of a link, the second named first
abbrev pub exchanged : Link → Link
exchanged link = record { a = link.b; b = link.a; colour = link.colour }

-- p is a connecting move that is legal for the side to play, and it leads to new
pub record IsMove (link : Link) (own : Bool) (pos : BoardState) (p : ℕ) (new : BoardState) : Type 0 where
  pub connecting : IsTrue (is_connecting_move link pos p)
  pub legal : play pos (mover_of link own) p ≡ Ok new

-- some move of the strings' own colour leads to a position on which they can be joined with n plies left
pub record SomeMoveJoins (n : ℕ) (link : Link) (pos : BoardState) : Type 0 where
  pub point : ℕ
  pub new : BoardState
  pub move : IsMove link true pos point new
  pub joins : IsTrue (can_connect n link false new)

-- after the other colour's pass, and after each of its moves, the strings can be joined with n plies left
pub record NoMoveParts (n : ℕ) (link : Link) (pos : BoardState) : Type 0 where
  pub passed : IsTrue (can_connect n link true (pass pos))
  pub played : (p : ℕ) (new : BoardState) → IsMove link false pos p new → IsTrue (can_connect n link true new)

-- the play at p is a legal connecting move, and with n plies left after it the side that made it has its way
pub record Succeeds (n : ℕ) (link : Link) (own : Bool) (pos : BoardState) (p : ℕ) : Type 0 where
  pub new : BoardState
  pub move : IsMove link own pos p new
  pub attains : IsTrue (has_way own (can_connect n link (not own) new))

-- the pass does not attain what is asked, and p is the first point in reading order that succeeds
pub record IsFirstPoint (q : LinkQuestion) (pos : BoardState) (p : ℕ) : Type 0 where
  pub no_pass : pass_attains q pos ≡ false
  pub succeeds : Succeeds (q.plies - 1) (link_of q) (is_connect q.kind) pos p
  pub none_before : (r : ℕ) → r < p → Succeeds (q.plies - 1) (link_of q) (is_connect q.kind) pos r → ⊥

-- the move is the first that attains what is asked: the pass before all points
abbrev pub IsFirstMove : LinkQuestion → BoardState → Spot → Type 0
IsFirstMove q pos Pass = IsTrue (pass_attains q pos)
IsFirstMove q pos (At p) = IsFirstPoint q pos p
