-- The answer to a question about a connection: whether the side that is asked about has its way, and the first move by
-- which it does.
use Rattle.std.specs.Prelude.{ℕ, ◌-◌, Bool, true, false, ◌&&◌, ◌==◌, Option, Some, None, if◌then◌else◌}
use Rattle.go_rules.specs.Strings.{cell_at}
use Rattle.go_rules.specs.Position.{BoardState, colour_of}
use Rattle.read_rules.specs.declared.question.Spot.{Spot}
use Rattle.read_rules.specs.declared.question.Spot.TheVariants.{Pass}
use Rattle.read_rules.specs.GameTree.{at_point}
use Rattle.connect_rules.specs.declared.link.Link.{Link}
use Rattle.connect_rules.specs.declared.question.LinkKind.{LinkKind}
use Rattle.connect_rules.specs.declared.question.LinkKind.TheVariants.{Connect, Disconnect}
use Rattle.connect_rules.specs.declared.question.LinkQuestion.{LinkQuestion}
use Rattle.connect_rules.specs.declared.question.Linkage.{Linkage}
use Rattle.connect_rules.specs.Connection.{both_stand, is_one_string, can_connect, has_way, first_success, pass_parts}

-- the question asks whether the strings can be joined
abbrev pub is_connect : LinkKind → Bool
is_connect Connect = true
is_connect Disconnect = false

-- the two strings that the question is about
abbrev pub link_of : LinkQuestion → Link
link_of q = record { a = q.a; b = q.b; colour = q.colour }

-- the position has the question's size, and both points hold stones of the question's colour
abbrev pub is_about : LinkQuestion → BoardState → Bool
is_about q pos = (q.size == pos.size) && both_stand (link_of q) pos

-- the side that is asked about plays first and has its way: for Connect the strings can be joined when their own colour
-- plays first; for Disconnect they cannot be joined when the other colour plays first
abbrev pub is_attained : LinkQuestion → BoardState → Bool
is_attained q pos = has_way (is_connect q.kind) (can_connect q.plies (link_of q) (is_connect q.kind) pos)

-- the pass attains what is asked: for Connect if the two are one string already, for Disconnect if they cannot be
-- joined after the pass
abbrev pub pass_attains : LinkQuestion → BoardState → Bool
pass_attains q pos =
    if is_connect q.kind then is_one_string (link_of q) pos else pass_parts (q.plies - 1) (link_of q) pos

-- the first move that attains what is asked: the pass before all points, and then the connecting moves in reading order
abbrev pub first_move_of : LinkQuestion → BoardState → Option Spot
first_move_of q pos = if pass_attains q pos then Some Pass
    else at_point (first_success (q.plies - 1) (link_of q) (is_connect q.kind) pos)

-- the question is about the position, and the side that is asked about has its way
abbrev pub is_yes : LinkQuestion → BoardState → Bool
is_yes q pos = is_about q pos && is_attained q pos

-- the answer to the question on the position; it is no if the question is not about the position
unfoldable pub linkage_of : LinkQuestion → BoardState → Linkage
linkage_of q pos = record { yes = is_yes q pos; at = if is_yes q pos then first_move_of q pos else None }

-- the question that a call asks on a position whose two points hold stones of one colour
abbrev pub asked_on : BoardState → LinkKind → ℕ → ℕ → ℕ → LinkQuestion
asked_on pos kind a b plies = record {
  size = pos.size;
  kind = kind;
  a = a;
  b = b;
  colour = colour_of (cell_at pos.cells a);
  plies = plies;
}
