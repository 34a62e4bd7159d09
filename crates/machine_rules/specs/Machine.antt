-- The plain machine: the settings of a session, the position from which its moves are played, the moves, and the
-- helpers.
use Rattle.std.specs.Prelude.{ℕ, List, [], codes}
use Rattle.go_rules.specs.declared.Move.{Move}
use Rattle.go_rules.specs.Position.{BoardState}
use Rattle.go_rules.specs.Replay.{empty_board, replay_from}
use Rattle.helpers.specs.HelperStates.{SlotState}
use Rattle.match_engine.specs.ReadingDepths.{ReadingDepths, asked_at}
use Rattle.read_rules.specs.declared.question.Kind.{Kind}
use Rattle.read_rules.specs.declared.question.ReadingQuestion.{ReadingQuestion}

-- settings, a first position and moves from it, and helpers
pub record Machine : Type 0 where
  -- the position from which the moves are played
  pub base : BoardState
  -- the moves played so far, the first one first
  pub moves : List Move
  -- the text of the komi
  pub komi : List ℕ
  -- the tree of the readings, and how deep they go
  pub depths : ReadingDepths
  -- the helpers, each with its name and its meaning, on or off, and how often it was asked
  pub helpers : List SlotState

-- the size of the board until a line sets another
abbrev pub first_size : ℕ
first_size = 19

-- the machine before the first line: an empty board, these helpers, and readings of these depths
abbrev pub first_machine : List SlotState → ReadingDepths → Machine
first_machine helpers depths = record {
  base = empty_board first_size;
  moves = [];
  komi = codes "0.0";
  depths = depths;
  helpers = helpers;
}

-- the position of the machine: its moves are played from its base
abbrev pub position_of : Machine → BoardState
position_of machine = replay_from machine.base machine.moves

-- the question about the string of a point of the machine's position, as deep as the machine reads
abbrev pub question_at : Machine → Kind → ℕ → ReadingQuestion
question_at machine kind p = asked_at machine.depths (position_of machine) kind p
