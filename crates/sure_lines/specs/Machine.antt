-- The machine of sure questions: a game, and how deep readings go.
use Rattle.std.specs.Prelude.{ℕ}
use Rattle.go_history.specs.Games.{Game, new_game, position_of}
use Rattle.go_rules.specs.Position.{BoardState}
use Rattle.read_rules.specs.Answer.{asked_in}
use Rattle.read_rules.specs.declared.depths.Depths.{Depths}
use Rattle.read_rules.specs.declared.question.Kind.{Kind}
use Rattle.read_rules.specs.declared.question.ReadingQuestion.{ReadingQuestion}
use Rattle.read_rules.specs.declared.tree.Tree.{Tree}

-- a game (a first position and the moves from it), the tree that names the attacker's candidates, and the plies and
-- wide plies of readings
pub record Machine : Type 0 where
  pub game : Game
  pub tree : Tree
  pub plies : ℕ
  pub wide : ℕ

-- the size of the board until a line sets one
abbrev pub first_size : ℕ
first_size = 19

-- the machine with this game, whose readings have these depths
abbrev pub machine_at : Game → Depths → Machine
machine_at game depths = record { game = game; tree = depths.tree; plies = depths.plies; wide = depths.wide }

-- the machine before the first line: the empty board, and readings with these depths
abbrev pub first_machine : Depths → Machine
first_machine depths = machine_at (new_game first_size) depths

-- the position after the moves of the game
abbrev pub present : Machine → BoardState
present machine = position_of machine.game

-- the question about the string of a point of the present position, as deep as the machine reads
abbrev pub question_at : Machine → Kind → ℕ → ReadingQuestion
question_at machine kind p = asked_in machine.tree (present machine) kind p machine.plies machine.wide
