-- How many stones one move takes, and how many each colour took.
use Rattle.std.specs.Prelude.{ℕ, if◌then◌else◌}
use Rattle.go_rules.specs.declared.Colour.{Colour}
use Rattle.go_rules.specs.declared.Colour.TheVariants.{Black, White}
use Rattle.go_rules.specs.declared.Move.{Move}
use Rattle.go_rules.specs.Position.{BoardState, same_colour}
use Rattle.go_rules.specs.Replay.{taken_by}
use Rattle.go_history.specs.declared.captures.Captures.{Captures}

-- how many stones the move takes for the colour c: its captures if it is a move of c, and else none
abbrev pub stones_taken : BoardState → Colour → Move → ℕ
stones_taken pos c m = if same_colour m.colour c then taken_by pos m.colour m.at else 0

-- how many stones the colour took, by the counts taken
abbrev pub taken_of : Captures → Colour → ℕ
taken_of taken Black = taken.by_black
taken_of taken White = taken.by_white
