-- The position after the first node of a record. In a problem it is the question, and the later nodes are the solution.
use Rattle.std.specs.Prelude.{ℕ, List, [], ◌∷◌, Result}
use Rattle.std.specs.Option.{option_map}
use Rattle.go_rules.specs.Position.{BoardState}
use Rattle.sgf_rules.specs.declared.kind.FaultKind.{FaultKind}
use Rattle.sgf_rules.specs.Trees.{Node}
use Rattle.sgf_rules.specs.MainLine.{main_line}
use Rattle.sgf_rules.specs.Game.{game_along}

-- the first of these nodes alone, if there is one
abbrev pub first_alone : List Node → List Node
first_alone [] = []
first_alone (n ∷ ns) = n ∷ []

-- the position after the setup and the moves of the record's first node, or the first fault up to there: what the
-- record would lead to if its main line ended with its first node
unfoldable pub first_position_of : List ℕ → Result BoardState FaultKind
first_position_of text = game_along (option_map first_alone (main_line text))
