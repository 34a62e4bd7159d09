-- Which cells of the board a letter of a diagram admits, after 'The Pattern Code' of the GNU Go Manual.
use Rattle.std.specs.Prelude.{Bool, true, ◌||◌}
use Rattle.go_rules.specs.declared.Cell.{Cell}
use Rattle.go_rules.specs.declared.Cell.TheVariants.{Empty as empty}
use Rattle.go_rules.specs.declared.Colour.{Colour}
use Rattle.go_rules.specs.Strings.{same_cell}
use Rattle.go_rules.specs.Position.{other, stone_of}
use Rattle.pat_types.specs.declared.letter.Letter.{Letter}
use Rattle.pat_types.specs.declared.letter.Letter.TheVariants.{Friend, Enemy, Empty, FriendOrEmpty, EnemyOrEmpty, Any}
use Rattle.pat_types.specs.declared.letter.Letter.TheVariants.{Star}

-- the letter admits the cell, if friend is the colour for which the pattern is asked
abbrev pub admits : Letter → Cell → Colour → Bool
admits Friend cell friend = same_cell cell (stone_of friend)
admits Enemy cell friend = same_cell cell (stone_of (other friend))
admits Empty cell friend = same_cell cell empty
admits FriendOrEmpty cell friend = same_cell cell (stone_of friend) || same_cell cell empty
admits EnemyOrEmpty cell friend = same_cell cell (stone_of (other friend)) || same_cell cell empty
admits Any cell friend = true
admits Star cell friend = same_cell cell empty
