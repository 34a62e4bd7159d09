-- What the commands do that read whether two strings can be joined or kept apart.
use Rattle.std.specs.Prelude.{ℕ, List, ◌++◌, if◌then◌else◌}
use Rattle.go_rules.specs.Strings.{cell_at, same_cell}
use Rattle.connect_rules.specs.declared.question.LinkKind.{LinkKind}
use Rattle.connect_rules.specs.declared.question.Linkage.{Linkage}
use Rattle.connect_rules.specs.Linkages.{linkage_of, asked_on}
use Rattle.gtp_cmd.specs.declared.refusals.RefuseText.TheVariants.{ColoursDiffer}
use Rattle.machine_rules.specs.Machine.{Machine, position_of}
use Rattle.machine_rules.specs.Effects.{Effect, refused, succeeded}
use Rattle.machine_rules.specs.BoardCommands.{digit_of, of_stone}
use Rattle.machine_rules.specs.ReadingCommands.{move_text}

-- an answer on a board of size s: `1` or `0`, and the move after a blank if there is one
abbrev pub linkage_text : ℕ → Linkage → List ℕ
linkage_text s linkage = digit_of linkage.yes ++ move_text s linkage.at

-- the answer to a question about the strings of two points, read on the machine's position as deep as the machine says
abbrev pub linkage_at : Machine → LinkKind → ℕ → ℕ → Linkage
linkage_at machine kind a b =
    linkage_of (asked_on (position_of machine) kind a b machine.depths.plies) (position_of machine)

-- the effect, if the two stones have the same colour; else the command is refused
abbrev pub of_one_colour : Machine → ℕ → ℕ → Effect → Effect
of_one_colour old a b effect =
    if same_cell (cell_at (position_of old).cells a) (cell_at (position_of old).cells b) then effect
    else refused old ColoursDiffer

-- the answer to a question about two stones of one colour is printed
abbrev pub linked : Machine → LinkKind → ℕ → ℕ → Effect
linked old kind a b = of_stone old a (of_stone old b (of_one_colour old a b
    (succeeded (linkage_text old.base.size (linkage_at old kind a b)) old)))
