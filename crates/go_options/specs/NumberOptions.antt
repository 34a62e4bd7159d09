-- The options that take a number. Each stands here once, with its name, its range and its default.
use Rattle.std.specs.Prelude.{ℕ, Option, Some, None, codes}
use Rattle.clap.specs.Walk.{Text}
use Rattle.read_rules.specs.Ranges.{least_plies, most_plies, most_wide}

-- an option of this name takes a number from least to greatest; default is its text if the option is not given
pub record NumberOption : Type 0 where
  pub name : Text
  pub least : ℕ
  pub greatest : ℕ
  pub default : Option Text

-- how many plies deep a reading goes
abbrev pub depth_option : NumberOption
depth_option = record { name = codes "depth"; least = least_plies; greatest = most_plies; default = Some (codes "10") }

-- how many plies of a reading are wide
abbrev pub branch_option : NumberOption
branch_option = record { name = codes "branch"; least = 0; greatest = most_wide; default = Some (codes "2") }

-- the most questions that are cached about readings, and the most about connections
abbrev pub cache_option : NumberOption
cache_option = record { name = codes "cache"; least = 8; greatest = 65536; default = Some (codes "4096") }

-- the most states of the automaton
abbrev pub states_option : NumberOption
states_option = record { name = codes "states"; least = 1; greatest = 1000000; default = Some (codes "100000") }

-- how many lines are generated in place of the input
abbrev pub generate_option : NumberOption
generate_option = record { name = codes "generate"; least = 1; greatest = 100000; default = None }
