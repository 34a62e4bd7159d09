-- The command line of the program as one value of `clap`, and what `clap`'s definitions say of words given to it.
use Rattle.std.specs.Prelude.{ℕ, pos, Bool, true, List, [], ◌∷◌, Some, codes, option_map, unwrap_or}
use Rattle.clap.specs.Lexer.{usize_max}
use Rattle.clap.specs.Walk.{Row, Rule, Text, is_empty}
use Rattle.clap.specs.Simple.{App, matches_of, new_app, new_rule, on_top}
use Rattle.clap.specs.Faults.{fault_of}
use Rattle.clap.specs.declared.builder.action.ArgAction.TheVariants.{Set, Append, SetTrue}
use Rattle.clap.specs.declared.builder.value_parser.ValueParser.{ValueParser}
use Rattle.clap.specs.declared.builder.value_parser.ValueParser.TheVariants as parser
use Rattle.go_options.specs.NumberOptions.{NumberOption, depth_option, branch_option, cache_option, states_option}
use Rattle.go_options.specs.NumberOptions.{generate_option}

-- a whole number from low to high
abbrev pub whole_from : ℕ → ℕ → ValueParser
whole_from low high = parser.Signed (pos low) (pos high)

-- an option of this name that has one value
abbrev pub option_rule : Text → ValueParser → Rule
option_rule name values = record (new_rule name) { long = Some name; action = Some Set; parser = Some values }

-- the rule of an option with a value; the value is text if the option is not given
abbrev pub default_rule : Text → ValueParser → Text → Rule
default_rule name values text = record (option_rule name values) { defaults = text ∷ [] }

-- the numbers in the range of the option
abbrev pub range_of : NumberOption → ValueParser
range_of option = whole_from option.least option.greatest

-- the rule of an option that has a number: one value in its range, and its default if it has one
abbrev pub number_rule : NumberOption → Rule
number_rule option = record (option_rule option.name (range_of option)) {
  defaults = unwrap_or (option_map (λ text. text ∷ []) option.default) [];
}

-- the rule of a flag of this name
abbrev pub flag_rule : Text → Rule
flag_rule name = record (new_rule name) { long = Some name; action = Some SetTrue }

-- the rule of the words that are no option, any number of them
abbrev pub words_rule : Text → Rule
words_rule name = record (new_rule name) {
  action = Some Append;
  range = Some (record { start_inclusive = 0; end_inclusive = usize_max });
}

-- a command of this name; its words begin after the name of the program, and it has no help and no version
abbrev pub bare_command : Text → App
bare_command name = on_top
    (λ s. record s { no_binary_name = true; disable_help_flag = true; disable_version_flag = true }) (new_app name)

-- the rules of the command line, in order
abbrev pub the_rules : List Rule
the_rules = number_rule depth_option
    ∷ number_rule branch_option
    ∷ number_rule cache_option
    ∷ number_rule states_option
    ∷ number_rule generate_option
    ∷ flag_rule (codes "stats")
    ∷ words_rule (codes "files")
    ∷ []

-- the command line of the program
unfoldable pub command_line : App
command_line = on_top (λ s. record s { rules = the_rules }) (bare_command (codes "gopat"))

-- the command line takes the words: no step of a parse of the words fails
abbrev pub is_taken : List Text → Bool
is_taken words = is_empty (fault_of command_line words)

-- what a parse finds in words that the command line takes
abbrev pub rows_in : List Text → List Row
rows_in words = matches_of command_line words
