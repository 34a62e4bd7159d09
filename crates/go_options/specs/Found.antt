-- The options in the rows that a parse finds.
use Rattle.std.specs.Prelude.{◌≡◌, ◌≤◌, ℕ, Bool, false, List, [], Option, Some, codes, unwrap_or, option_map}
use Rattle.std.specs.Prelude.{MatchOption}
use Rattle.std.specs.Option.{option_map_or}
use Rattle.std.specs.Str.{bytes_eq}
use Rattle.std.specs.Str.Parse.{digits_value, without_leading_plus}
use Rattle.clap.specs.Walk.{Row, Text, all_of, first_of, one_of}
use Rattle.go_options.specs.NumberOptions.{NumberOption, depth_option, branch_option, cache_option, states_option}
use Rattle.go_options.specs.NumberOptions.{generate_option}
use Rattle.go_options.specs.declared.options.Options.{Options}

-- the number that decimal digits write, perhaps after a plus
abbrev pub number_of : Text → ℕ
number_of text = digits_value 10 (without_leading_plus text)

-- the number of the option of this name, if the option has a value
abbrev pub number_in : Text → List Row → Option ℕ
number_in name rows = option_map number_of (one_of name rows)

-- the flag of this name is set
abbrev pub flag_in : Text → List Row → Bool
flag_in name rows = option_map_or (λ text. bytes_eq text (codes "true")) (first_of name rows) false

-- the words that are no option
abbrev pub words_in : Text → List Row → List Text
words_in name rows = unwrap_or (all_of name rows) []

-- the options have the values that the rows give
pub record AreFound (rows : List Row) (options : Options) : Type 0 where
  pub depth : number_in depth_option.name rows ≡ Some options.depth
  pub branch : number_in branch_option.name rows ≡ Some options.branch
  pub cache : number_in cache_option.name rows ≡ Some options.cache
  pub states : number_in states_option.name rows ≡ Some options.states
  pub generate : number_in generate_option.name rows ≡ options.generate
  pub stats : flag_in (codes "stats") rows ≡ options.stats
  pub files : words_in (codes "files") rows ≡ options.files

-- the number n is at least low and at most high
abbrev pub IsFrom : ℕ → ℕ → ℕ → Type 0
IsFrom low high n = (low ≤ n) × (n ≤ high)

-- the number lies in the range of the option
abbrev pub IsIn : NumberOption → ℕ → Type 0
IsIn option = IsFrom option.least option.greatest

-- each number of the options lies in its range
pub record AreInRange (options : Options) : Type 0 where
  pub depth : IsIn depth_option options.depth
  pub branch : IsIn branch_option options.branch
  pub cache : IsIn cache_option options.cache
  pub states : IsIn states_option options.states
  pub generate : MatchOption options.generate (Unit {0}) (IsIn generate_option)
