-- The expression that a text spells, and its first fault, as computations.
use Rattle.std.specs.Prelude.{◌≡◌, ℕ, List, Option, Some, None}
use Rattle.std.specs.Option.{option_map, option_and_then}
use Rattle.pat_types.specs.declared.pattern.LabelAt.{LabelAt}
use Rattle.cons_parse.specs.declared.error.ConsError.{ConsError}
use Rattle.cons_parse.specs.declared.error.ConsError.TheVariants.{Syntax, TooDeep, UnknownFunction, Arity, UnknownLabel}
use Rattle.cons_parse.specs.declared.error.ConsError.TheVariants.{NoMemory}
use Rattle.cons_parse.specs.declared.calls.Item.{Item}
use Rattle.cons_parse.specs.Grammar.{Written, Num, Call, Parens, Not, Neg, Bin}
use Rattle.cons_parse.specs.Faults.{fault_of}
use Rattle.cons_parse.specs.Scan.{scanned}
use Rattle.cons_parse.specs.Building.{Forms, built}
use Rattle.cons_parse.specs.Parsing.{items_within}

-- the forms that make an expression as it is written
abbrev pub as_written : Forms Written
as_written = record { num = Num; call = Call; parens = Parens; denied = Not; negated = Neg; joined = Bin }

-- the expression that items spell
abbrev pub written_of : List Item → Option Written
written_of is = option_map (λ deep. built as_written is) (scanned is)

-- the expression that a text spells
unfoldable pub expression_in : List ℕ → Option Written
expression_in text = option_and_then written_of (items_within text)

-- the first fault of the expression that a text spells, or Syntax if the text spells none
abbrev pub fault_of_reading : List LabelAt → Option Written → Option ConsError
fault_of_reading labels None = Some Syntax
fault_of_reading labels (Some w) = fault_of labels w

-- the first fault of a text
unfoldable pub fault_in : List LabelAt → List ℕ → Option ConsError
fault_in labels text = fault_of_reading labels (expression_in text)

-- the error is the first fault, unless it is NoMemory
abbrev pub Blames : ConsError → Option ConsError → Type 0
Blames Syntax fault = fault ≡ Some Syntax
Blames TooDeep fault = fault ≡ Some TooDeep
Blames UnknownFunction fault = fault ≡ Some UnknownFunction
Blames Arity fault = fault ≡ Some Arity
Blames UnknownLabel fault = fault ≡ Some UnknownLabel
Blames NoMemory fault = Unit {0}
