-- The expression of a block: the text of its lines, its first fault, and what it says.
use Rattle.std.specs.Prelude.{ℕ, List, [], ◌∷◌, ◌++◌, drop, Option, None}
use Rattle.std.specs.Option.{option_map}
use Rattle.pat_types.specs.declared.pattern.LabelAt.{LabelAt}
use Rattle.cons_parse.specs.declared.error.ConsError.{ConsError}
use Rattle.cons_parse.specs.declared.error.ConsError.TheVariants.{Syntax, TooDeep, UnknownFunction, Arity, UnknownLabel}
use Rattle.cons_parse.specs.declared.error.ConsError.TheVariants.{NoMemory}
use Rattle.cons_parse.specs.Trees.{Tree, meaning_of}
use Rattle.cons_parse.specs.Reading.{expression_in, fault_in}
use Rattle.db_lex.specs.Lines.{KeptLine}
use Rattle.db_rules.specs.declared.kind.FaultKind.{FaultKind}
use Rattle.db_rules.specs.declared.kind.FaultKind.TheVariants as kinds

-- the blank that joins the lines of an expression
abbrev pub blank : ℕ
blank = 32

-- the text on an expression line: what follows its `;`
abbrev pub text_on : KeptLine → List ℕ
text_on line = drop 1 line.bytes

-- the text of an expression: the texts on its lines, joined by one blank
abbrev pub expression_text : List KeptLine → List ℕ
expression_text [] = []
expression_text (line ∷ []) = text_on line
expression_text (line ∷ next ∷ more) = text_on line ++ blank ∷ expression_text (next ∷ more)

-- the kind of fault that an error of an expression is reported as: UnknownLabel for an unknown label, else ExprFault
abbrev pub kind_told : ConsError → FaultKind
kind_told UnknownLabel = kinds.UnknownLabel
kind_told Syntax = kinds.ExprFault
kind_told TooDeep = kinds.ExprFault
kind_told UnknownFunction = kinds.ExprFault
kind_told Arity = kinds.ExprFault
kind_told NoMemory = kinds.ExprFault

-- the kind of the first fault of the expression on these lines, if these are the labels; none if there is no line
abbrev pub kind_of_expression : List LabelAt → List KeptLine → Option FaultKind
kind_of_expression labels [] = None
kind_of_expression labels (line ∷ lines) = option_map kind_told (fault_in labels (expression_text (line ∷ lines)))

-- what the expression on these lines says; nothing if there is no line
abbrev pub expression_on : List KeptLine → Option Tree
expression_on [] = None
expression_on (line ∷ lines) = option_map meaning_of (expression_in (expression_text (line ∷ lines)))
