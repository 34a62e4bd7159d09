-- What a draft has read of a block, and when it is complete.
use Rattle.std.specs.Prelude.{◌≡◌, ◌<◌, IsTrue, List, [], length, map, Option, Some, None}
use Rattle.std.specs.Option.{option_map}
use Rattle.pat_types.specs.Labels.{is_constraint}
use Rattle.cons_parse.specs.Trees.{Tree, tree_of, meaning_of}
use Rattle.cons_parse.specs.Reading.{expression_in}
use Rattle.db_lex.specs.Lines.{KeptLine}
use Rattle.db_rules.specs.Accepted.{IsDrawn, IsLabelled}
use Rattle.db_rules.specs.Diagram.{letters_of, star_count}
use Rattle.db_rules.specs.Expressions.{expression_text}
use Rattle.db_rules.specs.Blocks.{Block, words_in}
use Rattle.db_rules.specs.Entries.{name_on, colon_bytes}
use Rattle.db_rules.specs.Faults.{first_number}
use Rattle.db_entry.specs.declared.colon.ColonLine.{ColonLine}
use Rattle.db_entry.specs.Reads.{Draws, IsMarked}
use Rattle.db_entry.specs.Says.{Says}
use Rattle.db_read.specs.declared.draft.Draft.{Draft}
use Rattle.db_read.specs.declared.draft.ExpressionText.{ExpressionText}

-- kept is the text of these expression lines, of which there is at least one, and the line number of the first
pub record IsTextOf (kept : ExpressionText) (lines : List KeptLine) : Type 0 where
  pub some : 0 < length lines
  pub line : kept.line ≡ first_number lines
  pub text : kept.text ≡ expression_text lines

-- what is kept of these expression lines: nothing if there is no line, else their text
abbrev pub KeepsText : Option ExpressionText → List KeptLine → Type 0
KeepsText None lines = lines ≡ []
KeepsText (Some kept) lines = IsTextOf kept lines

-- what is kept of these colon lines: nothing if there is no line, else what the first line says
abbrev pub KeepsColon : Option ColonLine → List KeptLine → Type 0
KeepsColon None lines = lines ≡ []
KeepsColon (Some colon) lines = Says colon (colon_bytes lines)

-- the draft has read these lines of a block
pub record Drafts (d : Draft) (b : Block) : Type 0 where
  pub name : d.name ≡ name_on b.head.bytes
  pub words : map (λ w. w.now) d.words.items ≡ words_in b.diagram
  pub diagram : Draws d.diagram (words_in b.diagram)
  pub colon : KeepsColon d.colon b.colon
  pub marks : IsMarked d.marks (words_in b.diagram) (words_in b.constraint)
  pub expression : KeepsText d.expression b.expression
  pub drawn : IsDrawn (words_in b.diagram)
  pub labelled : IsLabelled (words_in b.diagram) (words_in b.constraint)

-- the diagram of the block has exactly one star
abbrev pub HasOneStar : Block → Type 0
HasOneStar b = star_count (letters_of (words_in b.diagram)) ≡ 1

-- the block has a colon line, behind a diagram with one star
abbrev pub IsPastColon : Block → Type 0
IsPastColon b = HasOneStar b × (0 < length b.colon)

-- what the expression says whose text is kept; nothing if no text is kept
abbrev pub said_by : Option ExpressionText → Option Tree
said_by None = None
said_by (Some kept) = option_map meaning_of (expression_in kept.text)

-- the draft has neither an expression line nor a constraint
pub record IsUnjudged (d : Draft) : Type 0 where
  pub no_line : d.expression ≡ None
  pub no_constraint : d.constraint ≡ None

-- the constraint of the draft is what its expression says, and a pattern with its labels may keep it
pub record IsJudged (d : Draft) : Type 0 where
  pub says : option_map tree_of d.constraint ≡ said_by d.expression
  pub kept : IsTrue (is_constraint d.marks.labels d.constraint)

-- the draft has read a block whose colon line has no fault, and whose expression is judged
pub record IsComplete (d : Draft) : Type 0 where
  pub block : Block
  pub drafts : Drafts d block
  pub past_colon : IsPastColon block
  pub judged : IsJudged d
