-- The form of a database without a fault, as whole blocks, without a walk from line to line.
use Rattle.std.specs.Prelude.{◌≡◌, ℕ, ◌≤◌, IsTrue, false, List, [], ◌∷◌, ◌++◌, length, slice_index, None}
use Rattle.std.specs.List.{All, flat_map}
use Rattle.db_lex.specs.declared.line.LineKind.{LineKind}
use Rattle.db_lex.specs.declared.line.LineKind.TheVariants.{Pattern, Colon, Semicolon, Action, Other}
use Rattle.db_lex.specs.Lines.{KeptLine, kept_lines, kind_of}
use Rattle.db_rules.specs.Colon.{is_ascii_letter, colon_fault}
use Rattle.db_rules.specs.Labels.{labels_closing_fault}
use Rattle.db_rules.specs.Accepted.{IsDrawn, IsLabelled}
use Rattle.db_rules.specs.Blocks.{Block, lines_in, words_in}
use Rattle.db_rules.specs.Faults.{is_unnamed, expression_kind, most_entries}

-- the line is of this kind and has no bad byte
pub record IsLineOf (kind : LineKind) (line : KeptLine) : Type 0 where
  pub clean : line.is_bad ≡ false
  pub kind_is : kind_of line.bytes ≡ kind

-- the line may stand before the first block: it is of kind Other and begins with an ASCII letter
pub record IsInFront (line : KeptLine) : Type 0 where
  pub other : IsLineOf Other line
  pub letter : IsTrue (is_ascii_letter (slice_index line.bytes 0))

-- there is exactly one line, and it is a colon line without a fault below this main diagram
pub record IsColonLine (helpers diagram : List (List ℕ)) (lines : List KeptLine) : Type 0 where
  pub line : KeptLine
  pub alone : lines ≡ line ∷ []
  pub colon : IsLineOf Colon line
  pub faultless : colon_fault helpers diagram line.bytes ≡ None

-- the block is whole: a Pattern line with a name, the lines of a main diagram, one colon line, and then, if there are
-- any, the lines of a whole constraint diagram, of an expression and of actions; none of them has a fault
pub record IsBlock (helpers : List (List ℕ)) (b : Block) : Type 0 where
  pub head : IsLineOf Pattern b.head
  pub named : is_unnamed b.head.bytes ≡ false
  pub diagram : All (IsLineOf Other) b.diagram
  pub drawn : IsDrawn (words_in b.diagram)
  pub colon : IsColonLine helpers (words_in b.diagram) b.colon
  pub constraint : All (IsLineOf Other) b.constraint
  pub labelled : IsLabelled (words_in b.diagram) (words_in b.constraint)
  pub closed : labels_closing_fault (words_in b.diagram) (words_in b.constraint) ≡ None
  pub expression : All (IsLineOf Semicolon) b.expression
  pub judged : expression_kind b ≡ None
  pub actions : All (IsLineOf Action) b.actions

-- the lines that are not skipped are a front and then at most 4,096 whole blocks
pub record IsDatabase (helpers : List (List ℕ)) (text : List ℕ) : Type 0 where
  pub front : List KeptLine
  pub blocks : List Block
  pub cut : kept_lines text ≡ front ++ flat_map lines_in blocks
  pub in_front : All IsInFront front
  pub whole : All (IsBlock helpers) blocks
  pub few : length blocks ≤ most_entries
