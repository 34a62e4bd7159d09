-- The blocks of a database: each is a Pattern line and the lines that belong to it, by the table of stages.
use Rattle.std.specs.Prelude.{ℕ, List, [], ◌∷◌, ◌++◌, map, fold, slice_index, Option, Some, None, if◌then◌else◌}
use Rattle.std.specs.Option.{option_map, option_to_list}
use Rattle.db_lex.specs.declared.line.LineKind.{LineKind}
use Rattle.db_lex.specs.declared.line.LineKind.TheVariants.{Pattern, Colon, Semicolon, Action, Other}
use Rattle.db_lex.specs.Lines.{KeptLine, kind_of, word_of}
use Rattle.db_rules.specs.declared.kind.FaultKind.{FaultKind}
use Rattle.db_rules.specs.declared.kind.FaultKind.TheVariants.{StrayLine, NoColonLine}
use Rattle.db_rules.specs.Colon.{is_ascii_letter}
use Rattle.db_rules.specs.declared.stage.TableCell.{TableCell}
use Rattle.db_rules.specs.declared.stage.TableCell.TheVariants.{Next, Refused}
use Rattle.db_rules.specs.declared.stage.Stage.{Stage}
use Rattle.db_rules.specs.declared.stage.Stage.TheVariants.{Start, Diagram, Labels, Expression, Actions}

-- the table of stages: its cell for a line of this kind; the first byte b counts only for kind Other in stage Start
abbrev pub table : Stage → LineKind → ℕ → TableCell
table Start Pattern b = Next Diagram
table Start Colon b = Refused StrayLine
table Start Semicolon b = Refused StrayLine
table Start Action b = Refused StrayLine
table Start Other b = if is_ascii_letter b then Next Start else Refused StrayLine
table Diagram Pattern b = Refused NoColonLine
table Diagram Colon b = Next Labels
table Diagram Semicolon b = Refused NoColonLine
table Diagram Action b = Refused NoColonLine
table Diagram Other b = Next Diagram
table Labels Pattern b = Next Diagram
table Labels Colon b = Refused StrayLine
table Labels Semicolon b = Next Expression
table Labels Action b = Next Actions
table Labels Other b = Next Labels
table Expression Pattern b = Next Diagram
table Expression Colon b = Refused StrayLine
table Expression Semicolon b = Next Expression
table Expression Action b = Next Actions
table Expression Other b = Refused StrayLine
table Actions Pattern b = Next Diagram
table Actions Colon b = Refused StrayLine
table Actions Semicolon b = Refused StrayLine
table Actions Action b = Next Actions
table Actions Other b = Refused StrayLine

-- the last column of the table of stages: the fault if the text ends in this stage
abbrev pub end_refused : Stage → Option FaultKind
end_refused Diagram = Some NoColonLine
end_refused _ = None

-- a block of whole lines
pub record Block : Type 0 where
  pub head : KeptLine
  pub diagram : List KeptLine
  pub colon : List KeptLine
  pub constraint : List KeptLine
  pub expression : List KeptLine
  pub actions : List KeptLine

-- the lines of a block in their order
abbrev pub lines_in : Block → List KeptLine
lines_in b = b.head ∷ (b.diagram ++ b.colon ++ b.constraint ++ b.expression ++ b.actions)

-- the words of these lines, each the front of a line up to its first blank
abbrev pub words_in : List KeptLine → List (List ℕ)
words_in lines = map (λ l. word_of l.bytes) lines

-- what has been read after some lines of a text: the stage, the lines before the first Pattern line, the blocks that
-- another block follows, and the block that may go on
pub record SoFar : Type 0 where
  pub stage : Stage
  pub front : List KeptLine
  pub done : List Block
  pub now : Option Block

-- all blocks in their order
abbrev pub blocks_of : SoFar → List Block
blocks_of s = s.done ++ option_to_list s.now

-- a block that begins with this line
abbrev pub begun_with : KeptLine → Block
begun_with line = record { head = line; diagram = []; colon = []; constraint = []; expression = []; actions = [] }

-- what has been read, with this stage, and with the block that may go on changed by f
abbrev pub with_now : Stage → SoFar → (Block → Block) → SoFar
with_now stage s f = record { stage = stage; front = s.front; done = s.done; now = option_map f s.now }

-- what has been read, with this line put in its place by its kind, and with this stage
abbrev pub placed : KeptLine → Stage → SoFar → LineKind → SoFar
placed line stage s Pattern =
    record { stage = stage; front = s.front; done = blocks_of s; now = Some (begun_with line) }
placed line stage s Colon = with_now stage s (λ b. record b { colon = b.colon ++ line ∷ [] })
placed line stage s Semicolon = with_now stage s (λ b. record b { expression = b.expression ++ line ∷ [] })
placed line stage s Action = with_now stage s (λ b. record b { actions = b.actions ++ line ∷ [] })
placed line Start s Other = record { stage = Start; front = s.front ++ line ∷ []; done = s.done; now = s.now }
placed line Diagram s Other = with_now Diagram s (λ b. record b { diagram = b.diagram ++ line ∷ [] })
placed line Labels s Other = with_now Labels s (λ b. record b { constraint = b.constraint ++ line ∷ [] })
placed line Expression s Other = s
placed line Actions s Other = s

-- the cell of the table of stages for this line
abbrev pub cell_for : Stage → KeptLine → TableCell
cell_for stage line = table stage (kind_of line.bytes) (slice_index line.bytes 0)

-- what has been read after one more line, for which the table has this cell; a line that the table refuses changes
-- nothing
abbrev pub with_cell : SoFar → KeptLine → TableCell → SoFar
with_cell s line (Next stage) = placed line stage s (kind_of line.bytes)
with_cell s line (Refused kind) = s

-- what has been read after one more line, which goes where the table takes it
unfoldable pub after_line : SoFar → KeptLine → SoFar
after_line s line = with_cell s line (cell_for s.stage line)

-- what has been read before the first line
abbrev pub at_start : SoFar
at_start = record { stage = Start; front = []; done = []; now = None }

-- what has been read after these lines
unfoldable pub so_far : List KeptLine → SoFar
so_far lines = fold after_line at_start lines
