-- Certain hits: lines whose reading is certainly answered from an earlier, cached one. Lines, positions and active
-- areas alone decide which lines they are.
use Rattle.std.specs.Prelude.{◌≡◌, ◌⊎◌, ℕ, suc, ◌≤◌, Bool, true, false, List, [], ◌∷◌, ◌++◌, count_by, Option, Some}
use Rattle.std.specs.Prelude.{None}
use Rattle.go_rules.specs.Position.{BoardState}
use Rattle.read_rules.specs.declared.question.ReadingQuestion.{ReadingQuestion}
use Rattle.read_rules.specs.ActiveArea.{InActiveArea, AgreeOn}
use Rattle.gtp_rules.specs.Lines.{RawLine, Line, TooLong}
use Rattle.gtp_cmd.specs.Words.{cleaned, words_of, id_of}
use Rattle.gtp_cmd.specs.Commands.{named}
use Rattle.gtp_cmd.specs.declared.commands.CommandName.{CommandName}
use Rattle.gtp_cmd.specs.declared.commands.CommandName.TheVariants as name
use Rattle.machine_rules.specs.Machine.{Machine, position_of}
use Rattle.machine_rules.specs.AnsweredLines.{AnsweredLine}
use Rattle.machine_rules.specs.Questions.{One, asks_of_line}

-- the command that the first of these words names
abbrev pub first_named : List (List ℕ) → Option CommandName
first_named [] = None
first_named (word ∷ words) = named word

-- the command that the words name: the second word names it if the first is an id, else the first word does
abbrev pub named_after : Option ℕ → List ℕ → List (List ℕ) → Option CommandName
named_after None first more = named first
named_after (Some id) first more = first_named more

-- the command that the words of a line name
abbrev pub named_by : List (List ℕ) → Option CommandName
named_by [] = None
named_by (first ∷ more) = named_after (id_of first) first more

-- the command that a line names, whether its arguments are well formed or not
unfoldable pub named_in : RawLine → Option CommandName
named_in TooLong = None
named_in (Line text) = named_by (words_of (cleaned text))

-- the command is attack or defend
abbrev pub is_reading : Option CommandName → Bool
is_reading (Some name.Attack) = true
is_reading (Some name.Defend) = true
is_reading _ = false

-- the command asks for matches: it is match_patterns, genmove or reg_genmove
abbrev pub is_matching : Option CommandName → Bool
is_matching (Some name.MatchPatterns) = true
is_matching (Some name.GenMove) = true
is_matching (Some name.RegGenMove) = true
is_matching _ = false

-- how many of the lines are `attack` or `defend` lines, answered or refused
abbrev pub reading_lines : List (AnsweredLine Machine) → ℕ
reading_lines turns = count_by (λ turn. is_reading (named_in turn.line)) turns

-- how many of the lines are `match_patterns`, `genmove` or `reg_genmove` lines
abbrev pub matching_lines : List (AnsweredLine Machine) → ℕ
matching_lines turns = count_by (λ turn. is_matching (named_in turn.line)) turns

-- the line asks this question, and is answered with a code
abbrev pub AsksFor : AnsweredLine Machine → ReadingQuestion → Type 0
AsksFor turn q = asks_of_line turn.machine turn.line ≡ One (record { question = q })

-- the position at a line
abbrev pub board_at : AnsweredLine Machine → BoardState
board_at turn = position_of turn.machine

-- After the lines before it, a line is a certain hit: an earlier line asks the same question, both are answered with a
-- code, their positions agree on the active area of the question at the earlier line, and between the two lines stand
-- at most three `attack` and `defend` lines and no `match_patterns`, `genmove` or `reg_genmove` line.
pub record IsCertainHit (before : List (AnsweredLine Machine)) (now : AnsweredLine Machine) : Type 0 where
  pub first : List (AnsweredLine Machine)
  pub earlier : AnsweredLine Machine
  pub between : List (AnsweredLine Machine)
  pub place : before ≡ first ++ earlier ∷ between
  pub question : ReadingQuestion
  pub asked : AsksFor earlier question
  pub again : AsksFor now question
  pub agree : AgreeOn (InActiveArea question (board_at earlier)) (board_at earlier) (board_at now)
  pub few : reading_lines between ≤ 3
  pub no_matching : matching_lines between ≡ 0

-- n lines picked from the list are certain hits, each after the lines of `before` and after all lines of the list that
-- precede it, picked or not
abbrev pub HaveCertainHits : List (AnsweredLine Machine) → List (AnsweredLine Machine) → ℕ → Type 0
HaveCertainHits before [] n = n ≡ 0
HaveCertainHits before (turn ∷ turns) n = HaveCertainHits (before ++ turn ∷ []) turns n
    ⊎ ((m : ℕ) × (n ≡ suc m) × IsCertainHit before turn × HaveCertainHits (before ++ turn ∷ []) turns m)
