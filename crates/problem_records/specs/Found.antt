-- What each step of reading a record finds of its question.
use Rattle.std.specs.Prelude.{◌≡◌, ◌≢◌, ℕ, List, Some, None, Result, Ok, Err, MatchResult}
use Rattle.go_rules.specs.Position.{BoardState}
use Rattle.read_rules.specs.declared.question.Kind.{Kind}
use Rattle.read_rules.specs.declared.depths.Depths.{Depths}
use Rattle.problem_records.specs.Nodes.{Named}
use Rattle.problem_records.specs.Lines.{words_of, asked_in_words, IsOfParts}
use Rattle.problem_records.specs.Asked.{line_in, asked, IsByMarks}
use Rattle.problem_records.specs.declared.lack.Lack.{Lack}
use Rattle.problem_records.specs.declared.lack.ProblemError.{ProblemError}
use Rattle.problem_records.specs.declared.lack.ProblemError.TheVariants.{Lacks, NoMemory}
use Rattle.problem_records.specs.declared.line.Line.{Line}
use Rattle.problem_records.specs.declared.lack.Lack.TheVariants as lack
use Rattle.problem_records.specs.declared.problem.Problem.{Problem}
use Rattle.problem_records.specs.Problems.{HasStone}
use Rattle.std.specs.Option.{unwrap_or}

-- both lines ask the same question about the same target
pub record AsksSame (before after : Line) : Type 0 where
  pub kind : after.kind ≡ before.kind
  pub target : after.target ≡ before.target

-- memory ran out, or the record has a lack for which P is true
abbrev pub IsLackOrNoMemory : (Lack → Type 0) → ProblemError → Type 0
IsLackOrNoMemory P (Lacks l) = P l
IsLackOrNoMemory P NoMemory = Unit {0}

-- the words lack this, on a board of size s: the question or its point, or a part behind them
abbrev pub IsLackInWords : ℕ → List (List ℕ) → Lack → Type 0
IsLackInWords s words l = MatchResult (asked_in_words s words) (λ q. IsOfParts l) (λ wanted. l ≡ wanted)

-- this is the result for the words of a line, on a board of size s: a line that asks their question, or what they lack
abbrev pub IsInWords : ℕ → List (List ℕ) → Result Line Lack → Type 0
IsInWords s words r =
    MatchResult r (λ line. asked_in_words s words ≡ Ok (line.kind, line.target)) (IsLackInWords s words)

-- this is the result for a line with this text, on a board of size s: a line that asks the question of its words, or
-- what the words lack, or that memory ran out
abbrev pub IsInLine : ℕ → List ℕ → Result Line ProblemError → Type 0
IsInLine s text r = MatchResult r (λ line. asked_in_words s (words_of text) ≡ Ok (line.kind, line.target))
    (IsLackOrNoMemory (IsLackInWords s (words_of text)))

-- this is the result for marks that ask this question: a line with it and the usual depths, or what is lacking, or no
-- memory
abbrev pub IsInMarks : Result (Kind × ℕ) Lack → Depths → Result Line ProblemError → Type 0
IsInMarks question usual r = MatchResult r
    (λ line. (question ≡ Ok (line.kind, line.target))
    × IsByMarks (Some usual) line.depths line.expected.code line.expected.only)
    (IsLackOrNoMemory (λ l. question ≡ Err l))

-- a first node with these values lacks this: the question, or a part behind the question in its line
abbrev pub IsLackInNode : BoardState → List Named → Lack → Type 0
IsLackInNode pos vs l = MatchResult (asked pos vs) (λ q. (line_in vs ≢ Ok None) × IsOfParts l) (λ wanted. l ≡ wanted)

-- this is the result for a first node with these values on this position: a line with its question, or what it lacks,
-- or no memory
abbrev pub IsInNode : BoardState → List Named → Depths → Result Line ProblemError → Type 0
IsInNode pos vs usual r = MatchResult r
    (λ line. (asked pos vs ≡ Ok (line.kind, line.target))
    × (line_in vs ≡ Ok None → IsByMarks (Some usual) line.depths line.expected.code line.expected.only))
    (IsLackOrNoMemory (IsLackInNode pos vs))

-- the problem is this position with what the line says, at the usual depths if the line says none
pub record HasLine (pos : BoardState) (line : Line) (usual : Depths) (problem : Problem) : Type 0 where
  pub position : problem.position ≡ pos
  pub kind : problem.kind ≡ line.kind
  pub target : problem.target ≡ line.target
  pub depths : problem.depths ≡ unwrap_or line.depths usual
  pub expected : problem.expected ≡ line.expected

-- this is the result for a position and a line: the problem, or the lack that no stone stands at the line's point
abbrev pub IsOfLine : BoardState → Line → Depths → Result Problem ProblemError → Type 0
IsOfLine pos line usual r = MatchResult r (HasLine pos line usual)
    (λ e. (e ≡ Lacks lack.NoStone) × (HasStone pos line.target → ⊥))
