-- What a record asks, or what it lacks. The line `gopat:` of the record says the question; without this line the marks
-- say it.
use Rattle.std.specs.Prelude.{◌≡◌, ◌≢◌, ℕ, ◌⊎◌, Bool, true, List, Option, Some, None, Result, Ok, Err}
use Rattle.std.specs.Prelude.{MatchResult}
use Rattle.go_rules.specs.Position.{BoardState}
use Rattle.read_rules.specs.declared.question.Kind.{Kind}
use Rattle.read_rules.specs.declared.depths.Depths.{Depths}
use Rattle.problem_records.specs.Nodes.{Named, comment_of}
use Rattle.problem_records.specs.Lines.{lines_of, told_line, words_of, asked_in_words, IsOfParts}
use Rattle.problem_records.specs.Marks.{marked_stones, player_of, asked_by_marks}
use Rattle.problem_records.specs.Problems.{HasStone}
use Rattle.problem_records.specs.declared.lack.Lack.{Lack}
use Rattle.problem_records.specs.declared.lack.Lack.TheVariants as lack
use Rattle.problem_records.specs.declared.lack.ProblemError.{ProblemError}
use Rattle.problem_records.specs.declared.lack.ProblemError.TheVariants.{Lacks, NoMemory}
use Rattle.problem_records.specs.declared.problem.Problem.{Problem}

-- the question of a first node with these values on this position, once its line was looked for: the lack if that
-- failed, the question that the line says, or the question of the marks if there is no line
abbrev pub asked_by_line : BoardState → List Named → Result (Option (List ℕ)) Lack → Result (Kind × ℕ) Lack
asked_by_line pos vs (Err l) = Err l
asked_by_line pos vs (Ok None) = asked_by_marks pos.cells (marked_stones pos vs) (player_of vs)
asked_by_line pos vs (Ok (Some line)) = asked_in_words pos.size (words_of line)

-- the text behind `gopat:` in the comment of a first node with these values; None if there is no such line
abbrev pub line_in : List Named → Result (Option (List ℕ)) Lack
line_in vs = told_line (lines_of (comment_of vs))

-- the question of a first node with these values on this position, or what the node lacks of a question
abbrev pub asked : BoardState → List Named → Result (Kind × ℕ) Lack
asked pos vs = asked_by_line pos vs (line_in vs)

-- a record without a line is taken to ask at the usual depths, with any code, and with no other moves allowed
pub record IsByMarks {X : Type 0} (usual depths : X) (code : Option ℕ) (only : Bool) : Type 0 where
  pub depths_asked : depths ≡ usual
  pub no_code : code ≡ None
  pub no_others : only ≡ true

-- the problem asks the question of the record; without a line it has the usual depths, any code and no other moves
pub record Asks (pos : BoardState) (vs : List Named) (usual : Depths) (problem : Problem) : Type 0 where
  pub question : asked pos vs ≡ Ok (problem.kind, problem.target)
  pub by_marks : line_in vs ≡ Ok None → IsByMarks usual problem.depths problem.expected.code problem.expected.only

-- The record lacks this: the question, as `asked` says; or the line asks a question, but lacks a part behind it or has
-- no stone at its point.
abbrev pub IsLack : BoardState → List Named → Lack → Type 0
IsLack pos vs l = MatchResult (asked pos vs)
    (λ q. (line_in vs ≢ Ok None) × (IsOfParts l ⊎ ((l ≡ lack.NoStone) × (HasStone pos q.1 → ⊥))))
    (λ wanted. l ≡ wanted)

-- this is the outcome for a record whose first node has these values and leads to this position; memory can run out at
-- any time
abbrev pub IsOutcome : BoardState → List Named → Depths → Result Problem ProblemError → Type 0
IsOutcome pos vs usual (Ok problem) = Asks pos vs usual problem
IsOutcome pos vs usual (Err (Lacks l)) = IsLack pos vs l
IsOutcome pos vs usual (Err NoMemory) = Unit {0}
