-- What a row says of the text of a record.
use Rattle.std.specs.Prelude.{◌≡◌, ℕ, Bool, false, ◌==◌, List, Ok, MatchResult}
use Rattle.sgf_rules.specs.FirstNode.{first_position_of}
use Rattle.sgf_rules.specs.Kinds.{number_of}
use Rattle.read_rules.specs.declared.depths.Depths.{Depths}
use Rattle.problem_verdicts.specs.declared.replies.Replies.{Replies}
use Rattle.problem_verdicts.specs.declared.scope.Scope.{Scope}
use Rattle.problem_verdicts.specs.declared.verdict.Verdict.{Verdict}
use Rattle.problem_verdicts.specs.declared.verdict.Verdict.TheVariants.{NotTold}
use Rattle.problem_verdicts.specs.MoveSets.{count_of}
use Rattle.problem_verdicts.specs.SureQuestions.{IsFoundAgainst}
use Rattle.problem_verdicts.specs.Verdicts.{verdict_on}
use Rattle.problem_records.specs.Nodes.{first_node, named_values}
use Rattle.problem_records.specs.Asked.{Asks, IsLack}
use Rattle.problem_records.specs.declared.lack.Lack.{Lack}
use Rattle.problem_records.specs.declared.lack.Lack.TheVariants as lack
use Rattle.problem_records.specs.declared.problem.Problem.{Problem}
use Rattle.problem_rows.specs.declared.row.Asked.{Asked}
use Rattle.problem_rows.specs.declared.row.Row.{Row}
use Rattle.problem_rows.specs.declared.row.Row.TheVariants as row

-- the row is about the problem, against these replies and with the moves of this scope: it has what is found of the
-- question, and the verdict on it
pub record IsJudged (problem : Problem) (replies : Replies) (scope : Scope) (told : Asked) : Type 0 where
  pub asks : told.problem ≡ problem
  pub against : told.replies ≡ replies
  pub judges : told.scope ≡ scope
  pub found : IsFoundAgainst replies scope problem.position problem.kind problem.target problem.depths told.judged.found
  pub verdict : told.judged.verdict ≡ verdict_on problem.expected told.judged.found

-- The record with this text asks the question of the problem, with these depths if it says none: its first node leads
-- to the position, and the values of that node ask the question.
pub record IsProblemOf (text : List ℕ) (usual : Depths) (problem : Problem) : Type 0 where
  pub position : first_position_of text ≡ Ok problem.position
  pub asks : Asks problem.position (named_values (first_node text)) usual problem

-- the record with this text lacks this: its first node leads to no position, or it lacks a question on that position
abbrev pub IsLackOf : List ℕ → Lack → Type 0
IsLackOf text l = MatchResult (first_position_of text) (λ pos. IsLack pos (named_values (first_node text)) l)
    (λ kind. l ≡ lack.BadRecord (number_of kind))

-- this is the row of the record with this text: its question with what is found of it, or what it lacks
abbrev pub IsRowOf : List ℕ → Depths → Replies → Scope → Row → Type 0
IsRowOf text usual replies scope (row.Asked told) =
    IsProblemOf text usual told.problem × IsJudged told.problem replies scope told
IsRowOf text usual replies scope (row.Lacks l) = IsLackOf text l
IsRowOf text usual replies scope row.NotLoaded = ⊥

-- the verdict of a row: the verdict on its question, or NotTold if it has no question
abbrev pub verdict_in : Row → Verdict
verdict_in (row.Asked told) = told.judged.verdict
verdict_in (row.Lacks l) = NotTold
verdict_in row.NotLoaded = NotTold

-- exactly one move attains the code of the row's question
abbrev pub has_one_answer : Row → Bool
has_one_answer (row.Asked told) = count_of told.judged.found.moves == 1
has_one_answer (row.Lacks l) = false
has_one_answer row.NotLoaded = false
