-- The verdict on a question: what its author expects is compared with what a reading finds.
use Rattle.std.specs.Prelude.{ℕ, Bool, true, false, ◌&&◌, ◌||◌, not, ◌==◌, Option, Some, None, is_some}
use Rattle.std.specs.Prelude.{if◌then◌else◌}
use Rattle.problem_verdicts.specs.declared.moves.Moves.{Moves}
use Rattle.problem_verdicts.specs.declared.expected.Expected.{Expected}
use Rattle.problem_verdicts.specs.declared.judged.Found.{Found}
use Rattle.problem_verdicts.specs.declared.verdict.Verdict.{Verdict}
use Rattle.problem_verdicts.specs.declared.verdict.Verdict.TheVariants as verdict
use Rattle.problem_verdicts.specs.MoveSets.{are_among}

-- the author tells a code or moves
abbrev pub is_told : Expected → Bool
is_told e = is_some e.code || is_some e.answers

-- the pass is one of the moves that the author tells
abbrev pub has_pass : Option Moves → Bool
has_pass None = false
has_pass (Some m) = m.pass

-- the author expects the pass: the author tells moves, and the pass is one of them
abbrev pub expects_pass : Expected → Bool
expects_pass e = has_pass e.answers

-- the author allows the code: the author tells this code, or no code
abbrev pub allows_code : Option ℕ → ℕ → Bool
allows_code None code = true
allows_code (Some told) code = told == code

-- the side that is asked about fails, and the author does not tell this
abbrev pub is_unsolved : Expected → Found → Bool
is_unsolved e f = f.code == 0 && not (is_some e.code && allows_code e.code 0)

-- each move that the author tells attains the code
abbrev pub all_attain : Option Moves → Moves → Bool
all_attain None attaining = true
all_attain (Some told) attaining = are_among told attaining

-- each move that attains the code is one that the author tells, or the author tells no moves
abbrev pub are_all_told : Option Moves → Moves → Bool
are_all_told None attaining = true
are_all_told (Some told) attaining = are_among attaining told

-- the question has its answer without a move, and the author does not expect the pass
abbrev pub needs_none : Expected → Found → Bool
needs_none e f = f.needless && not (expects_pass e)

-- the code differs from the one that the author tells, or a move that the author tells does not attain it
abbrev pub misses : Expected → Found → Bool
misses e f = not (allows_code e.code f.code && all_attain e.answers f.moves)

-- the author rules out all other moves, but one of them attains the code
abbrev pub has_more : Expected → Found → Bool
has_more e f = e.only && not (are_all_told e.answers f.moves)

-- the verdict: the first of these that applies, in this order
abbrev pub verdict_on : Expected → Found → Verdict
verdict_on e f =
    if not (is_told e) then verdict.NotTold
    else if is_unsolved e f then verdict.NotSolved
    else if needs_none e f then verdict.NeedsNoMove
    else if misses e f then verdict.AnotherAnswer
    else if has_more e f then verdict.OtherAnswersToo
    else verdict.AsExpected
