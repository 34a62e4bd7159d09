-- The view of readings that contracts use, and how calls change it.
use Rattle.std.specs.Prelude.{◌≡◌, ℕ, Bool, ◌≤◌, ◌⊎◌, IsTrue, Option, Some, None, IfSome}
use Rattle.go_rules.specs.Position.{BoardState, stone_of}
use Rattle.go_base.specs.Facts.{Fact, Agrees, CellIs}
use Rattle.go_base.specs.AmongFacts.{told}
use Rattle.read_rules.specs.declared.question.Answer.{Answer}
use Rattle.go_rules.specs.Strings.{liberties}
use Rattle.read_rules.specs.declared.question.ReadingQuestion.{ReadingQuestion}
use Rattle.read_rules.specs.Answer.{code_of, answer_of, is_attack}
use Rattle.read_rules.specs.Bound.{outlasts}
use Rattle.read_rules.specs.ActiveArea.{InActiveArea, IsAboutOne}
use Rattle.read_rules.specs.GoodMoves.{IsOnBoard}
use Rattle.read_cache.specs.declared.variants.Variant.{Variant}
use Rattle.read_cache.specs.Keeping.{Keeping, WasAnswered, raised, first_keeping, Follows as KeepingFollows}
use Rattle.match_engine.specs.declared.keys.Key.{Key}
use Rattle.match_engine.specs.Keys.{same_key}
use Rattle.match_engine.specs.ReadingDepths.{ReadingDepths, asked_at}
use Rattle.cons_eval.specs.Readings.{Codes}

-- the present depths; the trial plays of all fresh readings; those of the last reading, if it was fresh; and the cached
-- answers, with the counts of fresh readings and of answers that could not be cached
pub record ReadingsView : Type 0 where
  pub depths : ReadingDepths
  pub trials : ℕ
  pub last : Option ℕ
  pub answers : Keeping Key Answer

-- new readings at these depths, which cache at most capacity questions
abbrev pub first_readings : ReadingDepths → ℕ → ReadingsView
first_readings depths capacity =
    record { depths = depths; trials = 0; last = None; answers = first_keeping capacity }

-- the same readings with other depths
abbrev pub with_depths : ReadingsView → ReadingDepths → ReadingsView
with_depths r depths = record r { depths = depths }

-- the code of a fresh reading at these depths, of each kind, on each position and for each target
abbrev pub codes_at : ReadingDepths → Codes
codes_at depths kind pos target = code_of (asked_at depths pos kind target) pos

-- the codes of readings at the present depths
abbrev pub codes_of : ReadingsView → Codes
codes_of r = codes_at r.depths

-- The answer of the variant rests on its facts, the target's stone among them: on each position on which they hold it
-- is the answer to the question, and there each of them lies in the active area of the reading.
pub record Rests (key : Key) (variant : Variant Answer) : Type 0 where
  pub target : IsTrue (told variant.facts (CellIs key.question.target (stone_of key.question.colour)))
  pub answers : (pos : BoardState) → Agrees (told variant.facts) pos → variant.answer ≡ answer_of key.question pos
  pub near : (pos : BoardState) → Agrees (told variant.facts) pos → (fact : Fact) → IsTrue (told variant.facts fact)
      → IsAboutOne (InActiveArea key.question pos) fact
  pub code : variant.answer.code ≤ 3
  pub on_board : IfSome variant.answer.at (IsOnBoard key.question.size)

-- the answer is that to the question on the position, its code is at most 3, and its move is on the board
pub record IsAnswerTo (key : Key) (pos : BoardState) (answer : Answer) : Type 0 where
  pub right : answer ≡ answer_of key.question pos
  pub code : answer.code ≤ 3
  pub on_board : IfSome answer.at (IsOnBoard key.question.size)

-- the count after a reading: it is raised by the reading's trial plays, if the reading was fresh
abbrev pub after_trials : ℕ → Option ℕ → ℕ
after_trials count None = count
after_trials count (Some n) = raised count n

-- the target has too many liberties for the plies or the wide plies of the question, so no play is tried for it
abbrev pub is_untried : ReadingQuestion → BoardState → Bool
is_untried q pos = outlasts q.tree (is_attack q.kind) q.plies q.wide (liberties pos.size pos.cells q.target)

-- a reading of the question may make this many trial plays: none, if its target has too many liberties
abbrev pub MayTry : Key → BoardState → ℕ → Type 0
MayTry key pos trials = IsTrue (is_untried key.question pos) → trials ≡ 0

-- New is old after one reading at the same depths. Its answer was cached, and the last reading has no trial plays; or
-- it was fresh, and its trial plays were counted.
pub record HasRead (key : Key) (pos : BoardState) (answer : Answer) (old new : ReadingsView) : Type 0 where
  pub depths : new.depths ≡ old.depths
  pub read : WasAnswered same_key key Rests (MayTry key pos) pos answer new.last old.answers new.answers
  pub trials : new.trials ≡ after_trials old.trials new.last

-- new is old after any number of readings: the depths are the same, the answers follow, and the trial plays have not
-- become fewer
pub record Follows (old new : ReadingsView) : Type 0 where
  pub depths : new.depths ≡ old.depths
  pub answers : KeepingFollows old.answers new.answers
  pub trials : old.trials ≤ new.trials
