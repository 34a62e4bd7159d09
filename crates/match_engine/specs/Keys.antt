-- The keys under which the answers of readings are cached.
use Rattle.std.specs.Prelude.{◌≡◌, ℕ, ◌+◌, ◌*◌, ◌<◌, ◌≤◌, true, Bool}
use Rattle.std.proofs.Common.{ap, rules}
use Rattle.go_rules.specs.Position.{BoardState, stone_of}
use Rattle.go_rules.specs.Strings.{cell_at}
use Rattle.read_rules.specs.declared.question.Answer.{Answer}
use Rattle.read_rules.specs.declared.question.Kind.{Kind}
use Rattle.read_rules.specs.declared.question.Kind.TheVariants as kind
use Rattle.read_rules.specs.declared.question.ReadingQuestion.{ReadingQuestion}
use Rattle.read_rules.specs.Answer.{answer_of}
use Rattle.read_rules.specs.Ranges.{most_plies}
use Rattle.read_cache.specs.Digits.{point_values, ply_values}
use Rattle.match_engine.specs.declared.keys.Key.{Key}
use Rattle.match_engine.specs.contracts.keys.KeyPartialEq.TheImpl.{ghosts}

-- the equality test of the code
abbrev pub same_key : Key → Key → Bool
same_key = ghosts.eq

-- keys that pass the equality test are the same
pub same_key-is : (p q : Key) → same_key p q ≡ true → p ≡ q
same_key-is p q e = search rules

-- the answer to the question on a position
abbrev pub meaning_of : Key → BoardState → Answer
meaning_of key pos = answer_of key.question pos

-- the question can be asked on the position: it is of the board's size, a stone of its colour stands at its target, and
-- its plies are in range
pub record IsAbout (key : Key) (pos : BoardState) : Type 0 where
  pub size : key.question.size ≡ pos.size
  pub on_board : key.question.target < pos.size * pos.size
  pub stone : cell_at pos.cells key.question.target ≡ stone_of key.question.colour
  pub some_plies : 1 ≤ key.question.plies
  pub few_plies : key.question.plies ≤ most_plies

-- the number of a kind
abbrev pub number_of_kind : Kind → ℕ
number_of_kind kind.Attack = 0
number_of_kind kind.Defend = 1

-- the number that a question is hashed as: its size, target, kind and depths, each in digits of its own
abbrev pub number_of : ReadingQuestion → ℕ
number_of q =
    (((q.size * point_values + q.target) * 2 + number_of_kind q.kind) * ply_values + q.plies) * ply_values + q.wide

-- keys that pass the equality test have the same number
pub same_number : (p q : Key) → same_key p q ≡ true → number_of p.question ≡ number_of q.question
same_number p q e = ap (λ (key : Key). number_of key.question) (same_key-is p q e)
