-- The fewest plies with which a question attains a code.
use Rattle.std.specs.Prelude.{ℕ, ◌+◌, ◌<◌, ◌≤◌, Option, Some, None}
use Rattle.go_rules.specs.Position.{BoardState}
use Rattle.read_rules.specs.declared.question.ReadingQuestion.{ReadingQuestion}
use Rattle.read_rules.specs.Answer.{answer_of}

-- the question q with n plies in place of its own
abbrev pub with_plies : ReadingQuestion → ℕ → ReadingQuestion
with_plies q n = record {
  tree = q.tree;
  size = q.size;
  kind = q.kind;
  target = q.target;
  colour = q.colour;
  plies = n;
  wide = q.wide;
}

-- the code that the question has on the position with n plies
abbrev pub code_with : ReadingQuestion → BoardState → ℕ → ℕ
code_with q pos n = (answer_of (with_plies q n) pos).code

-- with each number of plies from 1 to n - 1 the question has a smaller code
abbrev pub HasLessBelow : ReadingQuestion → BoardState → ℕ → ℕ → Type 0
HasLessBelow q pos code n = (m : ℕ) → 0 < m → m < n → code_with q pos m < code

-- n is the smallest number of plies, from 1 to those of the question, with which it has this code or a greater one; or
-- there is no such number, and with each of them it has a smaller code
abbrev pub AreFewest : ReadingQuestion → BoardState → ℕ → Option ℕ → Type 0
AreFewest q pos code (Some n) =
    (0 < n) × (n ≤ q.plies) × (code ≤ code_with q pos n) × HasLessBelow q pos code n
AreFewest q pos code None = HasLessBelow q pos code (q.plies + 1)
