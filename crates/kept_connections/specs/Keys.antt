-- Questions about connections as they are cached.
use Rattle.std.specs.Prelude.{◌≡◌, ℕ, ◌+◌, ◌*◌, ◌<◌, ◌≤◌, true, Bool}
use Rattle.std.proofs.Common.{ap, rules}
use Rattle.go_rules.specs.Position.{BoardState, stone_of}
use Rattle.go_rules.specs.Strings.{cell_at}
use Rattle.trial_board.specs.Trials.{most_moves}
use Rattle.connect_rules.specs.declared.question.Linkage.{Linkage}
use Rattle.connect_rules.specs.declared.question.LinkKind.{LinkKind}
use Rattle.connect_rules.specs.declared.question.LinkKind.TheVariants as kind
use Rattle.connect_rules.specs.declared.question.LinkQuestion.{LinkQuestion}
use Rattle.connect_rules.specs.Linkages.{linkage_of}
use Rattle.read_cache.specs.Digits.{point_values, ply_values}
use Rattle.kept_connections.specs.declared.key.LinkKey.{LinkKey}
use Rattle.kept_connections.specs.contracts.key.LinkKeyPartialEq.TheImpl.{ghosts}

-- the equality test of the code
abbrev pub same_key : LinkKey → LinkKey → Bool
same_key = ghosts.eq

-- questions that the test calls equal are equal
pub same_key-is : (p q : LinkKey) → same_key p q ≡ true → p ≡ q
same_key-is p q e = search rules

-- the answer to the question on a position
abbrev pub meaning_of : LinkKey → BoardState → Linkage
meaning_of key pos = linkage_of key.question pos

-- the question can be asked on the position: its size is that of the board, stones of its colour stand at both points,
-- and its plies are in range
pub record IsAbout (key : LinkKey) (pos : BoardState) : Type 0 where
  pub size : key.question.size ≡ pos.size
  pub a_on : key.question.a < pos.size * pos.size
  pub b_on : key.question.b < pos.size * pos.size
  pub a_stands : cell_at pos.cells key.question.a ≡ stone_of key.question.colour
  pub b_stands : cell_at pos.cells key.question.b ≡ stone_of key.question.colour
  pub some_plies : 1 ≤ key.question.plies
  pub few_plies : key.question.plies ≤ most_moves

-- the number of a kind of question
abbrev pub number_of_kind : LinkKind → ℕ
number_of_kind kind.Connect = 0
number_of_kind kind.Disconnect = 1

-- the number that a question is hashed as: its size, points, kind and plies, each in digits of its own
abbrev pub number_of : LinkQuestion → ℕ
number_of q =
    (((q.size * point_values + q.a) * point_values + q.b) * 2 + number_of_kind q.kind) * ply_values + q.plies

-- equal questions have the same number
pub same_number : (p q : LinkKey) → same_key p q ≡ true → number_of p.question ≡ number_of q.question
same_number p q e = ap (λ (key : LinkKey). number_of key.question) (same_key-is p q e)
