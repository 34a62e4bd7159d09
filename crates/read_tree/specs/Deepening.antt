-- What a reading with fewer plies leaves open, so that it is read with all plies.
use Rattle.std.specs.Prelude.{◌≡◌, ℕ, true, false}
use Rattle.go_rules.specs.Position.{BoardState}
use Rattle.read_rules.specs.declared.turn.Turn.{Turn}
use Rattle.read_rules.specs.GameTree.{succeeds}
use Rattle.read_tree.specs.declared.allowances.Allowances.{Allowances}
use Rattle.read_tree.specs.Allowances.{Ko, under, has}

-- left is a part of asked; and under each allowance of asked that is not in left, the play at p succeeds if it is the
-- attacker's and fails if it is the defender's, with n plies left after it
pub record IsLeftOpen (n : ℕ) (turn : Turn) (here : BoardState) (p : ℕ) (asked left : Allowances) : Type 0 where
  pub asked_for : (ko : Ko) → has left ko ≡ true → has asked ko ≡ true
  pub closed : (ko : Ko) → has asked ko ≡ true → has left ko ≡ false
      → succeeds n (under turn ko) here p ≡ turn.attacker_to_play
