-- A turn whose target has too many liberties is lost for the attacker under every allowance; else its nodes are
-- undecided.
use Rattle.std.proofs.Common.{◌≡◌, ℕ, ◌*◌, ◌<◌, true, false, arith}
use Rattle.go_rules.specs.Strings.{liberties}
use Rattle.go_rules.specs.Position.{BoardState}
use Rattle.read_rules.specs.ActiveArea.{IsUndecided}
use Rattle.read_rules.specs.Bound.{outlasts_at}
use Rattle.read_rules.specs.GameTree.{is_captured, attacker_wins}
use Rattle.read_rules.proofs.LibertyLemmas.{bounded, many_outlasts}
use Rattle.read_rules.specs.declared.turn.Turn.{Turn}
use Rattle.read_tree.specs.Allowances.{Ko, under}

-- The same at a turn, on a board of size s.
module _ (n : ℕ) (turn : Turn) (here : BoardState) (s : ℕ) (size : here.size ≡ s) where
  -- with too many liberties the attacker does not win under any allowance
  pub bounded_at : turn.target < s * s
      → outlasts_at turn n (liberties s here.cells turn.target) ≡ true → (ko : Ko)
      → attacker_wins n (under turn ko) here ≡ false
  bounded_at on h ko = grind (arith, bounded)

  -- with fewer the node is undecided
  pub undecided_at : is_captured here turn.target ≡ false
      → outlasts_at turn n (liberties s here.cells turn.target) ≡ false → (ko : Ko)
      → IsUndecided (under turn ko) here
  undecided_at stands h ko = grind (arith, many_outlasts)
