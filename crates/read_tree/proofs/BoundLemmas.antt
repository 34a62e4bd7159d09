-- A search for the target's liberties that ends where it has seen too many.
use Rattle.std.proofs.Common.{◌≡◌, ℕ, List, ltb, arith}
use Rattle.std.proofs.lemmas.Bool.{both_ways, cases_lt, lt-ltb}
use Rattle.std.specs.Ordering.{nat_cmp}
use Rattle.std.specs.FinSet as set
use Rattle.go_rules.specs.declared.Cell.{Cell}
use Rattle.go_rules.specs.Strings.{liberty_points}
use Rattle.go_base.proofs.Liberties.{len-liberty_points}
use Rattle.trial_board.specs.SomeLiberties.{FindsLiberties}
use Rattle.read_rules.specs.Bound.{outlasts_at}
use Rattle.read_rules.specs.declared.turn.Turn.{Turn}
use Rattle.read_tree.specs.Steps.{TellsLiberties}

-- all liberties tell whether they are too many
pub TellsLiberties-all : (turn : Turn) (n s : ℕ) (cells : List Cell) (found : set.FinSet nat_cmp)
    → found ≡ liberty_points s cells turn.target → TellsLiberties turn n s cells found
TellsLiberties-all turn n s cells found is = grind (arith, len-liberty_points)

-- and so do those that a search finds which ends where it has seen more than the most that are not too many
pub TellsLiberties-most : (turn : Turn) (n most s : ℕ) (cells : List Cell) (found : set.FinSet nat_cmp)
    → ((l : ℕ) → outlasts_at turn n l ≡ ltb most l)
    → FindsLiberties s cells turn.target most found → TellsLiberties turn n s cells found
TellsLiberties-most turn n most s cells found bound finds =
    grind (arith, cases_lt, lt-ltb, both_ways, TellsLiberties-all)
