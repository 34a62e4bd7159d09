-- What is remembered about plays.
use Rattle.std.specs.Prelude.{◌≡◌, ℕ, true, false}
use Rattle.std.specs.FinSet as set
use Rattle.go_rules.specs.declared.Colour.{Colour}
use Rattle.go_rules.specs.Position.{BoardState}
use Rattle.cons_eval.specs.Readings.{Codes}
use Rattle.cons_eval.specs.Functions.{is_safe_move}
use Rattle.match_engine.specs.declared.plays.Plays.{Plays}

-- for each point that was asked about, plays has whether c's play there is legal and safe; for every other point it has
-- nothing
pub record Remembers (code : Codes) (board : BoardState) (c : Colour) (plays : Plays) : Type 0 where
  pub known : (q : ℕ) → set.contains plays.asked q ≡ true → set.contains plays.safe q ≡ is_safe_move code board c q
  pub no_other : (q : ℕ) → set.contains plays.asked q ≡ false → set.contains plays.safe q ≡ false
