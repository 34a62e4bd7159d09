-- The enemy strings next to a point, side by side: whether they live.
use Rattle.std.proofs.Common.{◌≡◌, ℕ, ◌+◌, ◌*◌, ◌<◌, ◌≤◌, true, List, Some, sym, ap, arith, inl, inr, ◌∙◌}
use Rattle.std.proofs.lemmas.Bool.{cases_eq}
use Rattle.go_rules.specs.declared.Cell.{Cell}
use Rattle.go_rules.specs.declared.Colour.{Colour}
use Rattle.go_rules.specs.Board.{are_neighbours}
use Rattle.go_base.specs.Sides.{neighbour_at}
use Rattle.go_base.proofs.SidesOfPoints.{neighbour_at-all}
use Rattle.read_moves.specs.Steps.{LivesWithout}

module _ (s : ℕ) (cells : List Cell) (c : Colour) (l : ℕ) where
  -- the enemy strings at the first n sides live
  abbrev pub LiveAtSides : ℕ → Type 0
  LiveAtSides n = (side : ℕ) → side < n → (q : ℕ) → neighbour_at s l side ≡ Some q → LivesWithout s cells c l q

  -- one more lives, or is off the board
  pub LiveAtSides-next : (n : ℕ) → LiveAtSides n → ((q : ℕ) → neighbour_at s l n ≡ Some q → LivesWithout s cells c l q)
      → LiveAtSides (n + 1)
  LiveAtSides-next n h one side below q at = elim (cases_eq side n) [
    | inl e ↦ one q (ap (neighbour_at s l) (sym e) ∙ at)
    | inr ne ↦ h side (omega arith) q at
  ]

  -- all four sides were visited
  pub LiveAtSides-all : (n : ℕ) → LiveAtSides n → l < s * s → 4 ≤ n → (q : ℕ) → q < s * s
      → are_neighbours s l q ≡ true → LivesWithout s cells c l q
  LiveAtSides-all n h on four q q_on near =
      let side = neighbour_at-all s l q on q_on near in
      h side.0 (omega (arith, side.1, four)) q side.2
