-- A board with a cell for each point of the largest board.
use Rattle.std.specs.Prelude.{◌≡◌, ℕ, ◌*◌, ◌≤◌, List, length, take, drop, refl}
use Rattle.std.proofs.Common.{sym, subst, ◌∙◌, arith, length-take}
use Rattle.std.proofs.lemmas.Nat.{mul-le}
use Rattle.go_rules.specs.Board.{largest_size, largest_points}
use Rattle.go_rules.specs.declared.Cell.{Cell}
use Rattle.go_base.specs.declared.view.Flat.{Flat}

-- new has the size of old, as many cells, and the same cells past the board
pub record KeepsRest (old new : Flat) : Type 0 where
  pub size : new.size ≡ old.size
  pub length : length new.cells ≡ length old.cells
  pub rest : drop (old.size * old.size) new.cells ≡ drop (old.size * old.size) old.cells

-- a board that does not change keeps its size and the cells past the board
pub KeepsRest-refl : (v : Flat) → KeepsRest v v
KeepsRest-refl v = record { size = refl; length = refl; rest = refl }

-- what each of two steps keeps, both together keep
pub KeepsRest-trans : (u v w : Flat) → KeepsRest u v → KeepsRest v w → KeepsRest u w
KeepsRest-trans u v w a b = record {
  size = b.size ∙ a.size;
  length = b.length ∙ a.length;
  rest = subst (λ n. drop (n * n) w.cells ≡ drop (n * n) v.cells) a.size b.rest ∙ a.rest;
}

-- if v has a cell for each point of the largest board and is no larger, so had u, from which v came
pub KeepsRest-back : (u v : Flat) → KeepsRest u v → (length v.cells ≡ largest_points) × (v.size ≤ largest_size)
    → (length u.cells ≡ largest_points) × (u.size ≤ largest_size)
KeepsRest-back u v a b = (sym a.length ∙ b.0, subst (λ n. n ≤ largest_size) a.size b.1)

-- the board has exactly one cell for each of its points
pub flat_whole : (v : Flat) → (length v.cells ≡ largest_points) × (v.size ≤ largest_size)
    → length (take (v.size * v.size) v.cells) ≡ v.size * v.size
flat_whole v a =
    let small : v.size * v.size ≤ largest_points = mul-le v.size v.size largest_size largest_size a.1 a.1 in
    length-take' (v.size * v.size) v.cells (subst (λ n. v.size * v.size ≤ n) (sym a.0) small)
  where
    length-take' : (n : ℕ) (xs : List Cell) → n ≤ length xs → length (take n xs) ≡ n
    length-take' n xs h = simp length-take (omega (arith, h))
