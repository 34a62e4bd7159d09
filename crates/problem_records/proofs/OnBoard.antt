-- The moves that words say are on the board.
use Rattle.std.proofs.Common.{◌≡◌, ℕ, ◌-◌, ◌*◌, ◌<◌, ◌≤◌, Bool, true, false, cond, ltb, leb, ◌&&◌, List}
use Rattle.std.proofs.Common.{[], ◌∷◌, Option, Some, None, IfSome, refl, sym, subst, arith}
use Rattle.std.specs.Option.{option_map}
use Rattle.std.specs.Str.{bytes_eq, str_to_ascii_lowercase}
use Rattle.std.specs.Prelude.{codes}
use Rattle.std.proofs.lemmas.Nat.{mul-add-lt}
use Rattle.std.proofs.lemmas.Bool.Decides.{nat_tests}
use Rattle.go_rules.specs.Board.{point_at}
use Rattle.vertices.specs.Vertices.{vertex_of, point_of, column_named, row_number_of, target_of}
use Rattle.problem_records.specs.Problems.{IsMoveBelow}

-- a column of the board and the number of a row of it have a point of the board
point_below : (s number column : ℕ) → 1 ≤ number → number ≤ s → column < s → point_at s (s - number, column) < s * s
point_below s number column some within on_board = mul-add-lt (s - number) s column s (omega arith) on_board

-- the point of a column and of a row's number, where a test finds both on the board, is on the board
point_tested : (s column number : ℕ) (b : Bool) → (ltb column s && (leb 1 number && leb number s)) ≡ b
    → IsMoveBelow (s * s) (cond b (Some (point_at s (s - number, column))) None)
point_tested s column number false test = tt
point_tested s column number true test =
    point_below s number column (grind (arith, nat_tests)) (grind (arith, nat_tests)) (grind (arith, nat_tests))

-- the point of a column and a row number is on the board
point_within : (s : ℕ) (column number : Option ℕ) → IsMoveBelow (s * s) (point_of s column number)
point_within s None number = tt
point_within s (Some column) None = tt
point_within s (Some column) (Some number) =
    point_tested s column number (ltb column s && (leb 1 number && leb number s)) refl

-- a vertex is on the board
vertex_within : (s : ℕ) (word : List ℕ) → IsMoveBelow (s * s) (vertex_of s word)
vertex_within s [] = tt
vertex_within s (letter ∷ digits) = point_within s (column_named letter) (row_number_of digits)

-- a point, if there is one, is a move
as_move : (n : ℕ) (at : Option ℕ) → IsMoveBelow n at → IfSome (option_map Some at) (IsMoveBelow n)
as_move n None h = tt
as_move n (Some p) h = h

-- the move that a word says is on the board
target_within : (s : ℕ) (word : List ℕ) → IfSome (target_of s word) (IsMoveBelow (s * s))
target_within s word =
    elim (bytes_eq (str_to_ascii_lowercase word) (codes "pass"))
    as (λ b. IfSome (cond b (Some None) (option_map Some (vertex_of s word))) (IsMoveBelow (s * s))) [
      | true ↦ tt
      | false ↦ as_move (s * s) (vertex_of s word) (vertex_within s word)
    ]

-- below a number is below a greater one
below_more : (m n : ℕ) (at : Option ℕ) → m ≤ n → IsMoveBelow m at → IsMoveBelow n at
below_more m n None less h = tt
below_more m n (Some p) less h = omega (arith, less, h)

-- a move that is perhaps said and is below a number is below a greater one
pub all_below_more : (m n : ℕ) (said : Option (Option ℕ)) → m ≤ n → IfSome said (IsMoveBelow m)
    → IfSome said (IsMoveBelow n)
all_below_more m n None less h = tt
all_below_more m n (Some at) less h = below_more m n at less h

-- the move that a word says is below as many points as there are
target_below : (s n : ℕ) (word : List ℕ) → s * s ≤ n → IfSome (target_of s word) (IsMoveBelow n)
target_below s n word less = all_below_more (s * s) n (target_of s word) less (target_within s word)

-- what is known to be the move that a word says is below as many points as there are
pub said_below : (s n : ℕ) (word : List ℕ) (said : Option (Option ℕ)) → said ≡ target_of s word → s * s ≤ n
    → IfSome said (IsMoveBelow n)
said_below s n word said is less =
    subst (λ (at : Option (Option ℕ)). IfSome at (IsMoveBelow n)) (sym is) (target_below s n word less)
