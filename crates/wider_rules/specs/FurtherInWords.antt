-- The further sets of candidates in words: by strings, liberties and neighbours.
use Rattle.std.specs.Prelude.{◌≡◌, ℕ, ◌*◌, ◌<◌, ◌≤◌, Bool, true, false, List}
use Rattle.go_rules.specs.declared.Cell.{Cell}
use Rattle.go_rules.specs.declared.Cell.TheVariants.{Empty}
use Rattle.go_rules.specs.Board.{are_neighbours}
use Rattle.go_rules.specs.Strings.{cell_at, liberties, IsInString, IsLiberty}
use Rattle.go_rules.specs.BesideStrings.{is_enemy}
use Rattle.wider_rules.specs.Cramped.{is_cramped}

-- the target has exactly three liberties, l is one of them, and p is an empty neighbour of l
pub record IsNetAt (s : ℕ) (cells : List Cell) (target l p : ℕ) : Type 0 where
  pub three : liberties s cells target ≡ 3
  pub liberty : IsLiberty s cells target l
  pub on_board : p < s * s
  pub is_empty : cell_at cells p ≡ Empty
  pub beside : are_neighbours s l p ≡ true

-- q is a point of the board with a stone of the other colour than the stone at p, and q is a neighbour of some stone of
-- the string of p
pub record IsEnemyBeside (s : ℕ) (cells : List Cell) (p q : ℕ) : Type 0 where
  pub on_board : q < s * s
  pub enemy : is_enemy (cell_at cells p) (cell_at cells q) ≡ true
  pub beside : (x : ℕ) × IsInString s cells p x × (are_neighbours s x q ≡ true)

-- q is an enemy stone next to the target's string, and the string of q has at most `most` liberties
pub record IsWeakEnemy (most s : ℕ) (cells : List Cell) (target q : ℕ) : Type 0 where
  pub enemy : IsEnemyBeside s cells target q
  pub few : liberties s cells q ≤ most

-- the string of r is in atari, and p is its last liberty
pub record IsLastAt (s : ℕ) (cells : List Cell) (r p : ℕ) : Type 0 where
  pub in_atari : liberties s cells r ≡ 1
  pub last : IsLiberty s cells r p

-- q is an enemy stone next to the target's string, and its string has at most `most` liberties; r is a stone of the
-- other colour than q next to the string of q, and it belongs to another string than the target's
pub record IsAlly (most s : ℕ) (cells : List Cell) (target q r : ℕ) : Type 0 where
  pub weak : IsWeakEnemy most s cells target q
  pub beside_weak : IsEnemyBeside s cells q r
  pub other : IsInString s cells target r → ⊥

-- l is a liberty of the target; q is a neighbour of l, holds the target's colour, and belongs to another string than
-- the target's; the string of q has at most `most` liberties
pub record IsLinkedAt (most s : ℕ) (cells : List Cell) (target l q : ℕ) : Type 0 where
  pub liberty : IsLiberty s cells target l
  pub on_board : q < s * s
  pub beside : are_neighbours s l q ≡ true
  pub same : cell_at cells q ≡ cell_at cells target
  pub other : IsInString s cells target q → ⊥
  pub few : liberties s cells q ≤ most

-- q is an enemy stone next to the target's string, and its string has two or three liberties; l is one of these
-- liberties, and p is an empty neighbour of l
pub record IsCoveredAt (s : ℕ) (cells : List Cell) (target q l p : ℕ) : Type 0 where
  pub weak : IsWeakEnemy 3 s cells target q
  pub two : 2 ≤ liberties s cells q
  pub liberty : IsLiberty s cells q l
  pub on_board : p < s * s
  pub is_empty : cell_at cells p ≡ Empty
  pub beside : are_neighbours s l p ≡ true

-- q is an enemy stone next to the target's string, and its string has at most two liberties; l is one of these
-- liberties, and a stone of the target's colour at l would be cramped; r is an enemy stone of the target next to l, its
-- string has at most two liberties, and p is one of them
pub record IsApproachAt (s : ℕ) (cells : List Cell) (target q l r p : ℕ) : Type 0 where
  pub weak : IsWeakEnemy 2 s cells target q
  pub liberty : IsLiberty s cells q l
  pub cramped : is_cramped s cells (cell_at cells target) l ≡ true
  pub on_board : r < s * s
  pub enemy : is_enemy (cell_at cells target) (cell_at cells r) ≡ true
  pub beside : are_neighbours s l r ≡ true
  pub few : liberties s cells r ≤ 2
  pub its : IsLiberty s cells r p

-- p is a further candidate for the target: at the attacker's turn or the defender's, and with a wide ply left or not
pub data IsFurther (wide attacker_to_play : Bool) (s : ℕ) (cells : List Cell) (target p : ℕ) : Type 0 where
  strengthens : attacker_to_play ≡ true → (q : ℕ) → IsWeakEnemy 2 s cells target q → IsLiberty s cells q p
      → IsFurther wide attacker_to_play s cells target p
  rescues : attacker_to_play ≡ true → (q r : ℕ) → IsAlly 2 s cells target q r → IsLastAt s cells r p
      → IsFurther wide attacker_to_play s cells target p
  saves : attacker_to_play ≡ false → (q r : ℕ) → IsAlly 2 s cells target q r → IsLastAt s cells r p
      → IsFurther wide attacker_to_play s cells target p
  cuts : attacker_to_play ≡ false → (l q r : ℕ) → IsLinkedAt 4 s cells target l q → IsEnemyBeside s cells q r
      → IsLastAt s cells r p → IsFurther wide attacker_to_play s cells target p
  nets : wide ≡ true → attacker_to_play ≡ true → (l : ℕ) → IsNetAt s cells target l p
      → IsFurther wide attacker_to_play s cells target p
  links : wide ≡ true → attacker_to_play ≡ true → (l q : ℕ) → IsLinkedAt 2 s cells target l q
      → IsLiberty s cells q p → IsFurther wide attacker_to_play s cells target p
  presses : wide ≡ true → attacker_to_play ≡ false → (q : ℕ) → IsWeakEnemy 4 s cells target q
      → IsLiberty s cells q p → IsFurther wide attacker_to_play s cells target p
  joins : wide ≡ true → attacker_to_play ≡ false → (l q : ℕ) → IsLinkedAt 4 s cells target l q
      → IsLiberty s cells q p → IsFurther wide attacker_to_play s cells target p
  covers : wide ≡ true → attacker_to_play ≡ false → (q l : ℕ) → IsCoveredAt s cells target q l p
      → IsFurther wide attacker_to_play s cells target p
  approaches : wide ≡ true → attacker_to_play ≡ false → (q l r : ℕ) → IsApproachAt s cells target q l r p
      → IsFurther wide attacker_to_play s cells target p
