-- One step of a flood, what a whole flood finds, and what a search finds that stops once it sees many liberties.
use Rattle.std.specs.Prelude.{◌≡◌, ℕ, ◌+◌, ◌*◌, ◌<◌, ◌≤◌, ◌⊎◌, ◌&&◌, Bool, true, List, Some, if◌then◌else◌}
use Rattle.std.specs.Ordering.{nat_cmp}
use Rattle.std.specs.FinSet as set
use Rattle.go_rules.specs.declared.Cell.{Cell}
use Rattle.go_rules.specs.declared.Cell.TheVariants.{Empty}
use Rattle.go_rules.specs.Board.{are_neighbours}
use Rattle.go_rules.specs.Below.{set_below}
use Rattle.go_rules.specs.Strings.{cell_at, same_cell, string_at, liberty_points, liberties as liberties_at}
use Rattle.go_rules.specs.BesideStrings.{is_enemy, is_beside_string}
use Rattle.go_base.specs.Sides.{neighbour_at}
use Rattle.go_base.specs.declared.flood.Found.{Found}
use Rattle.go_base.specs.declared.flood.Searched.{Searched}

-- new has the points of old and each neighbour of q on its first n sides whose cell passes the test; each point that
-- came is a neighbour of q whose cell passes
pub record Gathers (s : ℕ) (cells : List Cell) (test : Cell
    → Bool) (q n : ℕ) (old new : set.FinSet nat_cmp) : Type 0 where
  pub kept : (r : ℕ) → set.contains old r ≡ true → set.contains new r ≡ true
  pub all : (side : ℕ) → side < n → (r : ℕ) → neighbour_at s q side ≡ Some r → test (cell_at cells r) ≡ true
      → set.contains new r ≡ true
  pub only : (r : ℕ) → set.contains new r ≡ true
      → (set.contains old r ≡ true) ⊎ ((r < s * s) × (are_neighbours s q r ≡ true) × (test (cell_at cells r) ≡ true))

-- stones came to old, each of them on the board and now waiting; as many points came to wait, each of them a stone of
-- new; no point left either set
pub record Finds (s : ℕ) (old new wait waits : set.FinSet nat_cmp) : Type 0 where
  pub kept : (r : ℕ) → set.contains old r ≡ true → set.contains new r ≡ true
  pub on_board : (r : ℕ) → set.contains new r ≡ true → (set.contains old r ≡ true) ⊎ (r < s * s)
  pub still : (r : ℕ) → set.contains wait r ≡ true → set.contains waits r ≡ true
  pub fresh : (r : ℕ) → set.contains new r ≡ true → (set.contains old r ≡ true) ⊎ (set.contains waits r ≡ true)
  pub among : (r : ℕ) → set.contains waits r ≡ true → (set.contains wait r ≡ true) ⊎ (set.contains new r ≡ true)
  pub count : (n : ℕ) × (set.len new ≡ set.len old + n) × (set.len waits ≡ set.len wait + n)

-- what a search found so far, and the enemies that it met
abbrev pub with_enemies : Searched → set.FinSet nat_cmp → Found
with_enemies found met = record { stones = found.stones; liberties = found.liberties; enemies = met }

-- the cell is an enemy of own, and enemies are asked for
abbrev pub is_asked_enemy : Bool → Cell → Cell → Bool
is_asked_enemy asked own cell = asked && is_enemy own cell

-- a flood over stones like own came to r, which holds the cell: a stone like own goes to the stones, an empty point to
-- the liberties, and an enemy to the enemies if these are asked for
pub record Visits (asked : Bool) (own cell : Cell) (r : ℕ) (old new : Found) : Type 0 where
  pub stones : new.stones ≡ (if same_cell cell own then set.insert old.stones r else old.stones)
  pub liberties : new.liberties ≡ (if same_cell cell Empty then set.insert old.liberties r else old.liberties)
  pub enemies : new.enemies ≡ (if is_asked_enemy asked own cell then set.insert old.enemies r else old.enemies)

-- a flood over stones like own visited the first n sides of q
pub record SpreadsOut (asked : Bool) (s : ℕ) (cells : List Cell) (own : Cell) (q n : ℕ) (old new : Found) : Type 0 where
  pub stones : Gathers s cells (λ cell. same_cell cell own) q n old.stones new.stones
  pub liberties : Gathers s cells (λ cell. same_cell cell Empty) q n old.liberties new.liberties
  pub enemies : Gathers s cells (is_asked_enemy asked own) q n old.enemies new.enemies

-- a flood over stones like own visited sides of q: the first n of them, unless it saw more liberties than most
pub record SpreadsUnder (asked : Bool) (s : ℕ) (cells : List Cell) (own : Cell) (q n most : ℕ)
    (old new : Found) : Type 0 where
  pub sides : ℕ
  pub whole : set.len new.liberties ≤ most → sides ≡ n
  pub spreads : SpreadsOut asked s cells own q sides old new

-- the enemy stones next to the string of p
abbrev pub enemy_points : ℕ → List Cell → ℕ → set.FinSet nat_cmp
enemy_points s cells p = set_below (s * s)
    (λ q. is_beside_string s cells p q && is_enemy (cell_at cells p) (cell_at cells q))

-- what was found of the string of p by a search that stops once it sees more liberties than most: the string and its
-- liberties, or else some of its stones and more liberties than most
pub record Searches (s : ℕ) (cells : List Cell) (p most : ℕ) (found : Searched) : Type 0 where
  pub stones : set.len found.liberties ≤ most → found.stones ≡ string_at s cells p
  pub liberties : set.len found.liberties ≤ most → found.liberties ≡ liberty_points s cells p
  pub part : (q : ℕ) → set.contains found.stones q ≡ true → set.contains (string_at s cells p) q ≡ true
  pub more : most < set.len found.liberties → most < liberties_at s cells p

-- if a search saw no more liberties than most, it met all enemy stones next to the string of p and no others
abbrev pub FindsEnemies : ℕ → List Cell → ℕ → ℕ → Searched → set.FinSet nat_cmp → Type 0
FindsEnemies s cells p most found met = set.len found.liberties ≤ most → met ≡ enemy_points s cells p
