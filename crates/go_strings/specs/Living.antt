-- Whether a stone that is put on an empty point lives, and what its sides have to do with it.
use Rattle.std.specs.Prelude.{◌≡◌, ℕ, ◌⊎◌, true, false, List, slice_set}
use Rattle.std.specs.FinSet as set
use Rattle.go_rules.specs.declared.Cell.{Cell}
use Rattle.go_rules.specs.declared.Colour.{Colour}
use Rattle.go_rules.specs.Strings.{cell_at, is_stone, liberty_points}
use Rattle.go_rules.specs.Play.{is_taken, taken_at}
use Rattle.go_rules.specs.Position.{stone_of}
use Rattle.go_base.specs.Takes.{TakenBeside}
use Rattle.go_strings.specs.Sets.{without}

-- the stone of c that is put at p has a liberty, or takes a stone
abbrev pub IsAlive : ℕ → List Cell → Colour → ℕ → Type 0
IsAlive s cells c p = ((l : ℕ) × (set.contains (liberty_points s (slice_set cells p (stone_of c)) p) l ≡ true))
    ⊎ ((q : ℕ) × (set.contains (taken_at s (slice_set cells p (stone_of c)) c) q ≡ true))

-- the stone that c puts at p has no liberty, and it takes no stone if each taken stone is joined to a taken neighbour
-- of p
pub record IsDead (s : ℕ) (cells : List Cell) (c : Colour) (p : ℕ) : Type 0 where
  pub no_liberty : liberty_points s (slice_set cells p (stone_of c)) p ≡ set.empty
  pub none_taken : TakenBeside s (slice_set cells p (stone_of c)) c p
      → taken_at s (slice_set cells p (stone_of c)) c ≡ set.empty

-- q, a neighbour of p, gives the stone at p no life: q holds a stone, a friend at q has no liberty but p, and the stone
-- at q is not taken
pub record IsDeadSide (s : ℕ) (cells : List Cell) (c : Colour) (p q : ℕ) : Type 0 where
  pub stone : is_stone (cell_at cells q) ≡ true
  pub no_other : cell_at cells q ≡ stone_of c → without (liberty_points s cells q) p ≡ set.empty
  pub stays : is_taken s (slice_set cells p (stone_of c)) c q ≡ false
