-- What a stone that is played reaches, counted up to two points.
use Rattle.std.specs.Prelude.{◌≡◌, ◌≢◌, ℕ, ◌*◌, ◌<◌, ◌==◌, Bool, true, false, IsTrue, List, if◌then◌else◌}
use Rattle.std.specs.Ordering.{nat_cmp}
use Rattle.std.specs.FinSet as set
use Rattle.go_rules.specs.declared.Cell.{Cell}
use Rattle.go_rules.specs.declared.Colour.{Colour}
use Rattle.go_rules.specs.Board.{are_neighbours}
use Rattle.go_rules.specs.Strings.{cell_at, IsLiberty}
use Rattle.go_rules.specs.Position.{stone_of}
use Rattle.read_rules.specs.Candidates.{IsEmptyNeighbour}
use Rattle.read_moves.specs.declared.reach.Reach.{Reach}
use Rattle.read_moves.specs.declared.reach.Reach.TheVariants.{Nothing, Only, More}

-- a point of P that is not p
pub record HasOther (P : ℕ → Type 0) (p : ℕ) : Type 0 where
  pub point : ℕ
  pub inside : P point
  pub other : point ≢ p

-- which points P has, counted up to two: none, p alone, or at least two
abbrev pub HasReach : (ℕ → Type 0) → Reach → Type 0
HasReach P Nothing = (x : ℕ) → P x → ⊥
HasReach P (Only p) = P p × ((x : ℕ) → P x → x ≡ p)
HasReach P More = (p : ℕ) → HasOther P p

-- the reach of two sets of points together, from the reach of each
abbrev pub together : Reach → Reach → Reach
together Nothing r = r
together (Only p) Nothing = Only p
together (Only p) (Only q) = if p == q then Only p else More
together (Only p) More = More
together More r = More

-- at least two points are reached
abbrev pub is_more : Reach → Bool
is_more Nothing = false
is_more (Only p) = false
is_more More = true

-- x is a member of the set, and it is not l
pub record IsOtherMember (points : set.FinSet nat_cmp) (l x : ℕ) : Type 0 where
  pub member : IsTrue (set.contains points x)
  pub other : x ≢ l

-- q is on the board and holds a stone of c, and x is a liberty of its string
pub record IsLibertyOf (s : ℕ) (cells : List Cell) (c : Colour) (q x : ℕ) : Type 0 where
  pub on_board : q < s * s
  pub stone : cell_at cells q ≡ stone_of c
  pub liberty : IsLiberty s cells q x

-- x is a liberty of the string of a stone of c at q, and it is not l
pub record IsOtherLibertyOf (s : ℕ) (cells : List Cell) (c : Colour) (l q x : ℕ) : Type 0 where
  pub its : IsLibertyOf s cells c q x
  pub other : x ≢ l

-- x is a liberty of the string of a stone of c that is next to l
pub record IsLibertyBeside (s : ℕ) (cells : List Cell) (c : Colour) (l x : ℕ) : Type 0 where
  pub q : ℕ
  pub beside : are_neighbours s l q ≡ true
  pub its : IsLibertyOf s cells c q x

-- x is reached by a stone of c that is played at l: x is an empty neighbour of l, or a liberty other than l of a string
-- of c next to l
pub data IsReached (s : ℕ) (cells : List Cell) (c : Colour) (l x : ℕ) : Type 0 where
  by_side : IsEmptyNeighbour s cells l x → IsReached s cells c l x
  by_string : IsLibertyBeside s cells c l x → x ≢ l → IsReached s cells c l x

-- what a stone of c at l reaches: nothing, p alone, or at least two points
abbrev pub Reaches : ℕ → List Cell → Colour → ℕ → Reach → Type 0
Reaches s cells c l = HasReach (IsReached s cells c l)
