-- Which facts are among the recorded facts of a reading.
use Rattle.std.specs.Prelude.{◌≡◌, ◌⊎◌, ℕ, ◌*◌, ◌<◌, ◌==◌, ◌&&◌, ◌||◌, Bool, true, false, nat_lt, IsTrue, List, Option}
use Rattle.go_rules.specs.declared.Cell.{Cell}
use Rattle.go_rules.specs.declared.Cell.TheVariants.{Empty, Black, White}
use Rattle.go_rules.specs.declared.Colour.{Colour}
use Rattle.go_rules.specs.declared.Colour.TheVariants.{Black as black, White as white}
use Rattle.go_rules.specs.Strings.{cell_at}
use Rattle.go_rules.specs.Position.{BoardState, is_banned}
use Rattle.go_base.specs.declared.facts.Facts.{Facts}
use Rattle.go_base.specs.Bits.{is_marked}
use Rattle.go_base.specs.Facts.{Fact, SizeIs, CellIs, BanIs}

-- the bits of the points where the cell was seen
abbrev pub seen_as : Facts → Cell → List ℕ
seen_as f Empty = f.empty
seen_as f Black = f.black
seen_as f White = f.white

-- the bits of the points where it was asked whether the ban forbids the colour to play
abbrev pub asked_of : Facts → Colour → List ℕ
asked_of f black = f.asked_of_black
asked_of f white = f.asked_of_white

-- the two are both true or both false
abbrev pub same_bool : Bool → Bool → Bool
same_bool true b = b
same_bool false true = false
same_bool false false = true

-- the fact is among the recorded facts f
abbrev pub told : Facts → Fact → Bool
told f (SizeIs n) = f.size == n
told f (CellIs p cell) = nat_lt p (f.size * f.size) && is_marked (seen_as f cell) p
told f (BanIs p c forbidden) =
    nat_lt p (f.size * f.size) && (is_marked (asked_of f c) p && same_bool (is_banned f.ban c p) forbidden)

-- new has the facts of old and the fact that the cell stands at p, and no other
pub record SeesCell (old new : Facts) (p : ℕ) (cell : Cell) : Type 0 where
  pub size : new.size ≡ old.size
  pub ban : new.ban ≡ old.ban
  pub here : is_marked (seen_as new cell) p ≡ true
  pub kept : (x : Cell) (q : ℕ) → is_marked (seen_as old x) q ≡ true → is_marked (seen_as new x) q ≡ true
  pub only : (x : Cell) (q : ℕ) → is_marked (seen_as new x) q ≡ true
      → (is_marked (seen_as old x) q ≡ true) ⊎ ((q ≡ p) × (x ≡ cell))
  pub bans : (c : Colour) → asked_of new c ≡ asked_of old c

-- new has the facts of old and the record that it was asked whether the ban forbids c to play at p, and no other
pub record AsksBan (old new : Facts) (p : ℕ) (c : Colour) : Type 0 where
  pub size : new.size ≡ old.size
  pub ban : new.ban ≡ old.ban
  pub here : is_marked (asked_of new c) p ≡ true
  pub kept : (k : Colour) (q : ℕ) → is_marked (asked_of old k) q ≡ true → is_marked (asked_of new k) q ≡ true
  pub only : (k : Colour) (q : ℕ) → is_marked (asked_of new k) q ≡ true
      → (is_marked (asked_of old k) q ≡ true) ⊎ ((q ≡ p) × (k ≡ c))
  pub cells : (cell : Cell) → seen_as new cell ≡ seen_as old cell

-- each marked point of the board of pos holds the cell
abbrev pub AllShow : List ℕ → Cell → BoardState → Type 0
AllShow points cell pos = (q : ℕ) → q < pos.size * pos.size → IsTrue (is_marked points q) → cell_at pos.cells q ≡ cell

-- at each marked point of the board, the ban of pos forbids c to play exactly if the other ban does
abbrev pub BanStays : List ℕ → Option (ℕ × Colour) → Colour → BoardState → Type 0
BanStays points ban c pos =
    (q : ℕ) → q < pos.size * pos.size → IsTrue (is_marked points q) → is_banned pos.ban c q ≡ is_banned ban c q

-- the fact is about p; a size is about no point
abbrev pub IsOf : ℕ → Fact → Type 0
IsOf p (SizeIs n) = ⊥
IsOf p (CellIs q cell) = q ≡ p
IsOf p (BanIs q c forbidden) = q ≡ p

-- some fact of f is about p
abbrev pub HasFactOf : Facts → ℕ → Type 0
HasFactOf f p = (fact : Fact) × IsTrue (told f fact) × IsOf p fact

-- the bits of some fact mark q
abbrev pub is_fact_at : Facts → ℕ → Bool
is_fact_at f q =
    (is_marked (seen_as f Empty) q || (is_marked (seen_as f Black) q || is_marked (seen_as f White) q))
    || (is_marked (asked_of f black) q || is_marked (asked_of f white) q)
