-- Positions that look the same at some points, and the replies that have to be read for a capture.
use Rattle.std.specs.Prelude.{◌≡◌, ℕ, Bool, true, false, Option, Some, None}
use Rattle.go_rules.specs.declared.Cell.TheVariants.{Empty}
use Rattle.go_rules.specs.declared.Colour.{Colour}
use Rattle.go_rules.specs.Strings.{cell_at}
use Rattle.go_rules.specs.Position.{BoardState, other, stone_of, is_banned}
use Rattle.go_rules.specs.Rules.{IsOnlyLiberty}
use Rattle.read_rules.specs.declared.node.Node.{Node}
use Rattle.read_rules.specs.Turns.{mover_of}
use Rattle.read_rules.specs.Candidates.{is_candidate}
use Rattle.sure_rules.specs.Nodes.{has_too_many}
use Rattle.sure_rules.specs.Zones.{WhereverAgrees}

-- at the points of Z both positions have the same cells, and the ko ban forbids the same plays
pub record AreAlike (Z : ℕ → Bool) (a b : BoardState) : Type 0 where
  pub cells : (q : ℕ) → Z q ≡ true → cell_at a.cells q ≡ cell_at b.cells q
  pub bans : (q : ℕ) (c : Colour) → Z q ≡ true → is_banned a.ban c q ≡ is_banned b.ban c q

-- on every position that agrees on the zone, the target has not too many liberties, and each of the points is a
-- candidate
abbrev pub AreCandidates : Node → BoardState → (ℕ → Bool) → (ℕ → Bool) → Type 0
AreCandidates node pos points zone = WhereverAgrees pos zone (λ here. (has_too_many node here ≡ false)
    × ((p : ℕ) → points p ≡ true → is_candidate node.turn here p ≡ true))

-- the replies include each empty point of Z, and the only liberty of each string in atari of the colour that is not to
-- play, if the string has a stone in Z
pub record IsGuarded (node : Node) (Z : ℕ → Bool) (here : BoardState) (replies : ℕ → Bool) : Type 0 where
  pub empty_points : (q : ℕ) → Z q ≡ true → cell_at here.cells q ≡ Empty → replies q ≡ true
  pub last_liberties : (q p : ℕ) → Z q ≡ true → cell_at here.cells q ≡ stone_of (other (mover_of node.turn))
      → IsOnlyLiberty here.size here.cells q p → replies p ≡ true

-- neither play can be made; or both can, and they lead to the same node and to positions of one size that are alike at
-- the points of Z
abbrev pub AreAlikeChildren : (ℕ → Bool) → Option (Node × BoardState) → Option (Node × BoardState) → Type 0
AreAlikeChildren Z None None = Unit {0}
AreAlikeChildren Z (Some a) (Some b) = (a.0 ≡ b.0) × (a.1.size ≡ b.1.size) × AreAlike Z a.1 b.1
AreAlikeChildren Z None (Some b) = ⊥
AreAlikeChildren Z (Some a) None = ⊥
