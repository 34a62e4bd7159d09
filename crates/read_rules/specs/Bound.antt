-- The bound on the target's liberties: a target with more is not captured, since the defender may pass, and an
-- attacker's play takes away at most one liberty.
use Rattle.std.specs.Prelude.{◌≡◌, ◌⊎◌, ℕ, ◌+◌, ◌-◌, ◌/◌, ◌<◌, Bool, true, false, ◌||◌, ◌==◌, nat_lt, if◌then◌else◌}
use Rattle.read_rules.specs.declared.tree.Tree.{Tree}
use Rattle.read_rules.specs.declared.turn.Turn.{Turn}
use Rattle.read_rules.specs.Trees.{most_narrow, most_few}

-- a target that is captured with k wide plies left has at most this many liberties: in the wider tree 4. In the stated
-- tree the attacker plays at a target with at most 4 liberties, or 2 if no wide ply is left; two plies later two wide
-- plies are gone, but at most one liberty
abbrev pub most_by_wide : Tree → ℕ → ℕ
most_by_wide tree k = if k == 0 then most_narrow tree else if nat_lt k 3 then most_few tree else 4

-- with n plies and k wide plies left in the tree, at the attacker's turn or the defender's, l liberties are too many:
-- they are more than half of the plies, rounded up at the attacker's turn and down at the defender's; or more than the
-- wide plies allow that are left at the attacker's turn, which comes after a pass if the defender is to play
unfoldable pub outlasts : Tree → Bool → ℕ → ℕ → ℕ → Bool
outlasts tree attacker n k l =
    if attacker then nat_lt ((n + 1) / 2) l || nat_lt (most_by_wide tree k) l
    else nat_lt (n / 2) l || nat_lt (most_by_wide tree (k - 1)) l

-- with n plies left at the turn, a target with l liberties has too many
abbrev pub outlasts_at : Turn → ℕ → ℕ → Bool
outlasts_at turn n l = outlasts turn.tree turn.attacker_to_play n turn.wide l

-- The bound in words.

-- l liberties are more than the attacker can play at with k wide plies left: more than 4; or in the stated tree more
-- than 3 with at most two wide plies, or more than 2 with none
pub data IsTooWide (tree : Tree) (k l : ℕ) : Type 0 where
  over_four : 4 < l → IsTooWide tree k l
  few_left : k < 3 → most_few tree < l → IsTooWide tree k l
  none_left : k ≡ 0 → most_narrow tree < l → IsTooWide tree k l

-- with n plies and k wide plies left in the tree, at the attacker's turn or the defender's, l liberties are too many:
-- they are more than half of the plies, rounded up at the attacker's turn and down at the defender's, or more than the
-- attacker can play at with the wide plies that are left at his turn
abbrev pub IsTooMany : Tree → Bool → ℕ → ℕ → ℕ → Type 0
IsTooMany tree true n k l = ((n + 1) / 2 < l) ⊎ IsTooWide tree k l
IsTooMany tree false n k l = (n / 2 < l) ⊎ IsTooWide tree (k - 1) l
