-- The candidates by stages: the liberties of the target and the last liberties of enemy strings next to it come first,
-- and the later candidates, which this file defines, come last.
use Rattle.std.specs.Prelude.{ℕ, ◌&&◌, ◌||◌, Bool, nat_lt}
use Rattle.go_rules.specs.Strings.{is_liberty, liberties}
use Rattle.go_rules.specs.Position.{BoardState}
use Rattle.wider_rules.specs.Further.{is_further}
use Rattle.read_rules.specs.declared.turn.Turn.{Turn}
use Rattle.read_rules.specs.Trees.{is_wider}
use Rattle.read_rules.specs.Candidates.{is_empty_beside, is_backfilling}

-- p is an empty neighbour of a liberty of the target, which has at most two; or a backfilling move
unfoldable pub is_wide_by_liberties : BoardState → ℕ → ℕ → Bool
is_wide_by_liberties pos target p =
    (nat_lt (liberties pos.size pos.cells target) 3
    && is_empty_beside pos.size pos.cells (is_liberty pos.size pos.cells target) p)
    || is_backfilling pos target p

-- p is a later candidate: if a wide ply is left, a wide candidate by the target's liberties; in the wider tree also a
-- further candidate of the side to play
unfoldable pub is_later_candidate : Turn → BoardState → ℕ → Bool
is_later_candidate turn pos p =
    (nat_lt 0 turn.wide && is_wide_by_liberties pos turn.target p)
    || (is_wider turn.tree
    && is_further (nat_lt 0 turn.wide) turn.attacker_to_play pos.size pos.cells turn.target p)

-- there may be later candidates at the turn: a wide ply is left, or the tree is the wider one
abbrev pub has_later_candidates : Turn → Bool
has_later_candidates turn = nat_lt 0 turn.wide || is_wider turn.tree
