-- The candidates off the liberties of the target, by stages.
use Rattle.std.specs.Prelude.{ℕ, ◌&&◌, ◌||◌, Bool, not}
use Rattle.go_rules.specs.Strings.{is_liberty}
use Rattle.go_rules.specs.Position.{BoardState}
use Rattle.go_base.specs.Surroundings.{is_last_liberty_of_enemy}
use Rattle.read_rules.specs.Stages.{is_later_candidate}
use Rattle.read_rules.specs.declared.turn.Turn.{Turn}

-- p is the last liberty of an enemy string next to the target, and no liberty of the target
abbrev pub is_capture : BoardState → ℕ → ℕ → Bool
is_capture here target p =
    is_last_liberty_of_enemy here.size here.cells target p && not (is_liberty here.size here.cells target p)

-- p is a later candidate at the turn that is neither a liberty of the target nor a capture
abbrev pub is_other : Turn → BoardState → ℕ → Bool
is_other turn here p =
    is_later_candidate turn here p
    && not (is_liberty here.size here.cells turn.target p) && not (is_capture here turn.target p)

-- p is a capture or a liberty of the target
abbrev pub is_capture_or_liberty : BoardState → ℕ → ℕ → Bool
is_capture_or_liberty here target p = is_capture here target p || is_liberty here.size here.cells target p
