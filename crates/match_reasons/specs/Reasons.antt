-- Why a pattern does not match at a point under a transformation: the first part of the definition that fails.
use Rattle.std.specs.Prelude.{ℕ, Option, Some, None, option_map, Result, Ok, Err, if◌then◌else◌}
use Rattle.std.specs.List.{position_from}
use Rattle.std.specs.Option.{option_or}
use Rattle.go_rules.specs.declared.Colour.{Colour}
use Rattle.go_rules.specs.declared.Illegal.{Illegal}
use Rattle.go_rules.specs.Position.{BoardState, other}
use Rattle.go_rules.specs.Play.{play}
use Rattle.helpers.specs.Fields.{refuses}
use Rattle.pat_types.specs.declared.pattern.Pattern.{Pattern}
use Rattle.read_rules.specs.declared.depths.Depths.{Depths}
use Rattle.match_rules.specs.Conditions.{has_class, unsafe_class, enemy_class, is_constraint_true, Advice}
use Rattle.match_misfit.specs.Misfits.{first_misfit}
use Rattle.match_reasons.specs.declared.reason.Reason.{Reason}
use Rattle.match_reasons.specs.declared.reason.Reason.TheVariants as reason
use Rattle.match_reasons.specs.FreshReadings.{fresh_codes, capture_of}

-- the reason after a play: why it is not legal, or the reason that the position after it gives
abbrev pub after_play : (Illegal → Reason) → (BoardState → Option Reason) → Result BoardState Illegal → Option Reason
after_play illegal next_reason (Ok next) = next_reason next
after_play illegal next_reason (Err why) = Some (illegal why)

-- the reason against the friend's move at m: it is not legal, or its stone can be captured and the pattern lacks class
-- s
unfoldable pub move_reason : Depths → Pattern → BoardState → Colour → ℕ → Option Reason
move_reason d p board friend m =
    after_play reason.Illegal
    (λ next. if has_class p unsafe_class then None else option_map reason.Unsafe (capture_of d next m))
    (play board friend m)

-- the reason of class n, if the pattern has it: the enemy's play at m is not legal, or its stone can be captured
unfoldable pub enemy_reason : Depths → Pattern → BoardState → Colour → ℕ → Option Reason
enemy_reason d p board friend m =
    if has_class p enemy_class
    then after_play reason.EnemyIllegal (λ next. option_map reason.EnemyUnsafe (capture_of d next m))
    (play board (other friend) m)
    else None

-- the reason of the constraint, if the pattern has one: its value is 0 at m under t
abbrev pub constraint_reason : Depths → Pattern → BoardState → Colour → ℕ → ℕ → Option Reason
constraint_reason d p board friend t m =
    if is_constraint_true (fresh_codes d) p board friend t m then None else Some reason.Constraint

-- the reason of the helpers: the first field whose helper says no to the friend's move at m
abbrev pub helper_reason : Advice → Pattern → BoardState → Colour → ℕ → Option Reason
helper_reason advice p board friend m =
    option_map reason.Helper (position_from (refuses (λ name. advice name board m friend)) 0 p.items)

-- the first part of a match before the helpers that fails: the diagram, the friend's move, class n, or the constraint
unfoldable pub reason_before_helpers : Depths → Pattern → BoardState → Colour → ℕ → ℕ → Option Reason
reason_before_helpers d p board friend t m =
    option_or (option_map reason.Misfit (first_misfit p board friend t m))
    (option_or (move_reason d p board friend m)
    (option_or (enemy_reason d p board friend m) (constraint_reason d p board friend t m)))

-- why the pattern does not match at m under t for the friend: the first part of the definition that fails
unfoldable pub first_reason : Depths → Advice → Pattern → BoardState → Colour → ℕ → ℕ → Option Reason
first_reason d advice p board friend t m =
    option_or (reason_before_helpers d p board friend t m) (helper_reason advice p board friend m)
