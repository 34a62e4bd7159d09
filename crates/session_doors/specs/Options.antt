-- Which numbers are options of a session, and which fault of them is reported.
use Rattle.std.specs.Prelude.{ℕ, Bool, ◌&&◌, nat_le, Option, Some, None, if◌then◌else◌}
use Rattle.go_options.specs.NumberOptions.{NumberOption, cache_option, states_option}
use Rattle.board_doors.specs.Doors.{are_depths}
use Rattle.session_doors.specs.declared.options.SessionOptions.{SessionOptions}
use Rattle.session_doors.specs.declared.opening.OpenFault.{OpenFault}
use Rattle.session_doors.specs.declared.opening.OpenFault.TheVariants.{Depths, Cache, States}

-- the number lies in the range of the program's option
abbrev pub is_in : NumberOption → ℕ → Bool
is_in option n = nat_le option.least n && nat_le n option.greatest

-- this many questions may be cached
abbrev pub is_cache : ℕ → Bool
is_cache = is_in cache_option

-- this many states may be allowed for an automaton
abbrev pub are_states : ℕ → Bool
are_states = is_in states_option

-- the first fault of the options: of the depths, of the cache, of the states
abbrev pub options_fault : SessionOptions → Option OpenFault
options_fault options =
    if are_depths options.depths then
    (if is_cache options.cache then (if are_states options.states then None else Some States) else Some Cache)
    else Some Depths
