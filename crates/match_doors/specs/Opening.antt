-- The numbers that say how a text of patterns was opened.
use Rattle.std.specs.Prelude.{ℕ}
use Rattle.match_doors.specs.declared.patterns.PatternFault.{PatternFault}
use Rattle.match_doors.specs.declared.patterns.PatternFault.TheVariants.{NoMemory, Text, TooManyStates}
use Rattle.match_doors.specs.declared.replies.OpenReply.{OpenReply}
use Rattle.match_doors.specs.Matching.{no_memory}

-- the status of a text with a fault
abbrev pub bad_text : ℕ
bad_text = 19

-- the status of a text whose patterns have too many states
abbrev pub too_many_states : ℕ
too_many_states = 20

-- the reply to a text that gave n patterns
abbrev pub opened_reply : ℕ → OpenReply
opened_reply n = record { status = 0; kind = 0; line = 0; patterns = n }

-- the reply to a text that gave no patterns
abbrev pub refused_reply : PatternFault → OpenReply
refused_reply NoMemory = record { status = no_memory; kind = 0; line = 0; patterns = 0 }
refused_reply (Text line kind) = record { status = bad_text; kind = kind; line = line; patterns = 0 }
refused_reply TooManyStates = record { status = too_many_states; kind = 0; line = 0; patterns = 0 }
