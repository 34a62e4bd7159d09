-- What the slot of a handle owns.
use base.Fml.{Fml, ftrue}
use base.Stored.{Coded}
use denote.RawPtr.{Ptr}
use Rattle.std.specs.Prelude.{Option, Some, None}
use Rattle.std.specs.Coded.{coded_option}
use Rattle.std.specs.Box.Ownership.{box_owns}
use Rattle.std.specs.Global.{Global}
use Rattle.std_heap.specs.contracts.GlobalAllocator.TheImpl.{ghosts}
use Rattle.match_doors.specs.contracts.matcher.Matcher.{the_row}

-- a slot with patterns owns a box at its pointer, with a matcher of these patterns; an empty slot owns nothing
abbrev pub owned_at : Global → Ptr → Option the_row.Denot → Fml
owned_at alloc at None = ftrue
owned_at alloc at (Some patterns) = box_owns (ghosts.dealloc_token alloc) the_row at patterns

-- how the held patterns are coded
abbrev pub held_coded : Coded (Option the_row.Denot)
held_coded = coded_option the_row.coded
