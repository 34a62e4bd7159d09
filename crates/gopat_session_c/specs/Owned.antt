-- What the slot of a handle owns.
use base.Fml.{Fml, ftrue}
use base.Stored.{Coded}
use denote.RattleType.{RattleType}
use denote.RawPtr.{Ptr}
use Rattle.std.specs.Prelude.{Option, Some, None}
use Rattle.std.specs.Coded.{coded_option}
use Rattle.std.specs.Box.Ownership.{box_owns}
use Rattle.std.specs.Global.{Global}
use Rattle.std.specs.contracts.option.Option as option
use Rattle.std_heap.specs.contracts.GlobalAllocator.TheImpl.{ghosts}
use Rattle.session_doors.specs.contracts.held.HeldSession.{the_row}

-- the type of a place: a session, or nothing
abbrev pub room : RattleType
room = option.the_row the_row

-- a slot with a session owns a box at its pointer, in which the session lies; an empty slot owns nothing
abbrev pub owned_at : Global → Ptr → Option the_row.Denot → Fml
owned_at alloc at None = ftrue
owned_at alloc at (Some held) = box_owns (ghosts.dealloc_token alloc) room at (Some held)

-- how the held session is coded
abbrev pub held_coded : Coded (Option the_row.Denot)
held_coded = coded_option the_row.coded
