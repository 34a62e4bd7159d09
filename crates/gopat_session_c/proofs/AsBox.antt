-- The slot and its parts own what a box at the same types owns.
use mir.Syntax.{impl, tnil, dnil}
use mathlib.Core.List.{[]}
use mathlib.Core.Path.{refl, sym}
use mathlib.Core.Bool.{true≢false}
use Rattle.std.proofs.Common.{◌≡◌, Option, Some, None, true}
use Rattle.std.specs.Option.{is_some}
use denote.Signature.{Slot, plain}
use Rattle.std_alloc.proofs.BoxSteps.Form.{Bx}
use Rattle.std_heap.specs.contracts.Global as Heap
use Rattle.std_heap.specs.contracts.GlobalAllocator.TheImpl.{ghosts, dict}
use Rattle.std_heap.proofs.Global.TheLaws as heap
use Rattle.session_doors.specs.contracts.held.HeldSession as Inner
use Rattle.session_doors.proofs.held.HeldSession.TheLaws as inner
use Rattle.gopat_session_c.specs.Owned.{room}
use Rattle.core.proofs.option.Option.TheLaws as option
use Rattle.box_parts.specs.contracts.parts.Parts as Parts
use Rattle.gopat_session_c.specs.contracts.slot.Slot as Slot-type

abbrev pub E : Bx
E = record {
  row = room;
  laws = option.the_row_laws Inner.the_row inner.the_row_laws;
  al = record {
    row =
        Heap.the_row;
    laws = heap.the_row_laws;
    g = ghosts;
    d = dict;
    drops = impl [] tnil dnil;
  };
}

abbrev pub FromParts : Slot 0
FromParts = plain (λ _. Parts.the_row room Heap.the_row ghosts)

abbrev pub FromSlot : Slot 0
FromSlot = plain (λ _. Slot-type.the_row)

-- what is held where something is
pub what : (o : Option Inner.the_row.Denot) → is_some o ≡ true → (x : Inner.the_row.Denot) × (o ≡ Some x)
what None none = absurd (true≢false (sym none))
what (Some x) some = (x, refl)
