-- The slot and the parts own what a box of the same types owns.
use mir.Syntax.{impl, tnil, dnil}
use mathlib.Core.List.{[]}
use denote.Signature.{Slot, plain}
use Rattle.std.specs.Prelude.{Option, None, Some, IsSome}
use Rattle.std.proofs.Common.{◌≡◌, refl, sym, true≢false}
use Rattle.std_alloc.proofs.BoxSteps.Form.{Bx}
use Rattle.std_heap.specs.contracts.Global as Heap
use Rattle.std_heap.specs.contracts.GlobalAllocator.TheImpl.{ghosts, dict}
use Rattle.std_heap.proofs.Global.TheLaws as heap
use Rattle.jdoc_c.specs.contracts.held.Held as Held
use Rattle.jdoc_c.proofs.held.Held.TheLaws as held
use Rattle.jdoc_c.specs.contracts.parts.Parts as Parts
use Rattle.jdoc_c.specs.contracts.slot.Slot as Kept

abbrev pub E : Bx
E = record {
  row = Held.the_row;
  laws = held.the_row_laws;
  al = record { row = Heap.the_row; laws = heap.the_row_laws; g = ghosts; d = dict; drops = impl [] tnil dnil };
}

abbrev pub FromParts : Slot 0
FromParts = plain (λ _. Parts.the_row Held.the_row Heap.the_row ghosts)

abbrev pub FromSlot : Slot 0
FromSlot = plain (λ _. Kept.the_row)

abbrev pub FromAlloc : Slot 0
FromAlloc = plain (λ _. Heap.the_row)

pub held_of : {A : Type 0} (h : Option A) → IsSome h → A
held_of None e = absurd (true≢false (sym e))
held_of (Some x) e = x

pub is_held : {A : Type 0} (h : Option A) (e : IsSome h) → h ≡ Some (held_of h e)
unfolding held_of
is_held None e = absurd (true≢false (sym e))
is_held (Some x) e = refl
