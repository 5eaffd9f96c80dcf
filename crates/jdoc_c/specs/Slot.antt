-- What a C handle owns.
use base.Fml.{Fml, ftrue}
use base.Stored.{Coded}
use Rattle.std.specs.Coded.{coded_option}
use denote.RawPtr.{Ptr}
use Rattle.std.specs.Prelude.{Option, None, Some}
use Rattle.std.specs.Box.Ownership.{box_owns}
use Rattle.std.specs.Global.{Global}
use Rattle.std_heap.specs.contracts.GlobalAllocator.TheImpl.{ghosts}
use Rattle.jdoc_c.specs.contracts.held.Held.{the_row}

-- the block of the value that it holds, if it holds one
abbrev pub slot_owns : Global → Ptr → Option the_row.Denot → Fml
slot_owns alloc p None = ftrue
slot_owns alloc p (Some x) = box_owns (ghosts.dealloc_token alloc) the_row p x

-- slots are distinguished by what they hold
abbrev pub held_coded : Coded (Option the_row.Denot)
held_coded = coded_option the_row.coded
