-- What was reserved is all that an operation needs.
use Rattle.std.proofs.Common.{◌≡◌, ◌<◌, List, Option, Some, None, Result, Ok, Err, sym, subst}
use Rattle.std.specs.Prelude.{IfOk, option_map}
use Rattle.semantics.specs.Ids.{OpId}
use Rattle.semantics.specs.Elements.{Element, Value}
use Rattle.semantics.specs.Operations.{element_of, scalar_in, slot_of, target_in, value_of}
use Rattle.semantics.specs.Paths.{Hop, hops_from_root}
use Rattle.operation.specs.value.declared.value.Scalar.{Scalar}
use Rattle.operation.specs.value.Values.{scalar_of}
use Rattle.operation.specs.declared.op.Op.{Op}
use Rattle.operation.specs.Ops.{mutation_of, stamped_of}
use Rattle.tree.specs.declared.node.Node.{Node}
use Rattle.tree.specs.Nodes.{node_at, register_room}
use Rattle.tree.specs.Writes.{RoomTo, end_of}
use Rattle.tree.specs.Trees.{IsReserved, RoomToLink, RoomToWrite}
use Rattle.tree.proofs.Applied.{end_is}

-- an operation that writes v at a slot, or at the element of its place
pub write_ready : (o : Op) (ns : List Node) (s : Option Scalar) (v : Value) (slot : Option (Element × Option OpId))
    → value_of (mutation_of o.mutation) ≡ Some v → slot_of (mutation_of o.mutation) o.place ≡ slot
    → RoomTo ns (target_in slot o.id o.place) → 0 < register_room (node_at ns (target_in slot o.id o.place))
    → option_map scalar_of s ≡ scalar_in (Some v) → RoomToLink ns slot
    → IsReserved ns s (stamped_of o)
write_ready o ns s v slot value there room register scalar link = record {
  write = subst (RoomToWrite ns s (target_in (slot_of (mutation_of o.mutation) o.place) o.id o.place)) (sym value)
      (subst (λ x. RoomToWrite ns s (target_in x o.id o.place) (Some v)) (sym there) (room, scalar, λ some. register));
  link = subst (RoomToLink ns) (sym there) link;
}

-- an operation that writes v at the end of its place's path
pub place_ready : (o : Op) (ns : List Node) (s : Option Scalar) (v : Value) (path : List Hop)
    → value_of (mutation_of o.mutation) ≡ Some v → slot_of (mutation_of o.mutation) o.place ≡ None
    → path ≡ hops_from_root (element_of o.place)
    → RoomTo ns (end_of path) → 0 < register_room (node_at ns (end_of path)) → option_map scalar_of s ≡ scalar_in (Some v)
    → IsReserved ns s (stamped_of o)
place_ready o ns s v path value there way room register scalar =
    let end : end_of path ≡ element_of o.place = end_is o.place path way in
    write_ready o ns s v None value there (subst (RoomTo ns) end room)
    (subst (λ e. 0 < register_room (node_at ns e)) end register) scalar tt

-- where three facts give a fourth, and each holds of a value, if there is one
pub if_ok_three : {X E : Type 0} (r : Result X E) (P Q R S : X → Type 0) → ((x : X) → P x → Q x → R x → S x) → IfOk r P → IfOk r Q
    → IfOk r R → IfOk r S
if_ok_three (Ok x) P Q R S h p q s = h x p q s
if_ok_three (Err e) P Q R S h p q s = tt
