-- From what the calls do to what the definitions say of an operation.
use Rattle.std.proofs.Common.{◌≡◌, ◌<◌, List, Option, Some, None, refl, sym, ap, ◌∙◌, subst}
use Rattle.std.specs.Prelude.{IsSome, option_map}
use Rattle.semantics.specs.Ids.{OpId}
use Rattle.semantics.specs.Elements.{Element, Item, Place, At, HeadOf, Tag, tag_of, Scalar as TheScalar, Value, EmptyMap}
use Rattle.semantics.specs.Operations.{Assign, Insert, Delete, element_of, scalar_in, slot_of, target_in, value_of}
use Rattle.semantics.specs.Paths.{Hop, hops_from_root}
use Rattle.semantics.specs.LegalHistory.{IsFormed}
use Rattle.semantics.specs.Vectors.{covers}
use Rattle.semantics.specs.Context.{Context, clear, apply}
use Rattle.semantics.specs.Stamped.{loose_operation}
use Rattle.semantics.proofs.ElementPaths.{down-hops_from_root}
use Rattle.operation.specs.value.declared.value.Scalar.{Scalar}
use Rattle.operation.specs.value.declared.value.Val.{Val}
use Rattle.operation.specs.value.Values.{scalar_of, value_of as meaning_of}
use Rattle.operation.specs.declared.op.Mutation.TheVariants as mutation
use Rattle.operation.specs.declared.op.Op.{Op}
use Rattle.operation.specs.Ops.{mutation_of, stamped_of}
use Rattle.tree.specs.declared.node.Node.{Node}
use Rattle.tree.specs.declared.stamp.Stamp.{Stamp}
use Rattle.tree.specs.Nodes.{context, node_at, register_room}
use Rattle.tree.specs.Writes.{assigned, deps_of, end_of, linked}
use Rattle.tree.specs.Trees.{CanInsert, FitsIn, IsPlaced, IsReserved, RoomToLink, RoomToWrite}
use Rattle.tree.proofs.Writes.{assign_is, delete_is, insert_is}
use Rattle.tree.proofs.Slots.{formed_slot, slot_of_any}

pub end_is : (p : Place) (path : List Hop) → path ≡ hops_from_root (element_of p) → end_of path ≡ element_of p
end_is p path q = ap end_of q ∙ down-hops_from_root (element_of p)

-- an assign and a delete stand at an element
at_element : (v : Value) (p : Place) → IsFormed (Assign v) p → At (element_of p) ≡ p
at_element v (At e) f = refl
at_element v (HeadOf l) f = cc

delete_at_element : (p : Place) → IsFormed Delete p → At (element_of p) ≡ p
delete_at_element (At e) f = refl
delete_at_element (HeadOf l) f = cc

-- an operation, and a stamp that is made of it
module _ (o : Op) (s : Stamp) (same_id : s.id ≡ o.id) (same_vector : s.vector.now ≡ o.deps)
    (formed : IsFormed (mutation_of o.mutation) o.place) (C D : Context) where
  pub delete_applied : o.mutation ≡ mutation.Delete → (path : List Hop) → path ≡ hops_from_root (element_of o.place)
      → D ≡ clear C (end_of path) (deps_of s) → D ≡ apply C (loose_operation (stamped_of o))
  delete_applied m path q done =
      let place : At (element_of o.place) ≡ o.place = delete_at_element o.place (subst (λ c. IsFormed (mutation_of c) o.place) m formed) in
      done ∙ (λ i. clear C (end_is o.place path q i) (covers (same_vector i)))
      ∙ delete_is C o.id (covers o.deps) (element_of o.place)
      ∙ (λ i. apply C
      (record { id = o.id; deps = covers o.deps; place = place i; mutation = mutation_of (sym m i) }))

  pub assign_applied : (v : Val) → o.mutation ≡ mutation.Assign v → (path : List Hop) → path ≡ hops_from_root (element_of o.place)
      → (k : Tag) → k ≡ tag_of (meaning_of v) → (r : Option TheScalar) → r ≡ scalar_in (Some (meaning_of v))
      → D ≡ assigned C s.id (deps_of s) (end_of path) k r → D ≡ apply C (loose_operation (stamped_of o))
  assign_applied v m path q k tag r scalar done =
      let place : At (element_of o.place)
      ≡ o.place = at_element (meaning_of v) o.place (subst (λ c. IsFormed (mutation_of c) o.place) m formed) in
      done ∙ (λ i. assigned C (same_id i) (covers (same_vector i)) (end_is o.place path q i) (tag i) (scalar i))
      ∙ assign_is C o.id (covers o.deps) (element_of o.place) (meaning_of v)
      ∙ (λ i. apply C
      (record { id = o.id; deps = covers o.deps; place = place i; mutation = mutation_of (sym m i) }))

  pub insert_applied : (v : Val) → o.mutation ≡ mutation.Insert v → (k : Tag) → k ≡ tag_of (meaning_of v) → (r : Option TheScalar)
      → r ≡ scalar_in (Some (meaning_of v))
      → ((l : Element) (p : Option OpId) → slot_of (Insert EmptyMap) o.place ≡ Some (l, p)
      → D ≡ assigned (linked C l p s.id) s.id (deps_of s) (Item l s.id) k r)
      → D ≡ apply C (loose_operation (stamped_of o))
  insert_applied v m k tag r scalar done =
      let (l, p, slot, place) = formed_slot (meaning_of v) o.place (subst (λ c. IsFormed (mutation_of c) o.place) m formed) in
      done l p slot
      ∙ (λ i. assigned (linked C l p (same_id i)) (same_id i) (covers (same_vector i)) (Item l (same_id i)) (tag i)
      (scalar i))
      ∙ insert_is C o.id (covers o.deps) l p (meaning_of v)
      ∙ (λ i. apply C
      (record { id = o.id; deps = covers o.deps; place = place i; mutation = mutation_of (sym m i) }))

some_mapped : {X Y : Type 0} (f : X → Y) (o : Option X) → IsSome o → IsSome (option_map f o)
some_mapped f None h = h
some_mapped f (Some x) h = refl

-- what is there where the operation is reserved
module _ (o : Op) (ns : List Node) (copy : Option Scalar) (reserved : IsReserved ns copy (stamped_of o)) (v : Val) where
  pub assign_reserved : o.mutation ≡ mutation.Assign v → RoomToWrite ns copy (element_of o.place) (Some (meaning_of v))
  assign_reserved m = subst
      (λ c. RoomToWrite ns copy (target_in (slot_of (mutation_of c) o.place) o.id o.place) (value_of (mutation_of c))) m reserved.write

  insert_reserved : o.mutation ≡ mutation.Insert v → (l : Element) (p : Option OpId) → slot_of (Insert EmptyMap) o.place ≡ Some (l, p)
      → RoomToWrite ns copy (Item l o.id) (Some (meaning_of v))
  insert_reserved m l p q =
      subst (λ x. RoomToWrite ns copy (target_in x o.id o.place) (Some (meaning_of v))) (slot_of_any (meaning_of v) o.place ∙ q)
      (subst (λ c. RoomToWrite ns copy (target_in (slot_of (mutation_of c) o.place) o.id o.place)
      (value_of (mutation_of c))) m reserved.write)

  pub scalar_reserved : o.mutation ≡ mutation.Insert v → option_map scalar_of copy ≡ scalar_in (Some (meaning_of v))
  scalar_reserved m = (subst (λ c. RoomToWrite ns copy (target_in (slot_of (mutation_of c) o.place) o.id o.place)
      (value_of (mutation_of c))) m reserved.write).1

  pub register_reserved : (e : Element) → RoomToWrite ns copy e (Some (meaning_of v)) → IsSome copy → 0 < register_room (node_at ns e)
  register_reserved e write some = write.2 (subst IsSome write.1 (some_mapped scalar_of copy some))

  pub can_insert : (a : OpId) → a ≡ o.id → o.mutation ≡ mutation.Insert v → IsPlaced (context ns) (stamped_of o)
      → (l : Element) (p : Option OpId) → slot_of (Insert EmptyMap) o.place ≡ Some (l, p) → CanInsert ns l p a copy
  can_insert a same m placed l p q =
      let write = insert_reserved m l p q in
      let slot : slot_of (mutation_of o.mutation) o.place ≡ Some (l, p) = ap (λ c. slot_of (mutation_of c) o.place) m
      ∙ slot_of_any (meaning_of v) o.place ∙ q in
      let fits : FitsIn (context ns) o.id (Some (l, p)) = subst (FitsIn (context ns) o.id) slot placed in
      subst (λ b. CanInsert ns l p b copy) (sym same) (record {
        room = write.0;
        register = register_reserved (Item l o.id) write;
        order = subst (RoomToLink ns) slot reserved.link;
        position = fits.0;
        fresh = fits.1;
      })
