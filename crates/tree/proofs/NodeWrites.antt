-- What a write to one node keeps: room, and the indices of replicas in the table.
use Rattle.std.proofs.Common.{◌≡◌, ℕ, ◌≤◌, List, set, Option, Some, sym, subst, arith, inl, inr}
use Rattle.std.specs.Prelude.{slice_get}
use Rattle.std.proofs.lemmas.Bool.{cases_eq}
use Rattle.tree.specs.declared.node.Node.{Node}
use Rattle.tree.specs.Nodes.{AreIndexedNodes, IsIndexedNode, MoreRoom, presence_room, register_room}
use Rattle.tree.proofs.ListReads.{get_same, get_other, get_inside}

-- what holds of the new node, and of each other one as before
pub set_each : (P : Option Node → ℕ → Type 0) (ns : List Node) (i : ℕ) (n m : Node) → slice_get ns i ≡ Some n → P (Some m) i
    → ((j : ℕ) → P (slice_get ns j) j) → (j : ℕ) → P (slice_get (set ns i m) j) j
set_each P ns i n m g here each j = elim (cases_eq j i) [
  | inl e ↦ subst (λ k. P (slice_get (set ns i m) k) k) (sym e) (subst (λ o. P o i) (sym (get_same ns i m (get_inside ns i n g))) here)
  | inr e ↦ subst (λ o. P o j) (sym (get_other ns i m j e)) (each j)
]

pub indexed_at : (table : List ℕ) (ns : List Node) (i : ℕ) (n : Node) → slice_get ns i ≡ Some n → AreIndexedNodes table ns
    → IsIndexedNode table (Some n)
indexed_at table ns i n g b = subst (IsIndexedNode table) g (b i)

pub indexed_set : (table : List ℕ) (ns : List Node) (i : ℕ) (n m : Node) → slice_get ns i ≡ Some n → AreIndexedNodes table ns
    → IsIndexedNode table (Some m) → AreIndexedNodes table (set ns i m)
indexed_set table ns i n m g b h = set_each (λ o j. IsIndexedNode table o) ns i n m g h b

pub room_set : (ns : List Node) (i : ℕ) (n m : Node) → slice_get ns i ≡ Some n → n.presence.room ≤ m.presence.room
    → n.register.room ≤ m.register.room → MoreRoom ns (set ns i m)
room_set ns i n m g p r = record {
  presence = set_each (λ o j. presence_room (slice_get ns j) ≤ presence_room o) ns i n m g
      (subst (λ o. presence_room o ≤ m.presence.room) (sym g) p) (λ j. omega arith);
  register = set_each (λ o j. register_room (slice_get ns j) ≤ register_room o) ns i n m g
      (subst (λ o. register_room o ≤ m.register.room) (sym g) r) (λ j. omega arith);
}
