-- Room along a path, by its keys and by its element.
use Rattle.std.proofs.Common.{◌≡◌, ◌≢◌, ℕ, suc, ◌+◌, ◌<◌, ◌≤◌, List, [], ◌∷◌, length, take, drop, Option, Some, None, refl, sym, ap, ◌∙◌}
use Rattle.std.proofs.Common.{subst, arith, length-take-le}
use Rattle.std.specs.Prelude.{IsSome}
use Rattle.std.proofs.lemmas.List.{take-append-drop}
use Rattle.semantics.specs.Elements.{Element, Doc, Field, Item, depth}
use Rattle.semantics.specs.Paths.{Hop, FieldHop, ItemHop, child, down}
use Rattle.semantics.proofs.ElementPaths.{down-append}
use Rattle.tree.specs.declared.node.Node.{Node}
use Rattle.tree.specs.Nodes.{number, node_in, node_at, presence_room, IsTree, SameChildren, SameLinks, MoreRoom, RoomElse}
use Rattle.tree.specs.Writes.{end_of, HasRoom, RoomTo}
use Rattle.tree.proofs.Shape.{children_number, number_same, one_element}

depth_child : (e : Element) (k : Hop) → depth (child e k) ≡ suc (depth e)
depth_child e (FieldHop n) = refl
depth_child e (ItemHop a) = refl

depth_down : (e : Element) (ks : List Hop) → depth (down e ks) ≡ depth e + length ks
depth_down e [] = omega arith
depth_down e (k ∷ ks) = let p = depth_down (child e k) ks in let q = depth_child e k in omega arith

pub depth_whole : (path : List Hop) → depth (end_of path) ≡ length path
depth_whole path = let p = depth_down Doc path in omega arith

pub depth_path : (path : List Hop) (k : ℕ) → k ≤ length path → depth (end_of (take k path)) ≡ k
depth_path path k h = depth_whole (take k path) ∙ length-take-le k path h

-- a node with room is there
pub room_there : (ns : List Node) (o : Option ℕ) → 0 < presence_room (node_in ns o) → IsSome o
room_there ns None h = absurd (omega arith)
room_there ns (Some i) h = refl

-- where one node alone loses room, an element of another depth than its own keeps its room
pub room_deeper : (now new : List Node) → IsTree now → SameLinks now new → (at : ℕ) → RoomElse at now new → (e f : Element)
    → number now e ≡ Some at → depth e ≢ depth f
    → 0 < presence_room (node_at now f) → 0 < presence_room (node_at new f)
room_deeper now new t l at r e f p d h =
    subst (λ o. 0 < presence_room (node_in new o)) (number_same now new l f) (by (number now f) refl h) where
      by : (o : Option ℕ) → number now f ≡ o → 0 < presence_room (node_in now o) → 0 < presence_room (node_in new o)
      by None q h = absurd (omega arith)
      by (Some i) q h =
          let apart : i ≢ at = λ s. d (ap depth (one_element now t e f at p (q ∙ ap Some s))) in
          let kept = r.presence i apart in omega arith

pub more_room : (ns ms : List Node) → SameChildren ns ms → MoreRoom ns ms → (e : Element) → 0 < presence_room (node_at ns e)
    → 0 < presence_room (node_at ms e)
more_room ns ms l r e h = subst (λ o. 0 < presence_room (node_in ms o)) (children_number ns ms l e) (by (number ns e) h) where
  by : (o : Option ℕ) → 0 < presence_room (node_in ns o) → 0 < presence_room (node_in ms o)
  by None q = absurd (omega arith)
  by (Some i) q = let kept = r.presence i in omega arith

pub path_room : (ns ms : List Node) (path : List Hop) → SameChildren ns ms → MoreRoom ns ms → HasRoom ns path → HasRoom ms path
path_room ns ms path l r h = λ k lt. more_room ns ms l r (end_of (take k path)) (h k lt)

room_last : (ns : List Node) (e : Element) → RoomTo ns e → 0 < presence_room (node_at ns e)
room_last ns Doc r = r
room_last ns (Field e n) r = r.1
room_last ns (Item e a) r = r.1

room_up : (ns : List Node) (e : Element) (k : Hop) → RoomTo ns (child e k) → RoomTo ns e
room_up ns e (FieldHop n) r = r.0
room_up ns e (ItemHop a) r = r.0

room_front : (ns : List Node) (e : Element) (ks : List Hop) → RoomTo ns (down e ks) → RoomTo ns e
room_front ns e [] r = r
room_front ns e (k ∷ ks) r = room_up ns e k (room_front ns (child e k) ks r)

-- room on the way down to an element is room along its path
pub room_along : (ns : List Node) (path : List Hop) → RoomTo ns (end_of path) → HasRoom ns path
room_along ns path r = λ k h.
    let whole : end_of path ≡ down (end_of (take k path)) (drop k path) = ap end_of (sym (take-append-drop k path))
    ∙ down-append Doc (take k path) (drop k path) in
    room_last ns (end_of (take k path)) (room_front ns (end_of (take k path)) (drop k path) (subst (RoomTo ns) whole r))

room_next : (ns : List Node) (e : Element) (k : Hop) → RoomTo ns e → 0 < presence_room (node_at ns (child e k)) → RoomTo ns (child e k)
room_next ns e (FieldHop n) r h = (r, h)
room_next ns e (ItemHop a) r h = (r, h)

room_from : (ns : List Node) (e : Element) (ks : List Hop) → RoomTo ns e
    → ((i : ℕ) → i ≤ length ks → 0 < presence_room (node_at ns (down e (take i ks)))) → RoomTo ns (down e ks)
room_from ns e [] r h = r
room_from ns e (k ∷ ks) r h = room_from ns (child e k) ks (room_next ns e k r (h 1 (omega arith))) (λ i l. h (suc i) (omega arith))

-- room along a path is room on the way down to its element
pub room_down : (ns : List Node) (path : List Hop) → HasRoom ns path → RoomTo ns (end_of path)
room_down ns path h = room_from ns Doc path (h 0 (omega arith)) h
