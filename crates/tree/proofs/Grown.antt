-- What stays as nodes grow.
use Rattle.std.proofs.Common.{◌≡◌, ℕ, ◌<◌, List, Option, Some, None, sym, ap, ◌∙◌, refl, subst, arith}
use Rattle.std.specs.Prelude.{slice_get}
use Rattle.semantics.specs.Elements.{Element, Doc, Field, Item}
use Rattle.semantics.specs.DocumentAnswer.{is_any, visible_items}
use Rattle.semantics.specs.Paths.{FieldHop, ItemHop}
use Rattle.tree.specs.declared.node.Node.{Node}
use Rattle.tree.specs.Nodes.{Grows, IsTree, Kept, next_number, node_at, node_in, number, order_room, presence_room, register_room}
use Rattle.tree.specs.Shown.{AreEmpty, AreShown}
use Rattle.tree.specs.Writes.{RoomTo}
use Rattle.tree.proofs.Shape.{next_some}

pub grows_same : (ns : List Node) → Grows ns ns
grows_same ns = record {
  count = omega arith;
  children = λ i k j c. c;
  presence = λ i. omega arith;
  register = λ i. omega arith;
  order = λ i. omega arith;
}

pub grows_trans : {a b c : List Node} → Grows a b → Grows b c → Grows a c
grows_trans p q = record {
  count = let x = p.count in let y = q.count in omega arith;
  children = λ i k j h. q.children i k j (p.children i k j h);
  presence = λ i. let x = p.presence i in let y = q.presence i in omega arith;
  register = λ i. let x = p.register i in let y = q.register i in omega arith;
  order = λ i. let x = p.order i in let y = q.order i in omega arith;
}

pub kept_same : (ns : List Node) → IsTree ns → Kept ns ns
kept_same ns t = record {
  tree = t;
  same = refl;
  visible = λ e. refl;
  empty_below = λ e. refl;
  flagged = λ e k. refl;
  grows = grows_same ns;
  indexed = λ table b. b;
}

pub kept_trans : {a b c : List Node} → Kept a b → Kept b c → Kept a c
kept_trans p q = record {
  tree = q.tree;
  same = q.same ∙ p.same;
  visible = λ e. q.visible e ∙ p.visible e;
  empty_below = λ e. q.empty_below e ∙ p.empty_below e;
  flagged = λ e k. q.flagged e k ∙ p.flagged e k;
  grows = grows_trans p.grows q.grows;
  indexed = λ table b. q.indexed table (p.indexed table b);
}

-- the lists show what they showed
pub kept_shown : (ns ms : List Node) → Kept ns ms → AreShown ns → AreShown ms
kept_shown ns ms k s e = k.visible e ∙ s e ∙ ap (λ C. visible_items C e) (sym k.same)

-- and nothing stands where nothing did
pub kept_empty : (ns ms : List Node) → Kept ns ms → AreEmpty ns → AreEmpty ms
kept_empty ns ms k d = record {
  items = λ l a lt. ap (λ C. is_any (C.presence (Item l a))) k.same ∙ d.items l a (subst (λ g. a.counter < g) (k.empty_below l) lt);
  fields = λ e n low. ap (λ C. is_any (C.presence (Field e n))) k.same ∙ d.fields e n (sym (k.flagged e n) ∙ low);
}

-- an element keeps its number
pub number_grows : (ns ms : List Node) → Grows ns ms → (e : Element) (i : ℕ) → number ns e ≡ Some i → number ms e ≡ Some i
number_grows ns ms g Doc i p = p
number_grows ns ms g (Field e n) i p =
    let (k, q, c) = next_some ns (number ns e) (FieldHop n) i p in
    ap (λ o. next_number ms o (FieldHop n)) (number_grows ns ms g e k q) ∙ g.children k (FieldHop n) i c
number_grows ns ms g (Item e a) i p =
    let (k, q, c) = next_some ns (number ns e) (ItemHop a) i p in
    ap (λ o. next_number ms o (ItemHop a)) (number_grows ns ms g e k q) ∙ g.children k (ItemHop a) i c

-- a node that has room is there
numbered : (room : Option Node → ℕ) → room None ≡ 0 → (ns : List Node) (o : Option ℕ) → 0 < room (node_in ns o) → (i : ℕ) × (o ≡ Some i)
numbered room z ns None h = absurd (let z = z in omega arith)
numbered room z ns (Some i) h = (i, refl)

-- and what has room has room
room_kept : (room : Option Node → ℕ) → room None ≡ 0 → (ns ms : List Node) → Grows ns ms
    → ((i : ℕ) → 0 < room (slice_get ns i) → 0 < room (slice_get ms i)) → (e : Element) → 0 < room (node_at ns e) → 0 < room (node_at ms e)
room_kept room z ns ms g more e h =
    let (i, p) = numbered room z ns (number ns e) h in
    subst (λ o. 0 < room (node_in ms o)) (sym (number_grows ns ms g e i p)) (more i (subst (λ o. 0 < room (node_in ns o)) p h))

pub presence_kept : (ns ms : List Node) → Grows ns ms → (e : Element) → 0 < presence_room (node_at ns e) → 0 < presence_room (node_at ms e)
presence_kept ns ms g e h = room_kept presence_room refl ns ms g (λ i p. let k = g.presence i in omega arith) e h

pub register_kept : (ns ms : List Node) → Grows ns ms → (e : Element) → 0 < register_room (node_at ns e) → 0 < register_room (node_at ms e)
register_kept ns ms g e h = room_kept register_room refl ns ms g (λ i p. let k = g.register i in omega arith) e h

pub order_kept : (ns ms : List Node) → Grows ns ms → (e : Element) → 0 < order_room (node_at ns e) → 0 < order_room (node_at ms e)
order_kept ns ms g e h = room_kept order_room refl ns ms g (λ i p. let k = g.order i in omega arith) e h

-- the room at a number is that of its element
pub room_here : (room : Option Node → ℕ) (ns : List Node) (e : Element) (i : ℕ) → number ns e ≡ Some i → 0 < room (slice_get ns i)
    → 0 < room (node_at ns e)
room_here room ns e i p h = subst (λ o. 0 < room (node_in ns o)) (sym p) h

-- and room on the way down to an element stays
pub way_kept : (ns ms : List Node) → Grows ns ms → (e : Element) → RoomTo ns e → RoomTo ms e
way_kept ns ms g Doc r = presence_kept ns ms g Doc r
way_kept ns ms g (Field e n) r = (way_kept ns ms g e r.0, presence_kept ns ms g (Field e n) r.1)
way_kept ns ms g (Item e a) r = (way_kept ns ms g e r.0, presence_kept ns ms g (Item e a) r.1)
