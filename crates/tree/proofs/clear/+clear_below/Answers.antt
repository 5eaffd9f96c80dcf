-- First the fields, then the items, and last the node: clearing those that weren't reached yet gives what clearing all gives.
use Rattle.std.proofs.Common.{◌≡◌, [], ℕ, ◌+◌, ◌<◌, ◌&&◌, ◌||◌, Bool, true, length, Some, sym, ap, ◌∙◌, arith, get_or}
use Rattle.std.proofs.Common.{drop, is_some, min, nat_le, rules, subst, cond, slice_get}
use Rattle.std.specs.FinMap.{find}
use Rattle.std.specs.List.{filter}
use Rattle.std.proofs.lemmas.List.{drop_all}
use Rattle.std.proofs.lemmas.Bool.{or_parts}
use Rattle.semantics.specs.Ids.{OpId, id_at, id_cmp}
use Rattle.semantics.specs.Elements.{Element, Field, Item, Name, is_same}
use Rattle.semantics.specs.Paths.{FieldHop}
use Rattle.semantics.specs.Context.{Context, clear, without}
use Rattle.semantics.specs.DocumentAnswer.{is_any}
use Rattle.tree.specs.Nested.{IsNested}
use Rattle.tree.specs.Nodes.{number, empty_below_of, links, context, Links, node_in, presence_of}
use Rattle.tree.specs.Shown.{ShownBut}
use Rattle.tree.specs.Writes.{clear_own, covered_by, fields_of, items_of}
use Rattle.tree.proofs.Shape.{children_linked, children_number, children_same, children_trans, children_tree, number_child, room_same}
use Rattle.tree.proofs.Shape.{room_trans}
use Rattle.tree.proofs.Clears.{clear_each, turn_field, turn_item, clear_whole}
use Rattle.tree.proofs.EmptyBelow.{left_none, none_any, none_before, none_left, past_fields, past_empty, stands_behind, stands_more}
use Rattle.tree.proofs.EmptyBelow.{stood_before}
use Rattle.tree.proofs.Nested.{clear_empty, nested_clear}
use Rattle.tree.proofs.Showing.{but_kept, but_wider, flags_children, flags_context, flags_number, flags_tree, empty_kept, lower}
use Rattle.tree.proofs.clear.+clear_below.Goals as goal

pub returns-then-not-is_present-clause-cleared : goal.returns-then-not-is_present-clause-cleared
returns-then-not-is_present-clause-cleared t c = λ e at.
    let ns = c.args.nodes.now in
    clear_empty (context ns) e (covered_by c.args.covered.now) c.requires.nested
    (ap (λ o. presence_of (node_in ns o)) at
    ∙ none_any _ (sym c.is_present.ensures ∙ c.if-not-is_present.true))

-- the fields before the first raised flag are empty, and clearing these would change nothing
pub fields-init : goal.fields-init
fields-init t c =
    let old = c.args.nodes.now in
    let next = c.next_field-position in
    let fs = (links old c.args.at).0 in
    record {
      shape = children_same old;
      room = room_same old;
      indexed = c.requires.indexed;
      nested = c.requires.nested;
      empty = c.requires.empty;
      rest = λ e p. sym (past_fields e (covered_by c.args.covered.now) fs (context old) ([], 0) c.requires.nested 0 next.result
          (omega arith) next.ensures.within (λ i low high. next.ensures.passed e i ([], 0) p c.requires.empty low high));
      shown = λ e off p s. s;
    }

pub clear_below-requires : goal.clear_below-requires
clear_below-requires t c =
    let old = c.args.nodes.now in
    let now = c.fields.nodes in
    let inv = c.fields.invariant in
    let tree = children_tree old now inv.shape c.requires.tree in
    let (e, p) = c.requires.there in
    let x : Element = Field e (get_or (links now c.args.at).0 c.fields.position ([], 0)).0 in
    let child : number now x
    ≡ Some c.field_at-child.result = c.field_at-child.ensures.number e ([], 0) (sym (children_number old now inv.shape e) ∙ p) in
    let there : (y : Element) × (number now y ≡ Some c.field_at-child.result) = (x, child) in
    search rules

pub flag_field-requires-clause-field : goal.flag_field-requires-clause-field
flag_field-requires-clause-field t c = λ d.
    let old = c.args.nodes.now in
    let now = c.fields.nodes in
    let mid = c.clear_below.new.nodes in
    let inv = c.fields.invariant in
    let one = c.clear_below.ensures in
    let (e, p) = c.requires.there in
    let here : number now e ≡ Some c.args.at = sym (children_number old now inv.shape e) ∙ p in
    let at : number mid e ≡ Some c.args.at = sym (children_number now mid one.children e) ∙ here in
    let x : Element = Field e (get_or (links mid c.args.at).0 c.fields.position d).0 in
    sym (number_child mid e c.args.at (FieldHop (get_or (links mid c.args.at).0 c.fields.position d).0) at)
    ∙ sym (children_number now mid one.children x)
    ∙ ap (λ (l : Links). number now (Field e (get_or l.0 c.fields.position d).0)) (sym (one.children.same c.args.at))
    ∙ c.field_at-child.ensures.number e d here

pub next_field-position-requires-in-fields-clause-tree : goal.next_field-position-requires-in-fields-clause-tree
next_field-position-requires-in-fields-clause-tree t c =
    let now = c.fields.nodes in
    let mid = c.clear_below.new.nodes in
    flags_tree mid c.flag_field.new.nodes c.flag_field.ensures.same
    (children_tree now mid c.clear_below.ensures.children (children_tree c.args.nodes.now now c.fields.invariant.shape c.requires.tree))

pub fields-preserved : goal.fields-preserved
fields-preserved t c =
    let old = c.args.nodes.now in
    let now = c.fields.nodes in
    let mid = c.clear_below.new.nodes in
    let new = c.flag_field.new.nodes in
    let fs = (links old c.args.at).0 in
    let k = c.fields.position in
    let d : Name × ℕ = ([], 0) in
    let S = covered_by c.args.covered.now in
    let inv = c.fields.invariant in
    let one = c.clear_below.ensures in
    let two = c.flag_field.ensures in
    let next = c.next_field-position-in-fields in
    let count = c.count_fields-fields.ensures in
    let within : k < length fs = omega arith in
    let same = flags_context mid new two.same in
    let shape = children_trans old now mid inv.shape one.children in
    let whole = children_trans old mid new shape (flags_children mid new two.same) in
    let child : (e : Element) → number old e ≡ Some c.args.at → number now (Field e (get_or fs k d).0) ≡ Some c.field_at-child.result =
    λ e p. ap (λ (l : Links). number now (Field e (get_or l.0 k d).0)) (inv.shape.same c.args.at)
    ∙ c.field_at-child.ensures.number e d (sym (children_number old now inv.shape e) ∙ p) in
    let cleared : (e : Element) → number old e ≡ Some c.args.at → context new ≡ clear (context now) (Field e (get_or fs k d).0) S = λ e p.
    sym same ∙ one.cleared (Field e (get_or fs k d).0) (child e p) in
    let (e, p) = c.requires.there in
    let nested = subst IsNested (sym (cleared e p)) (nested_clear (context now) (Field e (get_or fs k d).0) S inv.nested) in
    let empty = two.empty e (sym (children_number old mid shape e) ∙ p) one.empty in
    let long : length (links new c.args.at).0 ≡ length fs = ap (λ (l : Links). length l.0) (sym (whole.same c.args.at)) in
    let high = next.ensures.within in
    record {
      shape = whole;
      room = room_trans old mid new (room_trans old now mid inv.room one.room) two.room;
      indexed = two.same.indexed c.args.covered.now.table.now.numbers one.indexed;
      nested = nested;
      empty = empty;
      rest = λ e p.
          sym (past_fields e S fs (context new) d nested (k + 1) next.result next.ensures.from (omega (arith, high, long))
          (λ i from to. ap (λ (l : Links). is_any ((context new).presence (Field e (get_or l.0 i d).0))) (whole.same c.args.at)
          ∙ next.ensures.passed e i d (sym (children_number old new whole e) ∙ p) empty from to))
          ∙ ap (λ C. clear_each C (fields_of e (drop (k + 1) fs)) S) (cleared e p)
          ∙ sym (turn_field (context now) e fs S k d within) ∙ inv.rest e p;
      shown = λ e off p s.
          let x : Element = Field e (get_or fs k d).0 in
          let at : number mid e ≡ Some c.args.at = sym (children_number old mid shape e) ∙ p in
          let b = is_any (presence_of (slice_get now c.field_at-child.result)) in
          two.shown e off d at
          (subst (λ (l : Links). ShownBut mid (λ y. is_same y (Field e (get_or l.0 k d).0) || off y)) (shape.same c.args.at)
          (but_wider mid b x off (one.shown x off (child e p) (inv.shown e off p s))));
    }

-- the loop skips the items below the bound, and clearing these would change nothing
pub items-init : goal.items-init
items-init t c =
    let old = c.args.nodes.now in
    let now = c.fields.nodes in
    let S = covered_by c.args.covered.now in
    let inv = c.fields.invariant in
    let fs = (links old c.args.at).0 in
    let xs = (links old c.args.at).1 in
    let here : (e : Element) → number old e ≡ Some c.args.at → number now e ≡ Some c.args.at = λ e p.
    sym (children_number old now inv.shape e) ∙ p in
    let g = empty_below_of (slice_get now c.args.at) in
    let same : (links now c.args.at).1 ≡ xs = ap (λ (l : Links). l.1) (sym (inv.shape.same c.args.at)) in
    let from : drop c.first_item-from.result xs ≡ filter (λ x. nat_le g x.0.counter) (links now c.args.at).1 =
    ap (drop c.first_item-from.result) (sym same) ∙ c.first_item-from.ensures.from in
    let count = c.count_fields-fields.ensures in
    let none : drop c.fields.position fs ≡ [] = drop_all c.fields.position fs (omega arith) in
    record {
      shape = inv.shape;
      room = inv.room;
      indexed = inv.indexed;
      nested = inv.nested;
      empty = inv.empty;
      rest = λ e p.
          ap (λ ys. clear_each (context now) (items_of e ys) S) from
          ∙ past_empty e S (λ a. nat_le g a.counter) (links now c.args.at).1 (context now) inv.nested
          (none_before now e c.args.at (here e p) inv.empty)
          ∙ ap (λ ys. clear_each (context now) (items_of e ys) S) same
          ∙ ap (λ C. clear_each C (items_of e xs) S)
          (ap (λ ys. clear_each (context now) (fields_of e ys) S) (sym none) ∙ inv.rest e p);
      left = λ e p a lt any. ap (λ ys. is_some (find id_cmp a ys)) from ∙ stands_behind now e c.args.at (here e p) inv.empty a any;
      shown = inv.shown;
    }

pub clear_below-requires-in-items : goal.clear_below-requires-in-items
clear_below-requires-in-items t c =
    let old = c.args.nodes.now in
    let now = c.items.nodes in
    let inv = c.items.invariant in
    let tree = children_tree old now inv.shape c.requires.tree in
    let (e, p) = c.requires.there in
    let x : Element = Item e (get_or (links now c.args.at).1 c.items.position (id_at 0 0, 0)).0 in
    let child : number now x
    ≡ Some c.item_at-child.result = c.item_at-child.ensures.number e (id_at 0 0, 0) (sym (children_number old now inv.shape e) ∙ p) in
    let there : (y : Element) × (number now y ≡ Some c.item_at-child.result) = (x, child) in
    search rules

pub show_cleared-requires-clause-tree : goal.show_cleared-requires-clause-tree
show_cleared-requires-clause-tree t c = children_tree c.args.nodes.now c.clear_below-in-items.new.nodes
    (children_trans c.args.nodes.now c.items.nodes c.clear_below-in-items.new.nodes c.items.invariant.shape
    c.clear_below-in-items.ensures.children)
    c.requires.tree

pub items-preserved : goal.items-preserved
items-preserved t c =
    let old = c.args.nodes.now in
    let now = c.items.nodes in
    let mid = c.clear_below-in-items.new.nodes in
    let new = c.show_cleared.new.nodes in
    let xs = (links old c.args.at).1 in
    let k = c.items.position in
    let d : OpId × ℕ = (id_at 0 0, 0) in
    let S = covered_by c.args.covered.now in
    let inv = c.items.invariant in
    let one = c.clear_below-in-items.ensures in
    let two = c.show_cleared.ensures in
    let count : length xs
    ≡ c.count_items-items.result = ap (λ (l : Links). length l.1) (c.fields.invariant.shape.same c.args.at)
    ∙ sym c.count_items-items.ensures in
    let within : k < length xs = omega arith in
    let same = flags_context mid new two.same in
    let here : (e : Element) → number old e ≡ Some c.args.at → number now e ≡ Some c.args.at = λ e p.
    sym (children_number old now inv.shape e) ∙ p in
    let child : (e : Element) → number old e ≡ Some c.args.at → number now (Item e (get_or xs k d).0) ≡ Some c.item_at-child.result =
    λ e p. ap (λ (l : Links). number now (Item e (get_or l.1 k d).0)) (inv.shape.same c.args.at)
    ∙ c.item_at-child.ensures.number e d (here e p) in
    let (e, p) = c.requires.there in
    let x : Element = Item e (get_or xs k d).0 in
    let shape = children_trans old now mid inv.shape one.children in
    let whole = children_trans old mid new shape (flags_children mid new two.same) in
    record {
      shape = whole;
      room = room_trans old mid new (room_trans old now mid inv.room one.room) two.room;
      indexed = two.same.indexed c.args.covered.now.table.now.numbers one.indexed;
      nested = subst IsNested (sym (one.cleared x (child e p)) ∙ same) (nested_clear (context now) x S inv.nested);
      empty = two.empty e (sym (children_number old mid shape e) ∙ p) one.empty;
      rest = λ e p. ap (λ C. clear_each C (items_of e (drop (k + 1) xs)) S)
          (sym same ∙ one.cleared (Item e (get_or xs k d).0) (child e p))
          ∙ sym (turn_item (context now) e xs S k d within) ∙ inv.rest e p;
      left = λ e p a lt any.
          let x : Element = Item e (get_or xs k d).0 in
          let cleared : context new ≡ clear (context now) x S = sym same ∙ one.cleared x (child e p) in
          let stood = stood_before (context now) x S (Item e a)
          (sym (ap (λ (C : Context). is_any (C.presence (Item e a))) cleared) ∙ any) in
          let least : c.empty_below_after-empty_below.result ≡ cond (is_any (presence_of (slice_get new c.item_at-child.result)))
          (min c.items.empty_below (get_or xs k d).0.counter) c.items.empty_below = c.empty_below_after-empty_below.ensures d
          ∙ ap (λ (l : Links). cond (is_any (presence_of (slice_get new c.item_at-child.result)))
          (min c.items.empty_below (get_or l.1 k d).0.counter) c.items.empty_below) (sym (whole.same c.args.at)) in
          let le = lower (is_any (presence_of (slice_get new c.item_at-child.result))) c.items.empty_below (get_or xs k d).0.counter
          c.empty_below_after-empty_below.result least in
          let there : number new x ≡ Some c.item_at-child.result = sym (children_number now new
          (children_trans now mid new one.children (flags_children mid new two.same)) x) ∙ child e p in
          stands_more a xs k d within
          (λ is.
          let stands : is_any (presence_of (slice_get new c.item_at-child.result)) ≡ true =
          ap (λ o. is_any (presence_of (node_in new o))) (sym there)
          ∙ ap (λ b. is_any ((context new).presence (Item e b))) (sym is) ∙ any in
          let counter = ap (λ (b : OpId). b.counter) is in
          let most = le.1 stands in
          omega arith)
          (inv.left e p a (let l = le.0 in omega arith) stood);
      shown = λ e off p s.
          let x : Element = Item e (get_or xs k d).0 in
          let at : number mid e ≡ Some c.args.at = sym (children_number old mid shape e) ∙ p in
          let cleared = one.shown x off (child e p) (inv.shown e off p s) in
          let was : is_any (presence_of (slice_get now c.item_at-child.result)) ≡ c.is_present-was_present.result =
          sym c.is_present-was_present.ensures in
          two.shown e off d at
          (subst (λ (b : Bool). ShownBut mid
          (λ x. (b && is_same x (Item e (get_or (links mid c.args.at).1 k d).0)) || off x)) was
          (subst (λ (l : Links). ShownBut mid
          (λ x. (is_any (presence_of (slice_get now c.item_at-child.result)) && is_same x (Item e (get_or l.1 k d).0)) || off x))
          (shape.same c.args.at) cleared));
    }

pub set_empty_below-requires-clause-tree : goal.set_empty_below-requires-clause-tree
set_empty_below-requires-clause-tree t c = children_tree c.args.nodes.now c.items.nodes c.items.invariant.shape c.requires.tree

pub clear_node-requires-clause-tree : goal.clear_node-requires-clause-tree
clear_node-requires-clause-tree t c = flags_tree c.items.nodes c.set_empty_below.new.nodes c.set_empty_below.ensures.same
    (children_tree c.args.nodes.now c.items.nodes c.items.invariant.shape c.requires.tree)

pub clear_node-requires-clause-indexed : goal.clear_node-requires-clause-indexed
clear_node-requires-clause-indexed t c =
    c.set_empty_below.ensures.same.indexed c.args.covered.now.table.now.numbers c.items.invariant.indexed

pub returns-clause-children : goal.returns-clause-children
returns-clause-children t c =
    let now = c.items.nodes in
    let mid = c.set_empty_below.new.nodes in
    let new = c.clear_node.new.nodes in
    children_trans c.args.nodes.now now new c.items.invariant.shape
    (children_trans now mid new (flags_children now mid c.set_empty_below.ensures.same)
    (children_linked mid new c.clear_node.ensures.links))

pub returns-clause-room : goal.returns-clause-room
returns-clause-room t c =
    let now = c.items.nodes in
    let mid = c.set_empty_below.new.nodes in
    let new = c.clear_node.new.nodes in
    room_trans c.args.nodes.now now new c.items.invariant.room
    (room_trans now mid new c.set_empty_below.ensures.room c.clear_node.ensures.room)

pub returns-clause-cleared : goal.returns-clause-cleared
returns-clause-cleared t c = λ e p.
    let old = c.args.nodes.now in
    let now = c.items.nodes in
    let mid = c.set_empty_below.new.nodes in
    let S = covered_by c.args.covered.now in
    let here : number now e ≡ Some c.args.at = sym (children_number old now c.items.invariant.shape e) ∙ p in
    let xs = (links old c.args.at).1 in
    let count : length xs ≡ c.count_items-items.result = ap (λ (l : Links). length l.1) (c.fields.invariant.shape.same c.args.at)
    ∙ sym c.count_items-items.ensures in
    let none : drop c.items.position xs ≡ [] = drop_all c.items.position xs (omega arith) in
    let all : context now
    ≡ clear_each (clear_each (context old) (fields_of e (links old c.args.at).0) S) (items_of e (links old c.args.at).1) S =
    ap (λ xs. clear_each (context now) (items_of e xs) S) (sym none) ∙ c.items.invariant.rest e p in
    c.clear_node.ensures.cleared e (sym (flags_number now mid c.set_empty_below.ensures.same e) ∙ here)
    ∙ ap (λ C. clear_own C e S) (sym (flags_context now mid c.set_empty_below.ensures.same) ∙ all) ∙ clear_whole old e c.args.at S p

pub returns-clause-empty : goal.returns-clause-empty
returns-clause-empty t c =
    let old = c.args.nodes.now in
    let now = c.items.nodes in
    let mid = c.set_empty_below.new.nodes in
    let new = c.clear_node.new.nodes in
    let S = covered_by c.args.covered.now in
    let xs = (links old c.args.at).1 in
    let count : length xs ≡ c.count_items-items.result = ap (λ (l : Links). length l.1) (c.fields.invariant.shape.same c.args.at)
    ∙ sym c.count_items-items.ensures in
    let none : drop c.items.position xs ≡ [] = drop_all c.items.position xs (omega arith) in
    let (e, p) = c.requires.there in
    let here : number now e ≡ Some c.args.at = sym (children_number old now c.items.invariant.shape e) ∙ p in
    let at : number mid e ≡ Some c.args.at = sym (flags_number now mid c.set_empty_below.ensures.same e) ∙ here in
    empty_kept mid new c.clear_node.ensures.links
    (λ x empty. ap (λ (C : Context). is_any (C.presence x)) (c.clear_node.ensures.cleared e at)
    ∙ left_none S (is_same x e) ((context mid).presence x) empty)
    (c.set_empty_below.ensures.empty e here
    (none_left now e c.items.empty_below (drop c.items.position xs) none (c.items.invariant.left e p))
    c.items.invariant.empty)

pub returns-clause-shown : goal.returns-clause-shown
returns-clause-shown t c = λ e off p s.
    let old = c.args.nodes.now in
    let now = c.items.nodes in
    let mid = c.set_empty_below.new.nodes in
    let new = c.clear_node.new.nodes in
    let S = covered_by c.args.covered.now in
    let xs = (links old c.args.at).1 in
    let count : length xs ≡ c.count_items-items.result = ap (λ (l : Links). length l.1) (c.fields.invariant.shape.same c.args.at)
    ∙ sym c.count_items-items.ensures in
    let none : drop c.items.position xs ≡ [] = drop_all c.items.position xs (omega arith) in
    let here : number now e ≡ Some c.args.at = sym (children_number old now c.items.invariant.shape e) ∙ p in
    let done = c.clear_node.ensures.cleared e (sym (flags_number now mid c.set_empty_below.ensures.same e) ∙ here) in
    let present : is_any (presence_of (slice_get old c.args.at)) ≡ true = sym c.is_present.ensures ∙ c.if-not-is_present.false in
    subst (λ b. ShownBut new (λ x. (b && is_same x e) || off x)) (sym present)
    (but_kept mid new c.clear_node.ensures.links (λ l. ap (λ (C : Context). C.order l) done) off (λ x. is_same x e || off x)
    (λ x far. (
      (or_parts (is_same x e) (off x) far).1,
      ap (λ (C : Context). C.presence x) done
          ∙ ap (λ b. cond b (without S ((context mid).presence x)) ((context mid).presence x)) (or_parts (is_same x e) (off x) far).0,
    ))
    (c.set_empty_below.ensures.shown e off here
    (none_left now e c.items.empty_below (drop c.items.position xs) none (c.items.invariant.left e p)) (c.items.invariant.shown e off p s)))
