-- What lists show while flags are set one by one.
use Rattle.std.proofs.Common.{◌≡◌, ℕ, ◌+◌, ◌<◌, ◌≤◌, min, arith, ◌||◌, ◌&&◌, Bool, true, false, true≢false, cond, List, set, take}
use Rattle.std.proofs.Common.{Option, Some, None, refl, sym, ap, ◌∙◌, subst, length-set, inl, inr}
use Rattle.std.specs.Prelude.{slice_get}
use Rattle.std.proofs.Math.Nat.{min-le_left, min-le_right}
use Rattle.std.specs.List.{filter}
use Rattle.std.proofs.lemmas.Bool.{false_from_ne_true, or_cases, or_left, or_right}
use Rattle.std.proofs.lemmas.Option.{none-some}
use Rattle.semantics.specs.Ids.{OpId, is_same_id}
use Rattle.semantics.specs.Elements.{Element, Field, Item, Name, is_same, is_under}
use Rattle.semantics.specs.Context.{Context}
use Rattle.semantics.specs.Paths.{Hop, ItemHop, child}
use Rattle.semantics.specs.DocumentAnswer.{is_any}
use Rattle.semantics.proofs.Orders.{element_itself, same_elements}
use Rattle.columns.specs.Entries.{AreIndicesIn}
use Rattle.tree.specs.declared.node.Node.{Node}
use Rattle.tree.specs.Nodes.{IsTree, SameChildren, SameLinks, child_number, context, flags_of, empty_below_of, is_flagged, is_written}
use Rattle.tree.specs.Nodes.{links_of}
use Rattle.tree.specs.Nodes.{node_at}
use Rattle.tree.specs.Nodes.{node_in, number, order_of, presence_of, register_of, tagged, valued, visible_of}
use Rattle.tree.specs.Shown.{AreEmpty, AreShown, IsEmptyBelow, SameButFlags, ShownBut}
use Rattle.tree.specs.Writes.{end_of}
use Rattle.tree.proofs.Beneath.{way_lost}
use Rattle.tree.proofs.Clears.{under_step}
use Rattle.tree.proofs.Writes.{same_sym}
use Rattle.tree.proofs.Shape.{links_each, node_found, node_set, number_child, number_links, number_same, tree_links}
use Rattle.tree.proofs.NodeWrites.{indexed_at, indexed_set}
use Rattle.tree.proofs.SameViews.{context_view, flagged_view, empty_below_view, visible_view}
use Rattle.tree.proofs.Widened.{same_set}

pub flags_same : (ns : List Node) → SameButFlags ns ns
flags_same ns = record {
  count = refl;
  view = record { links = λ i. refl; presence = λ i. refl; register = λ i. refl; order = λ i. refl; written = λ i. refl };
  indexed = λ table b. b;
}

pub flags_trans : (a b c : List Node) → SameButFlags a b → SameButFlags b c → SameButFlags a c
flags_trans a b c p q =
    let v = p.view in
    let w = q.view in
    record {
      count = p.count ∙ q.count;
      view = record {
        links = λ i. v.links i ∙ w.links i;
        presence = λ i. v.presence i ∙ w.presence i;
        register = λ i. v.register i ∙ w.register i;
        order = λ i. v.order i ∙ w.order i;
        written = λ i. v.written i ∙ w.written i;
      };
      indexed = λ table h. q.indexed table (p.indexed table h);
    }

pub flags_number : (ns ms : List Node) → SameButFlags ns ms → (e : Element) → number ns e ≡ number ms e
flags_number ns ms s e = let v = s.view in number_links ns ms v.links e

pub flags_tree : (ns ms : List Node) → SameButFlags ns ms → IsTree ns → IsTree ms
flags_tree ns ms s t = let v = s.view in tree_links ns ms s.count v.links t

pub flags_context : (ns ms : List Node) → SameButFlags ns ms → context ns ≡ context ms
flags_context ns ms s = context_view ns ms s.view

-- with fewer wrong flags, if those that have a node are among the wrong ones
pub but_more : (ns : List Node) (off new : Element → Bool) → ((x : Element) (i : ℕ) → number ns x ≡ Some i → off x ≡ true → new x ≡ true)
    → ShownBut ns off → ShownBut ns new
but_more ns off new h s = record {
  flag = s.flag;
  flagged = s.flagged;
  right = λ l a n. by l a n (number ns (Item l a)) refl (off (Item l a)) refl;
  absent = s.absent;
  empty_below = λ l a n lt. nothing (Item l a) n (λ q. s.empty_below l a q lt) (number ns (Item l a)) refl (off (Item l a)) refl;
  fields = λ e k n low. nothing (Field e k) n (λ q. s.fields e k q low) (number ns (Field e k)) refl (off (Field e k)) refl;
}
  where
    nothing : (x : Element) → new x ≡ false → (off x ≡ false → is_any ((context ns).presence x) ≡ false) → (o : Option ℕ)
        → number ns x ≡ o → (b : Bool) → off x ≡ b → is_any ((context ns).presence x) ≡ false
    nothing x n was None p b q = ap (λ o. is_any (presence_of (node_in ns o))) p
    nothing x n was (Some i) p true q = absurd (true≢false (sym (h x i p q) ∙ n))
    nothing x n was (Some i) p false q = was q

    by : (l : Element) (a : OpId) → new (Item l a) ≡ false → (o : Option ℕ) → number ns (Item l a) ≡ o → (b : Bool) → off (Item l a) ≡ b
        → s.flag l a ≡ is_any ((context ns).presence (Item l a))
    by l a n None p b q = s.absent l a p ∙ sym (ap (λ o. is_any (presence_of (node_in ns o))) p)
    by l a n (Some i) p true q = absurd (true≢false (sym (h (Item l a) i p q) ∙ n))
    by l a n (Some i) p false q = s.right l a q

-- where none is wrong, each list shows its visible items, and nothing stands at what is empty
pub but_none : (ns : List Node) → ShownBut ns (λ x. false) → AreShown ns × AreEmpty ns
but_none ns s = (
  λ e. s.flagged e ∙ (λ i. filter (λ a. s.right e a refl i) (order_of (node_at ns e))),
  record { items = λ l a lt. s.empty_below l a refl lt; fields = λ e n low. s.fields e n refl low },
)

-- the flags, once that of the item id of e was set
abbrev pub flag_at : (Element → OpId → Bool) → Element → OpId → Bool → Element → OpId → Bool
flag_at f e id b l a = cond (is_same (Item l a) (Item e id)) b (f l a)

elsewhere : (f : Element → OpId → Bool) (e l : Element) (id : OpId) (b : Bool) → is_same l e ≡ false → (a : OpId)
    → f l a ≡ flag_at f e id b l a
elsewhere f e l id b d a =
    elim (is_same_id a id) as (λ c. f l a ≡ cond (c && false) b (f l a)) [ true ↦ refl | false ↦ refl ]
    ∙ sym (ap (λ c. cond (is_same_id a id && c) b (f l a)) d)

here : (f : Element → OpId → Bool) (e l : Element) (id : OpId) (b : Bool) → is_same l e ≡ true → (a : OpId)
    → cond (is_same_id a id) b (f l a) ≡ flag_at f e id b l a
here f e l id b d a =
    elim (is_same_id a id) as (λ c. cond c b (f l a) ≡ cond (c && true) b (f l a)) [ true ↦ refl | false ↦ refl ]
    ∙ sym (ap (λ c. cond (is_same_id a id && c) b (f l a)) d)

-- except for one item the bound is at most what it was, and at most the item's counter, if it stands
pub lower : (b : Bool) (g k r : ℕ) → r ≡ cond b (min g k) g → (r ≤ g) × (b ≡ true → r ≤ k)
lower true g k r is = let x = min-le_left g k in let y = min-le_right g k in (omega arith, λ yes. omega arith)
lower false g k r is = (omega arith, λ no. absurd (true≢false (sym no)))

list_is : (l e : Element) (a b : OpId) → Item l a ≡ Item e b → l ≡ e
list_is l e a b p = cc

id_is : (l e : Element) (a b : OpId) → Item l a ≡ Item e b → a ≡ b
id_is l e a b p = cc

-- a write to a node's flags, and to its list's bound of empty items
module _ (ns : List Node) (t : IsTree ns) (i : ℕ) (n m : Node) (g : slice_get ns i ≡ Some n)
    (same_links : links_of (Some m) ≡ links_of (Some n)) (same_order : m.order.items ≡ n.order.items) where
  pub flag_same : m.presence ≡ n.presence → m.register ≡ n.register → m.is_written ≡ n.is_written → SameButFlags ns (set ns i m)
  flag_same p r w = record {
    count = sym (length-set ns i m);
    view = record {
      links = links_each ns i n m g same_links;
      presence = same_set presence_of ns i n m g (ap (λ c. tagged c.entries) p);
      register = same_set register_of ns i n m g (ap (λ c. valued c.entries) r);
      order = same_set order_of ns i n m g same_order;
      written = same_set is_written ns i n m g w;
    };
    indexed = λ table b. indexed_set table ns i n m g b (let h = indexed_at table ns i n g b in
        (subst (λ c. AreIndicesIn table c.entries c.indices) (sym p) h.0, subst (λ c. AreIndicesIn table c.entries c.indices) (sym r) h.1));
  }

  -- where the flags of its fields stay, they stay everywhere
  same_flagged : m.fields.flags ≡ n.fields.flags → (x : Element) (k : Name)
      → is_flagged (node_at ns x) k ≡ is_flagged (node_at (set ns i m) x) k
  same_flagged q = flagged_view ns (set ns i m) (links_each ns i n m g same_links) (same_set flags_of ns i n m g q)

  -- the bound of e is what the write says, and elsewhere what it was
  empty_below_set : (e : Element) → number ns e ≡ Some i → (l : Element) (b : Bool) → is_same l e ≡ b
      → empty_below_of (node_at (set ns i m) l) ≡ cond b m.empty_below (empty_below_of (node_at ns l))
  empty_below_set e at l true q = ap empty_below_of (node_set ns t e i n m at g same_links l ∙ ap (λ b. cond b (Some m) (node_at ns l)) q)
  empty_below_set e at l false q = ap empty_below_of (node_set ns t e i n m at g same_links l ∙ ap (λ b. cond b (Some m) (node_at ns l)) q)

  empty_no_more : (e : Element) → number ns e ≡ Some i → m.empty_below ≤ n.empty_below → (l : Element) (b : Bool) → is_same l e ≡ b
      → empty_below_of (node_at (set ns i m) l) ≤ empty_below_of (node_at ns l)
  empty_no_more e at less l true q =
      let new = empty_below_set e at l true q in
      let old : empty_below_of (node_at ns l) ≡ n.empty_below = ap (λ x. empty_below_of (node_at ns x)) (same_elements l e q)
      ∙ ap empty_below_of (node_found ns e i n at g) in
      omega arith
  empty_no_more e at less l false q = let new = empty_below_set e at l false q in omega arith

  -- where the bound is no greater than it was, nothing stands below it still
  pub empty_below_lower : m.fields.flags ≡ n.fields.flags → SameButFlags ns (set ns i m) → (e : Element) → number ns e ≡ Some i
      → m.empty_below ≤ n.empty_below → AreEmpty ns → AreEmpty (set ns i m)
  empty_below_lower fields same e at less empty =
      let C = flags_context ns (set ns i m) same in
      record {
        items = λ l a lt. let le = empty_no_more e at less l (is_same l e) refl in
            ap (λ D. is_any (D.presence (Item l a))) (sym C) ∙ empty.items l a (omega arith);
        fields = λ x k low. ap (λ D. is_any (D.presence (Field x k))) (sym C) ∙ empty.fields x k (same_flagged fields x k ∙ low);
      }

  -- what lies below the bound now lay below it, or does by the write
  empty_below_or_set : (e : Element) → number ns e ≡ Some i → IsEmptyBelow ns e m.empty_below → (l : Element) (a : OpId)
      → (a.counter < empty_below_of (node_at ns l) → is_any ((context ns).presence (Item l a)) ≡ false)
      → a.counter < empty_below_of (node_at (set ns i m) l) → is_any ((context ns).presence (Item l a)) ≡ false
  empty_below_or_set e at below l a was lt = by (is_same l e) refl
    where
      by : (b : Bool) → is_same l e ≡ b → is_any ((context ns).presence (Item l a)) ≡ false
      by true q = ap (λ y. is_any ((context ns).presence (Item y a))) (same_elements l e q)
          ∙ below a (subst (λ k. a.counter < k) (empty_below_set e at l true q) lt)
      by false q = was (subst (λ k. a.counter < k) (empty_below_set e at l false q) lt)

  pub empty_below_raised : m.fields.flags ≡ n.fields.flags → SameButFlags ns (set ns i m) → (e : Element) → number ns e ≡ Some i
      → IsEmptyBelow ns e m.empty_below → AreEmpty ns → AreEmpty (set ns i m)
  empty_below_raised fields same e at below empty =
      let C = flags_context ns (set ns i m) same in
      record {
        items = λ l a lt. ap (λ D. is_any (D.presence (Item l a))) (sym C) ∙ empty_below_or_set e at below l a (empty.items l a) lt;
        fields = λ x k low. ap (λ D. is_any (D.presence (Field x k))) (sym C) ∙ empty.fields x k (same_flagged fields x k ∙ low);
      }

  -- the flags stay
  pub but_raised : m.order ≡ n.order → m.fields.flags ≡ n.fields.flags → SameButFlags ns (set ns i m) → (e : Element) → number ns e ≡ Some i
      → IsEmptyBelow ns e m.empty_below → (off : Element → Bool) → ShownBut ns off → ShownBut (set ns i m) off
  but_raised order fields same e at below off s =
      let new = set ns i m in
      let C = flags_context ns new same in
      let links = links_each ns i n m g same_links in
      record {
        flag = s.flag;
        flagged = λ l. sym (visible_view ns new links (same_set visible_of ns i n m g (ap (λ o. o.visible) order)) l) ∙ s.flagged l
            ∙ ap (λ (D : Context). filter (s.flag l) (D.order l)) C;
        right = λ l a far. s.right l a far ∙ ap (λ (D : Context). is_any (D.presence (Item l a))) C;
        absent = λ l a none. s.absent l a (flags_number ns new same (Item l a) ∙ none);
        empty_below = λ l a far lt. ap (λ (D : Context). is_any (D.presence (Item l a))) (sym C)
            ∙ empty_below_or_set e at below l a (s.empty_below l a far) lt;
        fields = λ x k far low. ap (λ (D : Context). is_any (D.presence (Field x k))) (sym C)
            ∙ s.fields x k far (same_flagged fields x k ∙ low);
      }

  module _ (e : Element) (at : number ns e ≡ Some i) (id : OpId) (j : ℕ) (child : child_number ns i (ItemHop id) ≡ Some j) (shown : Bool)
      (is : shown ≡ is_any (presence_of (slice_get ns j))) where
    flagged_set : (f : Element → OpId → Bool) → ((l : Element) → visible_of (node_at ns l) ≡ filter (f l) (order_of (node_at ns l)))
        → ((f : OpId → Bool) → n.order.visible ≡ filter f n.order.items
        → m.order.visible ≡ filter (λ a. cond (is_same_id a id) shown (f a)) n.order.items)
        → (l : Element) (b : Bool) → is_same l e ≡ b
        → visible_of (cond b (Some m) (node_at ns l)) ≡ filter (flag_at f e id shown l) (order_of (cond b (Some m) (node_at ns l)))
    flagged_set f was sets l true q =
        let there : node_at ns l ≡ Some n = ap (node_at ns) (same_elements l e q) ∙ node_found ns e i n at g in
        sets (f l) (sym (ap visible_of there) ∙ was l ∙ ap (λ o. filter (f l) (order_of o)) there)
        ∙ (λ k. filter (λ a. here f e l id shown q a k) (sym same_order k))
    flagged_set f was sets l false q = was l ∙ (λ k. filter (λ a. elsewhere f e l id shown q a k) (order_of (node_at ns l)))

    there : number ns (Item e id) ≡ Some j
    there = number_child ns e i (ItemHop id) at ∙ child

    right_set : (s : Bool) (l : Element) (a : OpId) (b : Bool) → is_same (Item l a) (Item e id) ≡ b
        → (b ≡ false → s ≡ is_any ((context ns).presence (Item l a))) → cond b shown s ≡ is_any ((context ns).presence (Item l a))
    right_set s l a true q h = is ∙ ap (λ o. is_any (presence_of (node_in ns o))) (sym there)
        ∙ ap (λ x. is_any ((context ns).presence x)) (sym (same_elements (Item l a) (Item e id) q))
    right_set s l a false q h = h refl

    absent_set : (s : Bool) (l : Element) (a : OpId) (b : Bool) → is_same (Item l a) (Item e id) ≡ b → number ns (Item l a) ≡ None
        → s ≡ false → cond b shown s ≡ false
    absent_set s l a true q p h = absurd (none-some j (sym p ∙ ap (number ns) (same_elements (Item l a) (Item e id) q) ∙ there))
    absent_set s l a false q p h = h

    -- the item whose flag is set lies below the bound no longer, if it is shown
    empty_below_here : m.empty_below ≤ n.empty_below → (shown ≡ true → m.empty_below ≤ id.counter) → (l : Element) (a : OpId) (b : Bool)
        → is_same (Item l a) (Item e id) ≡ b
        → (b ≡ false → a.counter < empty_below_of (node_at ns l) → is_any ((context ns).presence (Item l a)) ≡ false)
        → a.counter < empty_below_of (node_at (set ns i m) l) → is_any ((context ns).presence (Item l a)) ≡ false
    empty_below_here less reached l a false q was lt =
        let le = empty_no_more e at less l (is_same l e) refl in
        was refl (omega arith)
    empty_below_here less reached l a true q was lt =
        let same = same_elements (Item l a) (Item e id) q in
        let here : shown ≡ is_any ((context ns).presence (Item l a)) = is ∙ ap (λ o. is_any (presence_of (node_in ns o))) (sym there)
        ∙ ap (λ x. is_any ((context ns).presence x)) (sym same) in
        let new = empty_below_set e at l true (ap (λ x. is_same x e) (list_is l e a id same) ∙ element_itself e) in
        let counter = ap (λ (b : OpId). b.counter) (id_is l e a id same) in
        sym here ∙ false_from_ne_true shown (λ yes. let le = reached yes in omega arith)

    -- sets the flag right
    pub flag_set : m.fields.flags ≡ n.fields.flags → SameButFlags ns (set ns i m) → m.empty_below ≤ n.empty_below
        → (shown ≡ true → m.empty_below ≤ id.counter)
        → ((f : OpId → Bool) → n.order.visible ≡ filter f n.order.items
        → m.order.visible ≡ filter (λ a. cond (is_same_id a id) shown (f a)) n.order.items)
        → (off : Element → Bool) → ShownBut ns (λ x. is_same x (Item e id) || off x) → ShownBut (set ns i m) off
    flag_set fields same less reached sets off s = record {
      flag = flag_at s.flag e id shown;
      flagged = λ l. let new = node_set ns t e i n m at g same_links l in
          ap visible_of new ∙ flagged_set s.flag s.flagged sets l (is_same l e) refl
          ∙ ap (λ o. filter (flag_at s.flag e id shown l) (order_of o)) (sym new);
      right = λ l a o.
          right_set (s.flag l a) l a (is_same (Item l a) (Item e id)) refl (λ q. s.right l a (ap (λ b. b || off (Item l a)) q ∙ o))
          ∙ ap (λ C. is_any (C.presence (Item l a))) (flags_context ns (set ns i m) same);
      absent = λ l a p. let none = flags_number ns (set ns i m) same (Item l a) ∙ p in
          absent_set (s.flag l a) l a (is_same (Item l a) (Item e id)) refl none (s.absent l a none);
      empty_below = λ l a o lt.
          ap (λ C. is_any (C.presence (Item l a))) (sym (flags_context ns (set ns i m) same))
          ∙ empty_below_here less reached l a (is_same (Item l a) (Item e id)) refl
          (λ q. s.empty_below l a (ap (λ b. b || off (Item l a)) q ∙ o)) lt;
      fields = λ x k far low. ap (λ C. is_any (C.presence (Field x k))) (sym (flags_context ns (set ns i m) same))
          ∙ s.fields x k far (same_flagged fields x k ∙ low);
    }

-- where a hop leads to no node, no flag can be wrong there
pub but_lost : (ns : List Node) (x : Element) (off : Element → Bool) → number ns x ≡ None
    → ShownBut ns (λ y. is_same y x || off y) → ShownBut ns off
but_lost ns x off none = but_more ns _ off (λ y j p u. elim (or_cases (is_same y x) (off y) u) [
  | inl e ↦ absurd (none-some j (sym none ∙ ap (number ns) (sym (same_elements y x e)) ∙ p))
  | inr o ↦ o
])

-- one hop of the walk down a path
pub but_hop : (ns : List Node) (path : List Hop) (k : ℕ) (e : Element) (h : Hop) (off : Element → Bool)
    → end_of (take (k + 1) path) ≡ child e h
    → ShownBut ns (λ x. is_under (end_of (take (k + 1) path)) x || off x)
    → ShownBut ns (λ x. is_under e x || (is_same x (child e h) || off x))
but_hop ns path k e h off is = subst (ShownBut ns)
    (λ t y. (ap (λ x. is_under x y || off y) is ∙ ap (λ b. b || off y) (under_step e y h)
    ∙ ap (λ b. (b || is_under e y) || off y) (same_sym (child e h) y) ∙ or_swap (is_same y (child e h)) (is_under e y) (off y)) t)
  where
    or_swap : (a b c : Bool) → ((a || b) || c) ≡ (b || (a || c))
    or_swap true true c = refl
    or_swap true false c = refl
    or_swap false b c = refl

-- where a hop leads to no node, the way ends
pub but_way : (ns : List Node) (path : List Hop) (k : ℕ) (e : Element) (h : Hop) (off : Element → Bool)
    → end_of (take (k + 1) path) ≡ child e h → number ns (child e h) ≡ None
    → ShownBut ns (λ x. is_under (end_of path) x || off x)
    → ShownBut ns (λ x. is_under e x || (is_same x (child e h) || off x))
but_way ns path k e h off is none = but_more ns _ _ (λ y j p u. elim (or_cases (is_under (end_of path) y) (off y) u) [
  | inl v ↦ or_left _ _ (way_lost ns path (k + 1) e h is none y j p v)
  | inr o ↦ or_right (is_under e y) _ (or_right (is_same y (child e h)) _ o)
])

or_nothing : (b : Bool) → b ≡ (b || false)
or_nothing true = refl
or_nothing false = refl

-- no other flag is wrong
pub or_none : (ns : List Node) (off : Element → Bool) → ShownBut ns off → ShownBut ns (λ x. off x || false)
or_none ns off = subst (ShownBut ns) (λ k x. or_nothing (off x) k)

-- a new item, and the way to its list
pub new_parts : (ns : List Node) (m : Element) (id : OpId) → ShownBut ns (is_under (Item m id))
    → ShownBut ns (λ x. is_under m x || (is_same x (Item m id) || false))
new_parts ns m id = subst (ShownBut ns)
    (λ k x. (ap (λ b. b || is_under m x) (same_sym (Item m id) x) ∙ swapped (is_same x (Item m id)) (is_under m x)) k)
  where
    swapped : (a b : Bool) → (a || b) ≡ (b || (a || false))
    swapped true true = refl
    swapped true false = refl
    swapped false b = or_nothing b

-- where each list shows its visible items, and nothing stands at what is empty, no flag is wrong
pub shown_but : (ns : List Node) → AreShown ns → AreEmpty ns → ShownBut ns (λ x. false)
shown_but ns shown empty = record {
  flag = λ l a. is_any ((context ns).presence (Item l a));
  flagged = shown;
  right = λ l a far. refl;
  absent = λ l a none. ap (λ o. is_any (presence_of (node_in ns o))) none;
  empty_below = λ l a far lt. empty.items l a lt;
  fields = λ e n far low. empty.fields e n low;
}

-- where flags and orders stay, those at elements whose presence stays are as right as they were
pub but_kept : (ns ms : List Node) → SameLinks ns ms → ((l : Element) → order_of (node_at ms l) ≡ order_of (node_at ns l))
    → (off new : Element → Bool)
    → ((x : Element) → new x ≡ false → (off x ≡ false) × ((context ms).presence x ≡ (context ns).presence x))
    → ShownBut ns off → ShownBut ms new
but_kept ns ms links order off new same s = record {
  flag = s.flag;
  flagged = λ l. sym (visible_view ns ms links.same links.visible l) ∙ s.flagged l ∙ ap (filter (s.flag l)) (sym (order l));
  right = λ l a far. let h = same (Item l a) far in s.right l a h.0 ∙ ap is_any (sym h.1);
  absent = λ l a none. s.absent l a (number_same ns ms links (Item l a) ∙ none);
  empty_below = λ l a far lt.
      let h = same (Item l a) far in
      ap is_any h.1 ∙ s.empty_below l a h.0 (subst (λ g. a.counter < g) (sym (empty_below_view ns ms links.same links.empty_below l)) lt);
  fields = λ e n far low.
      let h = same (Field e n) far in
      ap is_any h.1 ∙ s.fields e n h.0 (flagged_view ns ms links.same links.flags e n ∙ low);
}

-- where flags and bounds stay, nothing stands there if nothing new stands anywhere
pub empty_kept : (ns ms : List Node) → SameLinks ns ms
    → ((x : Element) → is_any ((context ns).presence x) ≡ false → is_any ((context ms).presence x) ≡ false) → AreEmpty ns → AreEmpty ms
empty_kept ns ms links fewer empty = record {
  items = λ l a lt. fewer (Item l a)
      (empty.items l a (subst (λ g. a.counter < g) (sym (empty_below_view ns ms links.same links.empty_below l)) lt));
  fields = λ e n low. fewer (Field e n) (empty.fields e n (flagged_view ns ms links.same links.flags e n ∙ low));
}

-- the same children, whatever the flags
pub flags_children : (ns ms : List Node) → SameButFlags ns ms → SameChildren ns ms
flags_children ns ms s = let v = s.view in record { count = s.count; same = v.links }

-- with more flags that may be wrong
pub but_wider : (ns : List Node) (b : Bool) (x : Element) (off : Element → Bool)
    → ShownBut ns (λ y. (b && is_same y x) || off y) → ShownBut ns (λ y. is_same y x || off y)
but_wider ns b x off = but_more ns _ _ (λ y i p u. wider b (is_same y x) (off y) u)
  where
    wider : (b s o : Bool) → ((b && s) || o) ≡ true → (s || o) ≡ true
    wider true s o u = u
    wider false true o u = refl
    wider false false o u = u
