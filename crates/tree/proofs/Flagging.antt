-- A write to the flag of a node's field, and what the flags say of the fields that they pass.
use Rattle.std.proofs.Common.{◌≡◌, ℕ, ◌<◌, ◌&&◌, ◌||◌, Bool, true, false, cond, List, get_or, set}
use Rattle.std.proofs.Common.{Some, refl, sym, ap, ◌∙◌, subst}
use Rattle.std.specs.Prelude.{slice_get, unwrap_or}
use Rattle.std.specs.Ordering.{eq_by_cmp}
use Rattle.std.specs.FinMap.{find, put}
use Rattle.std.specs.List.{filter}
use Rattle.std.specs.FinMap.Entries.{find-put}
use Rattle.semantics.specs.Elements.{Element, Field, Item, Name, name_cmp, is_same}
use Rattle.semantics.specs.Paths.{FieldHop}
use Rattle.semantics.specs.Context.{Context}
use Rattle.semantics.specs.DocumentAnswer.{is_any}
use Rattle.semantics.proofs.Orders.{name_total, same_elements}
use Rattle.tree.specs.declared.node.Node.{Node}
use Rattle.tree.specs.Nodes.{IsTree, child_number, context, empty_below_of, is_flagged, links, links_of, node_at, node_in, number}
use Rattle.tree.specs.Nodes.{presence_of, visible_of}
use Rattle.tree.specs.Shown.{AreEmpty, SameButFlags, ShownBut}
use Rattle.tree.proofs.Shape.{links_each, node_found, node_set, number_child}
use Rattle.tree.proofs.SameViews.{empty_below_view, visible_view}
use Rattle.tree.proofs.Showing.{flags_context, flags_number}
use Rattle.tree.proofs.Widened.{same_set}

-- the flag of a name, once that of another was put
flag_put : (fs : List (Name × Bool)) (k n : Name) (b : Bool)
    → unwrap_or (find name_cmp k (put name_cmp n b fs)) false ≡ cond (eq_by_cmp name_cmp k n) b (unwrap_or (find name_cmp k fs) false)
flag_put fs k n b = ap (λ o. unwrap_or o false) (find-put name_cmp name_total k n b fs)
    ∙ elim (eq_by_cmp name_cmp k n) as
    (λ c. unwrap_or (cond c (Some b) (find name_cmp k fs)) false ≡ cond c b (unwrap_or (find name_cmp k fs) false)) [
      | true ↦ refl
      | false ↦ refl
    ]

module _ (ns : List Node) (t : IsTree ns) (i : ℕ) (n m : Node) (g : slice_get ns i ≡ Some n)
    (same_links : links_of (Some m) ≡ links_of (Some n)) (order : m.order ≡ n.order) (same : SameButFlags ns (set ns i m))
    (e : Element) (at : number ns e ≡ Some i) (name : Name) (b : Bool) (flags : m.fields.flags ≡ put name_cmp name b n.fields.flags) where
  abbrev pub new : List Node
  new = set ns i m

  -- the flag that was set is what the write says, and the others are what they were
  flag_read : (x : Element) (k : Name)
      → is_flagged (node_at new x) k ≡ cond (is_same (Field x k) (Field e name)) b (is_flagged (node_at ns x) k)
  flag_read x k = ap (λ o. is_flagged o k) (node_set ns t e i n m at g same_links x) ∙ by (is_same x e) refl
    where
      by : (c : Bool) → is_same x e ≡ c
          → is_flagged (cond c (Some m) (node_at ns x)) k ≡ cond (eq_by_cmp name_cmp k name && c) b (is_flagged (node_at ns x) k)
      by true q =
          ap (λ fs. unwrap_or (find name_cmp k fs) false) flags ∙ flag_put n.fields.flags k name b
          ∙ ap (λ o. cond (eq_by_cmp name_cmp k name) b (is_flagged o k))
          (sym (ap (node_at ns) (same_elements x e q) ∙ node_found ns e i n at g))
          ∙ elim (eq_by_cmp name_cmp k name) as
          (λ c. cond c b (is_flagged (node_at ns x) k) ≡ cond (c && true) b (is_flagged (node_at ns x) k)) [ true ↦ refl | false ↦ refl ]
      by false q = elim (eq_by_cmp name_cmp k name) as
          (λ c. is_flagged (node_at ns x) k ≡ cond (c && false) b (is_flagged (node_at ns x) k)) [ true ↦ refl | false ↦ refl ]

  module _ (j : ℕ) (child : child_number ns i (FieldHop name) ≡ Some j) (is : b ≡ is_any (presence_of (slice_get ns j))) where
    -- where the flag is set to whether something stands there, nothing stands at the field unless it is raised
    here : (x : Element) (k : Name) (c : Bool) → is_same (Field x k) (Field e name) ≡ c
        → (c ≡ false → is_flagged (node_at ns x) k ≡ false → is_any ((context ns).presence (Field x k)) ≡ false)
        → cond c b (is_flagged (node_at ns x) k) ≡ false → is_any ((context ns).presence (Field x k)) ≡ false
    here x k true q was low =
        ap (λ y. is_any ((context ns).presence y)) (same_elements (Field x k) (Field e name) q)
        ∙ ap (λ o. is_any (presence_of (node_in ns o))) (number_child ns e i (FieldHop name) at ∙ child)
        ∙ sym is ∙ low
    here x k false q was low = was refl low

    low_field : (x : Element) (k : Name)
        → (is_same (Field x k) (Field e name) ≡ false → is_flagged (node_at ns x) k ≡ false
        → is_any ((context ns).presence (Field x k)) ≡ false)
        → is_flagged (node_at new x) k ≡ false → is_any ((context new).presence (Field x k)) ≡ false
    low_field x k was low = ap (λ (C : Context). is_any (C.presence (Field x k))) (sym (flags_context ns new same))
        ∙ here x k (is_same (Field x k) (Field e name)) refl was (sym (flag_read x k) ∙ low)

    empty_below_same : m.empty_below ≡ n.empty_below → (l : Element) → empty_below_of (node_at new l) ≡ empty_below_of (node_at ns l)
    empty_below_same q l = sym (empty_below_view ns new (links_each ns i n m g same_links) (same_set empty_below_of ns i n m g q) l)

    pub field_empty : m.empty_below ≡ n.empty_below → AreEmpty ns → AreEmpty new
    field_empty empty_below empty = record {
      items = λ l a lt. ap (λ (C : Context). is_any (C.presence (Item l a))) (sym (flags_context ns new same))
          ∙ empty.items l a (subst (λ k. a.counter < k) (empty_below_same empty_below l) lt);
      fields = λ x k low. low_field x k (λ far. empty.fields x k) low;
    }

    pub field_shown : m.empty_below ≡ n.empty_below → (off : Element → Bool) → ShownBut ns (λ x. is_same x (Field e name) || off x)
        → ShownBut new off
    field_shown empty_below off s =
        let C = flags_context ns new same in
        let visible = same_set visible_of ns i n m g (ap (λ o. o.visible) order) in
        record {
          flag = s.flag;
          flagged = λ l. sym (visible_view ns new (links_each ns i n m g same_links) visible l) ∙ s.flagged l
              ∙ ap (λ (D : Context). filter (s.flag l) (D.order l)) C;
          right = λ l a far. s.right l a far ∙ ap (λ (D : Context). is_any (D.presence (Item l a))) C;
          absent = λ l a none. s.absent l a (flags_number ns new same (Item l a) ∙ none);
          empty_below = λ l a far lt. ap (λ (D : Context). is_any (D.presence (Item l a))) (sym C)
              ∙ s.empty_below l a far (subst (λ k. a.counter < k) (empty_below_same empty_below l) lt);
          fields = λ x k far low. low_field x k (λ apart. s.fields x k (ap (λ c. c || off (Field x k)) apart ∙ far)) low;
        }

-- nothing stands at a field whose flag was found lowered
pub passed_field : (ns : List Node) (e : Element) (i : ℕ) (n : Node) (k : ℕ) (d : Name × ℕ) → number ns e ≡ Some i → slice_get ns i ≡ Some n
    → AreEmpty ns → find name_cmp (get_or n.fields.entries k d).0 n.fields.flags ≡ Some false
    → is_any ((context ns).presence (Field e (get_or (links ns i).0 k d).0)) ≡ false
passed_field ns e i n k d at g empty low =
    ap (λ o. is_any ((context ns).presence (Field e (get_or (links_of o).0 k d).0))) g
    ∙ empty.fields e (get_or n.fields.entries k d).0
    (ap (λ o. is_flagged o (get_or n.fields.entries k d).0) (node_found ns e i n at g) ∙ ap (λ o. unwrap_or o false) low)
