-- What linking a child to a node by its name or its id changes.
use Rattle.std.proofs.Common.{◌≡◌, ◌⊎◌, ℕ, true, false, cond, IsTrue, List, [], ◌∷◌, set, Option, Some, None, refl, sym, ap, ◌∙◌, subst}
use Rattle.std.proofs.Common.{inl, inr, length-set}
use Rattle.std.specs.declared.cmp.Ordering.{Ordering}
use Rattle.std.specs.declared.cmp.Ordering.TheVariants.{Less, Equal, Greater}
use Rattle.std.specs.Prelude.{slice_get, unwrap_or}
use Rattle.std.specs.Cmp.{IsTotalOrder}
use Rattle.std.specs.Ordering.{is_eq, eq_by_cmp}
use Rattle.std.specs.FinMap.{find, put, is_sorted}
use Rattle.std.specs.FinMap.Entries.{by_order, find-put}
use Rattle.std.proofs.lemmas.Bool.{cases_eq}
use Rattle.std.proofs.lemmas.Cmp.{tied_itself}
use Rattle.std.proofs.lemmas.Option.{none-some}
use Rattle.semantics.specs.Ids.{OpId, id_cmp}
use Rattle.semantics.specs.Elements.{Name, name_cmp}
use Rattle.semantics.specs.Paths.{Hop, FieldHop, ItemHop}
use Rattle.semantics.proofs.Orders.{Equal_from_test, id_total, name_total, same_ids, same_names}
use Rattle.columns.proofs.Puts.{rising_put}
use Rattle.tree.specs.declared.node.Node.{Node}
use Rattle.tree.specs.Nodes.{IsOrphan, IsTree, child_number, is_written, links, links_of, names_in, order_of, presence_of, register_of}
use Rattle.tree.specs.Nodes.{empty_below_of, is_flagged, tagged, valued, visible_of}
use Rattle.tree.proofs.ListReads.{get_inside, get_other, get_same}
use Rattle.tree.proofs.NodeWrites.{set_each}
use Rattle.tree.proofs.Contexts.{names_same}
use Rattle.tree.proofs.Widened.{same_set}
use Rattle.tree.proofs.Linked.{Linked, OnlyLinks}

-- what a put leaves to be found
found_put : {K : Type 0} (R : K → K → Ordering) → IsTotalOrder R → ((a b : K) → R a b ≡ Equal → a ≡ b)
    → (k a : K) (j : ℕ) (es : List (K × ℕ))
    → (find R k (put R a j es) ≡ find R k es) ⊎ ((k ≡ a) × (find R k (put R a j es) ≡ Some j))
found_put R o same k a j es =
    elim (eq_by_cmp R k a) as
    (λ b. eq_by_cmp R k a ≡ b → find R k (put R a j es) ≡ cond b (Some j) (find R k es)
    → (find R k (put R a j es) ≡ find R k es) ⊎ ((k ≡ a) × (find R k (put R a j es) ≡ Some j))) [
      | true ↦ λ q c. inr (same k a (Equal_from_test _ q), c)
      | false ↦ λ q c. inl c
    ] refl (find-put R o k a j es)

pub put_there : {K : Type 0} (R : K → K → Ordering) → IsTotalOrder R → (a : K) (j : ℕ) (es : List (K × ℕ))
    → find R a (put R a j es) ≡ Some j
put_there R o a j es = find-put R o a a j es ∙ ap (λ r. cond (is_eq r) (Some j) (find R a es)) (tied_itself o a)

-- the name of a node that no write has reached isn't among the names
names_unwritten : (ns : List Node) (n : Name) (j : ℕ) → is_written (slice_get ns j) ≡ false → (fs : List (Name × ℕ))
    → find name_cmp n fs ≡ None → names_in ns (put name_cmp n j fs) ≡ names_in ns fs
names_unwritten ns n j d [] p = ap (λ b. cond b ((n, tt) ∷ []) []) d
names_unwritten ns n j d (f ∷ fs) p =
    elim (name_cmp n f.0) as
    (λ o. cond (is_eq o) (Some f.1) (find name_cmp n fs) ≡ None
    → names_in ns (by_order o ((n, j) ∷ f ∷ fs) ((f.0, j) ∷ fs) (f ∷ put name_cmp n j fs)) ≡ names_in ns (f ∷ fs)) [
      | Less ↦ λ q. ap (λ b. cond b ((n, tt) ∷ names_in ns (f ∷ fs)) (names_in ns (f ∷ fs))) d
      | Equal ↦ λ q. absurd (none-some f.1 (sym q))
      | Greater ↦ λ q. ap (λ xs. cond (is_written (slice_get ns f.1)) ((f.0, tt) ∷ xs) xs) (names_unwritten ns n j d fs q)
    ] p

module _ (ns : List Node) (at : ℕ) (n m : Node) (j : ℕ) (g : slice_get ns at ≡ Some n) where
  there : slice_get (set ns at m) at ≡ Some m
  there = get_same ns at m (get_inside ns at n g)

  flags : OnlyLinks n m → (i : ℕ) → is_written (slice_get ns i) ≡ is_written (slice_get (set ns at m) i)
  flags s = same_set is_written ns at n m g s.written

  -- a put among the links of one kind changes what is linked by its key alone
  put_links : {K : Type 0} (R : K → K → Ordering) → IsTotalOrder R → ((a b : K) → R a b ≡ Equal → a ≡ b) → (name : K → Hop)
      (part : Option Node → List (K × ℕ)) (a : K) → part (Some m) ≡ put R a j (part (Some n)) → (i : ℕ) (k : K)
      → (find R k (part (slice_get (set ns at m) i)) ≡ find R k (part (slice_get ns i)))
      ⊎ ((i ≡ at) × (name k ≡ name a) × (find R k (part (slice_get (set ns at m) i)) ≡ Some j))
  put_links R o same name part a is i k = elim (cases_eq i at) [
    | inl e ↦
        let after : find R k (part (slice_get (set ns at m) i))
        ≡ find R k (put R a j (part (Some n))) = ap (λ h. find R k (part (slice_get (set ns at m) h))) e
        ∙ ap (λ x. find R k (part x)) there ∙ ap (find R k) is in
        let before : find R k (part (slice_get ns i)) ≡ find R k (part (Some n)) = ap (λ h. find R k (part (slice_get ns h))) e
        ∙ ap (λ x. find R k (part x)) g in
        elim (found_put R o same k a j (part (Some n))) [
          | inl f ↦ inl (after ∙ f ∙ sym before)
          | inr (q, f) ↦ inr (e, ap name q, after ∙ f)
        ]
    | inr d ↦ inl (ap (λ x. find R k (part x)) (get_other ns at m i d))
  ]

  module _ (key : Name) (put_field : m.fields.entries ≡ put name_cmp key j n.fields.entries) where
    pub field_linked : child_number (set ns at m) at (FieldHop key) ≡ Some j
    field_linked = ap (λ o. find name_cmp key (links_of o).0) there ∙ ap (find name_cmp key) put_field
        ∙ put_there name_cmp name_total key j n.fields.entries

    module _ (s : OnlyLinks n m) (t : IsTree ns) (o : IsOrphan ns j) (none : child_number ns at (FieldHop key) ≡ None)
        (same_items : m.items ≡ n.items) (put_flag : m.fields.flags ≡ put name_cmp key false n.fields.flags)
        (unflagged : find name_cmp key n.fields.flags ≡ None) where
      -- the new field's flag isn't raised, as it wasn't when there was none
      lowered : (k : Name) → is_flagged (Some m) k ≡ is_flagged (Some n) k
      lowered k =
          ap (λ fs. unwrap_or (find name_cmp k fs) false) put_flag
          ∙ ap (λ o. unwrap_or o false) (find-put name_cmp name_total k key false n.fields.flags)
          ∙ elim (eq_by_cmp name_cmp k key) as
          (λ b. eq_by_cmp name_cmp k key ≡ b
          → unwrap_or (cond b (Some false) (find name_cmp k n.fields.flags)) false ≡ is_flagged (Some n) k) [
            | true ↦ λ q. ap (λ o. unwrap_or o false)
                (sym unflagged ∙ ap (λ x. find name_cmp x n.fields.flags) (sym (same_names k key (Equal_from_test _ q))))
            | false ↦ λ q. refl
          ] refl

      items : (i : ℕ) → (links ns i).1 ≡ (links (set ns at m) i).1
      items = same_set (λ o. (links_of o).1) ns at n m g (ap (λ c. c.entries) same_items)

      children : (i : ℕ) (k : Hop)
          → (child_number (set ns at m) i k ≡ child_number ns i k)
          ⊎ ((i ≡ at) × (k ≡ FieldHop key) × (child_number (set ns at m) i k ≡ Some j))
      children i (ItemHop a) = inl (sym (ap (find id_cmp a) (items i)))
      children i (FieldHop k) = put_links name_cmp name_total same_names FieldHop (λ o. (links_of o).0) key put_field i k

      -- the new field was never written, so the names stay the same
      names : (i : ℕ) → names_in ns (links ns i).0 ≡ names_in (set ns at m) (links (set ns at m) i).0
      names i =
          set_each (λ x h. names_in ns (links ns h).0 ≡ names_in ns (links_of x).0) ns at n m g
          (ap (λ x. names_in ns (links_of x).0) g
          ∙ sym
          (names_unwritten ns key j (ap is_written o.there ∙ o.empty.unwritten) n.fields.entries
          (sym (ap (λ x. find name_cmp key (links_of x).0) g) ∙ none))
          ∙ ap (names_in ns) (sym put_field))
          (λ h. refl) i
          ∙ names_same ns (set ns at m) (flags s) (links (set ns at m) i).0

      pub linked_field : Linked at (FieldHop key) j ns (set ns at m)
      linked_field = record {
        count = sym (length-set ns at m);
        absent = none;
        children = children;
        presence = same_set presence_of ns at n m g (ap (λ c. tagged c.entries) s.presence);
        register = same_set register_of ns at n m g (ap (λ c. valued c.entries) s.register);
        order = same_set order_of ns at n m g (ap (λ c. c.items) s.order);
        visible = same_set visible_of ns at n m g (ap (λ c. c.visible) s.order);
        empty_below = same_set empty_below_of ns at n m g s.empty_below;
        flagged = λ i k. same_set (λ x. is_flagged x k) ns at n m g (lowered k) i;
        names = names;
        sorted_names = set_each (λ x i. IsTrue (is_sorted name_cmp (links_of x).0)) ns at n m g
            (subst (λ xs. IsTrue (is_sorted name_cmp xs)) (sym put_field)
            (rising_put name_cmp name_total key j n.fields.entries
            (subst (λ x. IsTrue (is_sorted name_cmp (links_of x).0)) g (t.sorted_names at)))) t.sorted_names;
        sorted_ids = λ i. subst (λ xs. IsTrue (is_sorted id_cmp xs)) (items i) (t.sorted_ids i);
      }

  module _ (a : OpId) (put_item : m.items.entries ≡ put id_cmp a j n.items.entries) where
    pub item_linked : child_number (set ns at m) at (ItemHop a) ≡ Some j
    item_linked = ap (λ o. find id_cmp a (links_of o).1) there ∙ ap (find id_cmp a) put_item ∙ put_there id_cmp id_total a j n.items.entries

    module _ (s : OnlyLinks n m) (t : IsTree ns) (none : child_number ns at (ItemHop a) ≡ None) (same_fields : m.fields ≡ n.fields) where
      fields : (i : ℕ) → (links ns i).0 ≡ (links (set ns at m) i).0
      fields = same_set (λ o. (links_of o).0) ns at n m g (ap (λ c. c.entries) same_fields)

      item_children : (i : ℕ) (k : Hop)
          → (child_number (set ns at m) i k ≡ child_number ns i k)
          ⊎ ((i ≡ at) × (k ≡ ItemHop a) × (child_number (set ns at m) i k ≡ Some j))
      item_children i (FieldHop k) = inl (sym (ap (find name_cmp k) (fields i)))
      item_children i (ItemHop b) = put_links id_cmp id_total same_ids ItemHop (λ o. (links_of o).1) a put_item i b

      pub linked_item : Linked at (ItemHop a) j ns (set ns at m)
      linked_item = record {
        count = sym (length-set ns at m);
        absent = none;
        children = item_children;
        presence = same_set presence_of ns at n m g (ap (λ c. tagged c.entries) s.presence);
        register = same_set register_of ns at n m g (ap (λ c. valued c.entries) s.register);
        order = same_set order_of ns at n m g (ap (λ c. c.items) s.order);
        visible = same_set visible_of ns at n m g (ap (λ c. c.visible) s.order);
        empty_below = same_set empty_below_of ns at n m g s.empty_below;
        flagged = λ i k. same_set (λ x. is_flagged x k) ns at n m g
            (ap (λ c. unwrap_or (find name_cmp k c.flags) false) same_fields) i;
        names = λ i. names_same ns (set ns at m) (flags s) (links ns i).0 ∙ ap (names_in (set ns at m)) (fields i);
        sorted_names = λ i. subst (λ xs. IsTrue (is_sorted name_cmp xs)) (fields i) (t.sorted_names i);
        sorted_ids = set_each (λ x i. IsTrue (is_sorted id_cmp (links_of x).1)) ns at n m g
            (subst (λ xs. IsTrue (is_sorted id_cmp xs)) (sym put_item)
            (rising_put id_cmp id_total a j n.items.entries
            (subst (λ x. IsTrue (is_sorted id_cmp (links_of x).1)) g (t.sorted_ids at)))) t.sorted_ids;
      }
