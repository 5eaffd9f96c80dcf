-- What waiting operations wait for, once one of them moved on.
use Rattle.std.proofs.Common.{◌≡◌, ◌≢◌, ◌<◌, ◌≤◌, inl, inr, ℕ, Bool, true, false, cond, List, slice_get}
use Rattle.std.proofs.Common.{Option, Some, None, refl, sym, ap, subst, ◌∙◌, arith}
use Rattle.std.proofs.Common.{true≢false, is_eq}
use Rattle.std.proofs.lemmas.Bool.{cases_eq, false_from_ne_true}
use Rattle.std.specs.BTreeSet.{contains}
use Rattle.std.specs.BTreeSet as sorted
use Rattle.std.specs.FinMap.{find, put}
use Rattle.semantics.specs.Ids.{OpId, id_cmp}
use Rattle.semantics.specs.Vectors.{Vector, at}
use Rattle.document.specs.operation.declared.op.Op.{Op}
use Rattle.slab.specs.Slab.{Slab, get}
use Rattle.inbox.specs.declared.awaited.Awaited.{Awaited}
use Rattle.inbox.specs.declared.waits.Waits.{Waits}
use Rattle.inbox.specs.Awaiting.{await_cmp, awaited_by, seen_at, AreAwaiting}
use Rattle.inbox.specs.Awaiting.{IsEntered, IsEnteredAt}
use Rattle.inbox.specs.Awaiting.{IsEnteredReady}
use Rattle.inbox.proofs.AwaitOrder.{same_await, itself}
use Rattle.inbox.proofs.KeptAwaits.{is_awaited, put_here, put_keys, put_or_had, same_some, some_differs, stays, still_awaits, was_or_new}

-- o, which stands at the key of h, is entered anew, and h, whose counter is applied, is no longer awaited
module _ (applied : Vector) (s : Slab Op) (es : List (OpId × ℕ)) (w v u : Waits) (h : Awaited) (o : Op) (here : get s h.key ≡ Some o)
    (was : contains await_cmp w.awaits h ≡ true) (met : h.counter ≤ at applied h.replica)
    (out : sorted.Updates await_cmp v.awaits u.awaits h false) (same_ready : u.ready ≡ v.ready) (same_seen : u.seen ≡ v.seen)
    (awaiting : AreAwaiting s es w) where
  -- what is left is not h
  left : (x : Awaited) → contains await_cmp u.awaits x ≡ true → (contains await_cmp v.awaits x ≡ true) × (h ≢ x)
  left x held = at_test (is_eq (await_cmp h x)) refl (sym (out.0 x) ∙ held)
    where
      at_test : (b : Bool) → is_eq (await_cmp h x) ≡ b → cond b false (contains await_cmp v.awaits x) ≡ true
          → (contains await_cmp v.awaits x ≡ true) × (h ≢ x)
      at_test true e f = absurd (true≢false (sym f))
      at_test false e f = (f, λ same. true≢false (sym (itself h) ∙ ap (λ y. is_eq (await_cmp h y)) same ∙ e))

  -- and what is not h is left
  kept : (x : Awaited) → (h ≢ x) → contains await_cmp v.awaits x ≡ true → contains await_cmp u.awaits x ≡ true
  kept x differs held =
      out.0 x
      ∙ ap (λ b. cond b false (contains await_cmp v.awaits x))
      (false_from_ne_true (is_eq (await_cmp h x)) (λ e. differs (same_await h x e)))
      ∙ held

  -- what was awaited by the same operation is h
  is_it : (x : Awaited) → contains await_cmp w.awaits x ≡ true → x.key ≡ h.key → h ≡ x
  is_it x held at = awaiting.only.single h x was held (sym at)

  -- what stands at the same key is o
  same_op : (n : ℕ) (p : Op) → get s n ≡ Some p → n ≡ h.key → p ≡ o
  same_op n p stands at = same_some (sym stands ∙ ap (get s) at ∙ here)

  -- o wasn't among those that may be ready
  not_ready : (a : OpId) (n : ℕ) → find id_cmp a w.ready.entries ≡ Some n → h.key ≢ n
  not_ready a n may at = (awaiting.ready a n may).none h was at

  moved_at : IsEnteredAt applied w v h.key o → AreAwaiting s es u
  moved_at e = record {
    by_id = awaiting.by_id;
    each = λ n p stands. elim (cases_eq n h.key) [
      | inl same ↦
          let one = same_op n p stands same in
          inl (record {
            index = e.index;
            id = e.ahead.id;
            there = subst (λ (x : Op). slice_get x.deps e.index ≡ Some e.ahead.id) (sym one) e.ahead.there;
            held = ap (λ n. contains await_cmp u.awaits (awaited_by e.ahead.id n)) same
                ∙ kept q (λ is. passed (sym is)) (is_awaited w.awaits v.awaits q e.awaits);
          })
      | inr apart ↦ elim (awaiting.each n p stands) [
        | inl it ↦ inl (still_awaits w.awaits u.awaits n p
            (λ x at held. kept x (λ same. apart (sym at ∙ sym (ap (λ (y : Awaited). y.key) same)))
            (stays w.awaits v.awaits q e.awaits x held)) it)
        | inr may ↦ inr (ap (find id_cmp p.id) ready_is ∙ may)
      ]
    ];
    only = record {
      stands = λ x held empty. elim (was_or_new w.awaits v.awaits q e.awaits x (left x held).0) [
        | inl now ↦ some_differs o (sym here ∙ ap (λ (y : Awaited). get s y.key) now ∙ empty)
        | inr old ↦ awaiting.only.stands x old empty
      ];
      single = λ a b one two same. elim (was_or_new w.awaits v.awaits q e.awaits a (left a one).0) [
        | inl now ↦ elim (was_or_new w.awaits v.awaits q e.awaits b (left b two).0) [
          | inl too ↦ sym now ∙ too
          | inr old ↦ absurd ((left b two).1 (is_it b old (sym same ∙ sym (ap (λ (x : Awaited). x.key) now))))
        ]
        | inr old ↦ elim (was_or_new w.awaits v.awaits q e.awaits b (left b two).0) [
          | inl now ↦ absurd ((left a one).1 (is_it a old (same ∙ sym (ap (λ (x : Awaited). x.key) now))))
          | inr too ↦ awaiting.only.single a b old too same
        ]
      ];
    };
    ready = λ a n may.
        let before = sym (ap (find id_cmp a) ready_is) ∙ may in
        let it = awaiting.ready a n before in
        record {
          op = it.op;
          stands = it.stands;
          id = it.id;
          none = λ x held at. elim (was_or_new w.awaits v.awaits q e.awaits x (left x held).0) [
            | inl now ↦ not_ready a n before (ap (λ (y : Awaited). y.key) now ∙ at)
            | inr old ↦ it.none x old at
          ];
        };
    unseen = λ x held.
        subst (λ seen. seen_at seen x.replica < x.counter) (sym (same_seen ∙ e.seen))
        (elim (was_or_new w.awaits v.awaits q e.awaits x (left x held).0) [
          | inl now ↦ subst (λ (y : Awaited). seen_at w.seen y.replica < y.counter) now e.ahead.unseen
          | inr old ↦ awaiting.unseen x old
        ]);
  }
    where
      q : Awaited
      q = awaited_by e.ahead.id h.key

      ready_is : u.ready.entries ≡ w.ready.entries
      ready_is = ap (λ r. r.entries) same_ready ∙ e.ready

      -- what is entered waits for more than is applied, and h doesn't
      passed : q ≢ h
      passed same =
          let above = e.ahead.above in
          let counter : e.ahead.id.counter ≡ h.counter = ap (λ (y : Awaited). y.counter) same in
          let replica : at applied e.ahead.id.replica ≡ at applied h.replica = ap (λ (y : Awaited). at applied y.replica) same in
          absurd (omega (arith, met, above, counter, replica))

  moved_ready : IsEnteredReady w v h.key o → AreAwaiting s es u
  moved_ready e = record {
    by_id = awaiting.by_id;
    each = λ n p stands. elim (cases_eq n h.key) [
      | inl at ↦
          let one = same_op n p stands at in
          inr (ap (find id_cmp p.id) ready_is ∙ ap (λ (x : Op). find id_cmp x.id (put id_cmp o.id h.key w.ready.entries)) one
          ∙ put_here w.ready.entries o.id h.key ∙ ap Some (sym at))
      | inr apart ↦ elim (awaiting.each n p stands) [
        | inl it ↦ inl (still_awaits w.awaits u.awaits n p
            (λ x at held. kept x (λ same. apart (sym at ∙ sym (ap (λ (y : Awaited). y.key) same))) (e.awaits x ∙ held)) it)
        | inr may ↦ inr (ap (find id_cmp p.id) ready_is ∙ put_keys w.ready.entries o.id p.id h.key n unready may)
      ]
    ];
    only = record {
      stands = λ x held. awaiting.only.stands x (was_there x held);
      single = λ a b one two. awaiting.only.single a b (was_there a one) (was_there b two);
    };
    ready = λ a n may. elim (put_or_had w.ready.entries o.id a h.key n (sym (ap (find id_cmp a) ready_is) ∙ may)) [
      | inl new ↦ record {
        op = o;
        stands = ap (get s) new.1 ∙ here;
        id = sym new.0;
        none = λ x held at. (left x held).1 (is_it x (was_there x held) (at ∙ new.1));
      }
      | inr old ↦
          let it = awaiting.ready a n old in
          record { op = it.op; stands = it.stands; id = it.id; none = λ x held. it.none x (was_there x held) }
    ];
    unseen = λ x held.
        subst (λ seen. seen_at seen x.replica < x.counter) (sym (same_seen ∙ e.seen)) (awaiting.unseen x (was_there x held));
  }
    where
      ready_is : u.ready.entries ≡ put id_cmp o.id h.key w.ready.entries
      ready_is = ap (λ r. r.entries) same_ready ∙ e.ready

      was_there : (x : Awaited) → contains await_cmp u.awaits x ≡ true → contains await_cmp w.awaits x ≡ true
      was_there x held = sym (e.awaits x) ∙ (left x held).0

      unready : find id_cmp o.id w.ready.entries ≡ None
      unready = at_found (find id_cmp o.id w.ready.entries) refl
        where
          at_found : (r : Option ℕ) → find id_cmp o.id w.ready.entries ≡ r → r ≡ None
          at_found None f = refl
          at_found (Some n) f =
              let it = awaiting.ready o.id n f in
              let one : Some n ≡ Some h.key
              = sym (awaiting.by_id n it.op it.stands) ∙ ap (λ x. find id_cmp x es) it.id ∙ awaiting.by_id h.key o here in
              absurd (not_ready o.id n f (sym (same_some one)))

  pub moved_awaiting : IsEntered applied w v h.key o → AreAwaiting s es u
  moved_awaiting (inl e) = moved_at e
  moved_awaiting (inr e) = moved_ready e
