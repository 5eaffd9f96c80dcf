-- What waiting operations wait for, after each change of the slab, the keys and what is awaited.
use Rattle.std.proofs.Common.{◌≡◌, ◌≢◌, ◌<◌, ◌⊎◌, inl, inr, ℕ, Bool, true, false, not, cond, List, slice_get}
use Rattle.std.proofs.Common.{Option, Some, None, is_some, refl, sym, ap, subst, ◌∙◌}
use Rattle.std.proofs.Common.{true≢false, is_eq, ◌==◌, max, arith}
use Rattle.std.proofs.lemmas.Bool.{cases_eq, eqb-true, false_from_ne_true}
use Rattle.std.specs.BTreeSet.{BTreeSet, contains}
use Rattle.std.specs.BTreeSet as sorted
use Rattle.std.specs.FinMap.{find, put}
use Rattle.std.specs.FinMap.Entries.{find-put, find-where_key}
use Rattle.semantics.specs.Ids.{OpId, id_cmp, is_same_id}
use Rattle.semantics.specs.Vectors.{Vector, at, raise}
use Rattle.ids.proofs.RaisedVectors.{at-raise}
use Rattle.semantics.proofs.Orders.{id_total, ids_from_test, id_tested}
use Rattle.document.specs.operation.declared.op.Op.{Op}
use Rattle.slab.specs.Slab.{Slab, get, Updates}
use Rattle.inbox.specs.declared.awaited.Awaited.{Awaited}
use Rattle.inbox.specs.declared.waits.Waits.{Waits}
use Rattle.inbox.specs.Awaiting.{await_cmp, awaited_by, seen_at, AreAwaiting, AreOnly, AreSingle, AreUnseen, IsAwaiting}
use Rattle.inbox.specs.Awaiting.{IsEntered, IsEnteredAt}
use Rattle.inbox.specs.Awaiting.{IsEnteredReady, IsForgotten, IsUnblocked, SameWaits}
use Rattle.inbox.proofs.AwaitOrder.{same_await, itself}
use Rattle.inbox.proofs.KeyedOps.{others}

pub some_differs : {A : Type 0} (x : A) → Some x ≢ None
some_differs x e = absurd (let no : ⊥ = cc in no)

pub same_some : {A : Type 0} {x y : A} → Some x ≡ Some y → x ≡ y
same_some e = cc

-- an operation whose counter is awaited still waits, where its counter is awaited too
pub still_awaits : (awaits new : BTreeSet Awaited) (k : ℕ) (o : Op)
    → ((q : Awaited) → q.key ≡ k → contains await_cmp awaits q ≡ true → contains await_cmp new q ≡ true) → IsAwaiting awaits k o
    → IsAwaiting new k o
still_awaits awaits new k o stays it = record {
  index = it.index;
  id = it.id;
  there = it.there;
  held = stays (awaited_by it.id k) refl it.held;
}

-- where each key holds what it held, and the same is awaited
pub same_awaiting : (s t : Slab Op) (es fs : List (OpId × ℕ)) (w v : Waits) → fs ≡ es → ((k : ℕ) → get t k ≡ get s k) → SameWaits w v
    → AreAwaiting s es w → AreAwaiting t fs v
same_awaiting s t es fs w v is same waits h = record {
  by_id = λ k o stands. ap (find id_cmp o.id) is ∙ h.by_id k o (sym (same k) ∙ stands);
  each = λ k o stands. elim (h.each k o (sym (same k) ∙ stands)) [
    | inl it ↦ inl (still_awaits w.awaits v.awaits k o (λ q at held. waits.awaits q ∙ held) it)
    | inr may ↦ inr (ap (find id_cmp o.id) waits.ready ∙ may)
  ];
  only = record {
    stands = λ q held none. h.only.stands q (sym (waits.awaits q) ∙ held) (sym (same q.key) ∙ none);
    single = λ a b one two. h.only.single a b (sym (waits.awaits a) ∙ one) (sym (waits.awaits b) ∙ two);
  };
  ready = λ a k may.
      let it = h.ready a k (sym (ap (find id_cmp a) waits.ready) ∙ may) in
      record {
        op = it.op;
        stands = same k ∙ it.stands;
        id = it.id;
        none = λ q held. it.none q (sym (waits.awaits q) ∙ held);
      };
  unseen = λ q held.
      subst (λ seen. seen_at seen q.replica < q.counter) (sym waits.seen) (h.unseen q (sym (waits.awaits q) ∙ held));
}

-- where the same is awaited and may be ready, and more was seen
pub seen_awaiting : (s : Slab Op) (es : List (OpId × ℕ)) (w v : Waits) → v.awaits ≡ w.awaits → v.ready ≡ w.ready
    → (AreUnseen w → AreUnseen v) → AreAwaiting s es w → AreAwaiting s es v
seen_awaiting s es w v awaits ready unseen h = record {
  by_id = h.by_id;
  each = λ k o stands. elim (h.each k o stands) [
    | inl it ↦ inl (subst (λ x. IsAwaiting x k o) (sym awaits) it)
    | inr may ↦ inr (ap (λ r. find id_cmp o.id r.entries) ready ∙ may)
  ];
  only = subst (AreOnly s) (sym awaits) h.only;
  ready = λ a k may.
      subst (λ x. IsUnblocked s x a k) (sym awaits) (h.ready a k (sym (ap (λ r. find id_cmp a r.entries) ready) ∙ may));
  unseen = unseen h.unseen;
}

-- where more was seen of a replica, and nothing waits for that
pub seen_more : (w v : Waits) (a : OpId) → v.awaits ≡ w.awaits → v.seen.ids ≡ raise a w.seen.ids
    → ((q : Awaited) → contains await_cmp w.awaits q ≡ true → q.replica ≡ a.replica → a.counter < q.counter) → AreUnseen w → AreUnseen v
seen_more w v a same more passed unseen q held =
    let there = sym (ap (λ x. contains await_cmp x q) same) ∙ held in
    subst (λ n. n < q.counter) (sym (ap (λ u. at u q.replica) more ∙ at-raise a w.seen.ids q.replica))
    (at_test (a.replica == q.replica) refl (unseen q there) (passed q there))
  where
    at_test : (b : Bool) → (a.replica == q.replica) ≡ b → at w.seen.ids q.replica < q.counter
        → (q.replica ≡ a.replica → a.counter < q.counter)
        → cond b (max a.counter (at w.seen.ids q.replica)) (at w.seen.ids q.replica) < q.counter
    at_test true e below above = (let m = above (sym (eqb-true a.replica q.replica e)) in omega (arith, below, m))
    at_test false e below above = below

pub no_change : (w : Waits) → SameWaits w w
no_change w = record { awaits = λ q. refl; ready = refl; seen = refl }

-- ---- what is put

-- what is put has its key, and the others keep theirs
pub put_keys : (es : List (OpId × ℕ)) (a b : OpId) (k n : ℕ) → find id_cmp a es ≡ None → find id_cmp b es ≡ Some n
    → find id_cmp b (put id_cmp a k es) ≡ Some n
put_keys es a b k n none here = find-put id_cmp id_total b a k es ∙ at_test (is_same_id b a) refl
  where
    at_test : (t : Bool) → is_same_id b a ≡ t → cond t (Some k) (find id_cmp b es) ≡ Some n
    at_test true same = absurd (some_differs n (sym here ∙ ap (λ x. find id_cmp x es) (ids_from_test b a same) ∙ none))
    at_test false differs = here

pub put_here : (es : List (OpId × ℕ)) (a : OpId) (k : ℕ) → find id_cmp a (put id_cmp a k es) ≡ Some k
put_here es a k =
    find-put id_cmp id_total a a k es ∙ ap (λ b. cond b (Some k) (find id_cmp a es)) (id_tested a a refl)

-- what has a key there had it, or it is what was put
pub put_or_had : (es : List (OpId × ℕ)) (a b : OpId) (k n : ℕ) → find id_cmp b (put id_cmp a k es) ≡ Some n
    → ((b ≡ a) × (n ≡ k)) ⊎ (find id_cmp b es ≡ Some n)
put_or_had es a b k n there = at_test (is_same_id b a) refl (sym (find-put id_cmp id_total b a k es) ∙ there)
  where
    at_test : (t : Bool) → is_same_id b a ≡ t → cond t (Some k) (find id_cmp b es) ≡ Some n
        → ((b ≡ a) × (n ≡ k)) ⊎ (find id_cmp b es ≡ Some n)
    at_test true same e = inl (ids_from_test b a same, same_some (sym e))
    at_test false differs e = inr e

-- where q is awaited besides
module _ (awaits new : BTreeSet Awaited) (q : Awaited) (w : sorted.Updates await_cmp awaits new q true) where
  -- what was awaited is
  pub stays : (p : Awaited) → contains await_cmp awaits p ≡ true → contains await_cmp new p ≡ true
  stays p held = w.0 p ∙ at_test (is_eq (await_cmp q p))
    where
      at_test : (b : Bool) → cond b true (contains await_cmp awaits p) ≡ true
      at_test true = refl
      at_test false = held

  -- q is
  pub is_awaited : contains await_cmp new q ≡ true
  is_awaited = w.0 q ∙ ap (λ b. cond b true (contains await_cmp awaits q)) (itself q)

  -- what is awaited was, unless it is q
  pub was_or_new : (p : Awaited) → contains await_cmp new p ≡ true → (q ≡ p) ⊎ (contains await_cmp awaits p ≡ true)
  was_or_new p held = at_test (is_eq (await_cmp q p)) refl (sym (w.0 p) ∙ held)
    where
      at_test : (b : Bool) → is_eq (await_cmp q p) ≡ b → cond b true (contains await_cmp awaits p) ≡ true
          → (q ≡ p) ⊎ (contains await_cmp awaits p ≡ true)
      at_test true same e = inl (same_await q p same)
      at_test false differs e = inr e

-- what is put at a key where nothing was, and is entered
module _ (applied : Vector) (s t : Slab Op) (es fs : List (OpId × ℕ)) (w v : Waits) (k : ℕ) (p : Op)
    (is : fs ≡ put id_cmp p.id k es) (none : find id_cmp p.id es ≡ None) (vacant : get s k ≡ None) (u : Updates s t k (Some p))
    (h : AreAwaiting s es w) where
  -- nothing was awaited at its key
  elsewhere : (q : Awaited) → contains await_cmp w.awaits q ≡ true → q.key ≢ k
  elsewhere q held at = h.only.stands q held (ap (get s) at ∙ vacant)

  -- what stands in the slab stood there, unless it is what was put
  put_or_stood : (n : ℕ) (o : Op) → get t n ≡ Some o → ((n ≡ k) × (o ≡ p)) ⊎ (get s n ≡ Some o)
  put_or_stood n o stands = elim (cases_eq n k) [
    | inl same ↦
        let here : get t k ≡ Some o = ap (get t) (sym same) ∙ stands in
        inl (same, (let g = u.changed in cc))
    | inr differs ↦ inr (sym (u.others n differs) ∙ stands)
  ]

  stood_stays : (n : ℕ) (o : Op) → get s n ≡ Some o → get t n ≡ Some o
  stood_stays n o stood = u.others n (λ same. some_differs o (sym stood ∙ ap (get s) same ∙ vacant)) ∙ stood

  by_id : (n : ℕ) (o : Op) → get t n ≡ Some o → find id_cmp o.id fs ≡ Some n
  by_id n o stands = ap (find id_cmp o.id) is ∙ elim (put_or_stood n o stands) [
    | inl here ↦ ap (λ (x : Op). find id_cmp x.id (put id_cmp p.id k es)) here.1 ∙ put_here es p.id k ∙ ap Some (sym here.0)
    | inr old ↦ put_keys es p.id o.id k n none (h.by_id n o old)
  ]

  put_at : IsEnteredAt applied w v k p → AreAwaiting t fs v
  put_at e = record {
    by_id = by_id;
    each = λ n o stands. elim (put_or_stood n o stands) [
      | inl here ↦ inl (record {
        index = e.index;
        id = e.ahead.id;
        there = subst (λ (x : Op). slice_get x.deps e.index ≡ Some e.ahead.id) (sym here.1) e.ahead.there;
        held = ap (λ n. contains await_cmp v.awaits (awaited_by e.ahead.id n)) here.0 ∙ is_awaited w.awaits v.awaits q e.awaits;
      })
      | inr old ↦ elim (h.each n o old) [
        | inl it ↦ inl (still_awaits w.awaits v.awaits n o (λ x at held. stays w.awaits v.awaits q e.awaits x held) it)
        | inr may ↦ inr (ap (find id_cmp o.id) e.ready ∙ may)
      ]
    ];
    only = record {
      stands = λ x held empty. elim (was_or_new w.awaits v.awaits q e.awaits x held) [
        | inl now ↦ some_differs p (sym u.changed ∙ ap (λ (y : Awaited). get t y.key) now ∙ empty)
        | inr old ↦ h.only.stands x old (sym (u.others x.key (elsewhere x old)) ∙ empty)
      ];
      single = λ a b one two same. elim (was_or_new w.awaits v.awaits q e.awaits a one) [
        | inl now ↦ elim (was_or_new w.awaits v.awaits q e.awaits b two) [
          | inl too ↦ sym now ∙ too
          | inr old ↦ absurd (elsewhere b old (sym same ∙ sym (ap (λ (x : Awaited). x.key) now)))
        ]
        | inr old ↦ elim (was_or_new w.awaits v.awaits q e.awaits b two) [
          | inl now ↦ absurd (elsewhere a old (same ∙ sym (ap (λ (x : Awaited). x.key) now)))
          | inr too ↦ h.only.single a b old too same
        ]
      ];
    };
    ready = λ a n may.
        let it = h.ready a n (sym (ap (find id_cmp a) e.ready) ∙ may) in
        record {
          op = it.op;
          stands = stood_stays n it.op it.stands;
          id = it.id;
          none = λ x held at. elim (was_or_new w.awaits v.awaits q e.awaits x held) [
            | inl now ↦ some_differs it.op (sym it.stands ∙ ap (get s) (sym at ∙ sym (ap (λ (y : Awaited). y.key) now)) ∙ vacant)
            | inr old ↦ it.none x old at
          ];
        };
    unseen = λ x held.
        subst (λ seen. seen_at seen x.replica < x.counter) (sym e.seen)
        (elim (was_or_new w.awaits v.awaits q e.awaits x held) [
          | inl now ↦ subst (λ (y : Awaited). seen_at w.seen y.replica < y.counter) now e.ahead.unseen
          | inr old ↦ h.unseen x old
        ]);
  }
    where
      q : Awaited
      q = awaited_by e.ahead.id k

  put_ready : IsEnteredReady w v k p → AreAwaiting t fs v
  put_ready e = record {
    by_id = by_id;
    each = λ n o stands. elim (put_or_stood n o stands) [
      | inl here ↦ inr (ap (find id_cmp o.id) e.ready ∙ ap (λ (x : Op). find id_cmp x.id (put id_cmp p.id k w.ready.entries)) here.1
          ∙ put_here w.ready.entries p.id k ∙ ap Some (sym here.0))
      | inr old ↦ elim (h.each n o old) [
        | inl it ↦ inl (still_awaits w.awaits v.awaits n o (λ x at held. e.awaits x ∙ held) it)
        | inr may ↦ inr (ap (find id_cmp o.id) e.ready ∙ put_keys w.ready.entries p.id o.id k n unready may)
      ]
    ];
    only = record {
      stands = λ x held empty.
          let old = was x held in h.only.stands x old (sym (u.others x.key (elsewhere x old)) ∙ empty);
      single = λ a b one two. h.only.single a b (was a one) (was b two);
    };
    ready = λ a n may. elim (put_or_had w.ready.entries p.id a k n (sym (ap (find id_cmp a) e.ready) ∙ may)) [
      | inl here ↦ record {
        op = p;
        stands = ap (get t) here.1 ∙ u.changed;
        id = sym here.0;
        none = λ x held at. elsewhere x (was x held) (at ∙ here.1);
      }
      | inr old ↦
          let it = h.ready a n old in
          record {
            op = it.op;
            stands = stood_stays n it.op it.stands;
            id = it.id;
            none = λ x held. it.none x (was x held);
          }
    ];
    unseen = λ x held. subst (λ seen. seen_at seen x.replica < x.counter) (sym e.seen) (h.unseen x (was x held));
  }
    where
      was : (x : Awaited) → contains await_cmp v.awaits x ≡ true → contains await_cmp w.awaits x ≡ true
      was x held = sym (e.awaits x) ∙ held

      -- it wasn't among those that may be ready
      unready : find id_cmp p.id w.ready.entries ≡ None
      unready = at_found (find id_cmp p.id w.ready.entries) refl
        where
          at_found : (r : Option ℕ) → find id_cmp p.id w.ready.entries ≡ r → r ≡ None
          at_found None f = refl
          at_found (Some n) f =
              let it = h.ready p.id n f in
              absurd
              (some_differs n (sym (h.by_id n it.op it.stands) ∙ ap (λ x. find id_cmp x es) it.id ∙ none))

  pub put_awaiting : IsEntered applied w v k p → AreAwaiting t fs v
  put_awaiting (inl e) = put_at e
  put_awaiting (inr e) = put_ready e

-- ---- what is forgotten

-- where only h is removed, and before that nothing changed
module _ (awaits mid new : BTreeSet Awaited) (h : Awaited)
    (same : (q : Awaited) → contains await_cmp mid q ≡ contains await_cmp awaits q) (w : sorted.Updates await_cmp mid new h false) where
  -- what is awaited at another key stays
  pub kept_elsewhere : (q : Awaited) → q.key ≢ h.key → contains await_cmp new q ≡ contains await_cmp awaits q
  kept_elsewhere q differs =
      w.0 q
      ∙ ap (λ b. cond b false (contains await_cmp mid q)) (false_from_ne_true (is_eq (await_cmp h q))
      (λ e. differs (sym (ap (λ (x : Awaited). x.key) (same_await h q e)))))
      ∙ same q

  -- none is awaited at its key
  pub gone_here : AreSingle awaits → contains await_cmp mid h ≡ true → (q : Awaited) → contains await_cmp new q ≡ true → q.key ≢ h.key
  gone_here single was q held at = at_test (is_eq (await_cmp h q)) refl (sym (w.0 q) ∙ held)
    where
      at_test : (b : Bool) → is_eq (await_cmp h q) ≡ b → cond b false (contains await_cmp mid q) ≡ true → ⊥
      at_test true e f = true≢false (sym f)
      at_test false e f =
          let one : q ≡ h = single q h (sym (same q) ∙ f) (sym (same h) ∙ was) at in
          true≢false (sym (itself h) ∙ ap (λ x. is_eq (await_cmp h x)) (sym one) ∙ e)

-- ---- what is taken out

-- the others keep their keys
left_keys : (es : List (OpId × ℕ)) (a b : OpId) (n : ℕ) → (a ≢ b) → find id_cmp b es ≡ Some n → find id_cmp b (others a es) ≡ Some n
left_keys es a b n differs here =
    find-where_key id_cmp (λ x. not (is_same_id a x)) b
    (λ x e. ap (λ y. not (is_same_id a y)) (sym (ids_from_test b x (ap is_eq e)))) es
    ∙ ap (λ t. cond (not t) (find id_cmp b es) None) (false_from_ne_true (is_same_id a b) (λ e. differs (ids_from_test a b e)))
    ∙ here

-- and what has a key is another
had_keys : (es : List (OpId × ℕ)) (a b : OpId) (n : ℕ) → find id_cmp b (others a es) ≡ Some n → (a ≢ b) × (find id_cmp b es ≡ Some n)
had_keys es a b n here =
    at_test (is_same_id a b) refl
    (sym
    (find-where_key id_cmp (λ x. not (is_same_id a x)) b
    (λ x e. ap (λ y. not (is_same_id a y)) (sym (ids_from_test b x (ap is_eq e)))) es)
    ∙ here)
  where
    at_test : (t : Bool) → is_same_id a b ≡ t → cond (not t) (find id_cmp b es) None ≡ Some n → (a ≢ b) × (find id_cmp b es ≡ Some n)
    at_test true same e = absurd (some_differs n (sym e))
    at_test false differs e = (λ same. true≢false (sym (id_tested a b same) ∙ differs), e)

-- where no key is that of the id
pub left_awaiting : (s : Slab Op) (es fs : List (OpId × ℕ)) (w : Waits) (a : OpId) → fs ≡ others a es
    → find id_cmp a es ≡ None → AreAwaiting s es w → AreAwaiting s fs w
left_awaiting s es fs w a is none h = record {
  by_id = λ k o stands. ap (find id_cmp o.id) is
      ∙ left_keys es a o.id k
      (λ same. some_differs k (sym (h.by_id k o stands) ∙ ap (λ x. find id_cmp x es) (sym same) ∙ none)) (h.by_id k o stands);
  each = h.each;
  only = h.only;
  ready = h.ready;
  unseen = h.unseen;
}

-- what may be ready waits for nothing
pub unblocked : (s : Slab Op) (es : List (OpId × ℕ)) (w : Waits) (k : ℕ) (o : Op) → get s k ≡ Some o → AreAwaiting s es w
    → is_some (find id_cmp o.id w.ready.entries) ≡ true → (q : Awaited) → contains await_cmp w.awaits q ≡ true → q.key ≢ k
unblocked s es w k o stands h may q held at = at_found (find id_cmp o.id w.ready.entries) refl may
  where
    at_found : (r : Option ℕ) → find id_cmp o.id w.ready.entries ≡ r → is_some r ≡ true → ⊥
    at_found None f e = true≢false (sym e)
    at_found (Some n) f e =
        let it = h.ready o.id n f in
        let one : Some n ≡ Some k
        = sym (h.by_id n it.op it.stands) ∙ ap (λ x. find id_cmp x es) it.id ∙ h.by_id k o stands in
        it.none q held (at ∙ sym (same_some one))

-- and what isn't among those that may be ready waits for a counter
pub blocked : (s : Slab Op) (es : List (OpId × ℕ)) (w : Waits) (k : ℕ) (o : Op) → get s k ≡ Some o → AreAwaiting s es w
    → is_some (find id_cmp o.id w.ready.entries) ≡ false → IsAwaiting w.awaits k o
blocked s es w k o stands h none = elim (h.each k o stands) [
  | inl it ↦ it
  | inr may ↦ absurd (true≢false (sym (ap is_some may) ∙ none))
]

-- where the operation with the id is taken out at its key, and what it waited for is forgotten
module _ (s t : Slab Op) (es fs : List (OpId × ℕ)) (w v : Waits) (a : OpId) (k : ℕ) (is : fs ≡ others a es)
    (at_key : find id_cmp a es ≡ Some k) (p : Op) (here : get s k ≡ Some p) (named : p.id ≡ a) (u : Updates s t k None)
    (f : IsForgotten w v a k) (h : AreAwaiting s es w) where
  -- what stands in the slab stood there, at another key
  stood : (n : ℕ) (o : Op) → get t n ≡ Some o → (n ≢ k) × (get s n ≡ Some o)
  stood n o stands =
      let differs : n ≢ k = λ same. some_differs o (sym stands ∙ ap (get t) same ∙ u.changed) in
      (differs, sym (u.others n differs) ∙ stands)

  was : (q : Awaited) → contains await_cmp v.awaits q ≡ true → contains await_cmp w.awaits q ≡ true
  was q held = sym (f.kept q (f.gone q held)) ∙ held

  -- under another id
  other_id : (n : ℕ) (o : Op) → n ≢ k → get s n ≡ Some o → a ≢ o.id
  other_id n o differs stood same =
      let one = h.by_id n o stood in
      let two : find id_cmp o.id es ≡ Some k = ap (λ x. find id_cmp x es) (sym same) ∙ at_key in
      differs (same_some (sym one ∙ two))

  pub taken_awaiting : AreAwaiting t fs v
  taken_awaiting = record {
    by_id = λ n o stands.
        let old = stood n o stands in
        ap (find id_cmp o.id) is ∙ left_keys es a o.id n (other_id n o old.0 old.1) (h.by_id n o old.1);
    each = λ n o stands.
        let old = stood n o stands in
        elim (h.each n o old.1) [
          | inl it ↦ inl (still_awaits w.awaits v.awaits n o (λ q at held. f.kept q (λ same. old.0 (sym at ∙ same)) ∙ held) it)
          | inr may ↦ inr (ap (find id_cmp o.id) f.ready ∙ left_keys w.ready.entries a o.id n (other_id n o old.0 old.1) may)
        ];
    only = record {
      stands = λ q held empty. h.only.stands q (was q held) (sym (u.others q.key (f.gone q held)) ∙ empty);
      single = λ p q one two same. h.only.single p q (was p one) (was q two) same;
    };
    ready = λ b n may.
        let old = had_keys w.ready.entries a b n (sym (ap (find id_cmp b) f.ready) ∙ may) in
        let it = h.ready b n old.1 in
        let apart : n ≢ k
        = λ same. old.0
        (sym named ∙ ap (λ (x : Op). x.id) (same_some (sym here ∙ ap (get s) (sym same) ∙ it.stands)) ∙ it.id) in
        record {
          op = it.op;
          stands = u.others n apart ∙ it.stands;
          id = it.id;
          none = λ q held. it.none q (was q held);
        };
    unseen = λ q held. subst (λ seen. seen_at seen q.replica < q.counter) (sym f.seen) (h.unseen q (was q held));
  }
