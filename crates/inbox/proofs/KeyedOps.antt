-- Operations at keys: those of a slab, by a map from ids to its keys.
use Rattle.std.proofs.Common.{◌≡◌, ◌⊎◌, inl, inr, ℕ, suc, Bool, true, false, not, cond, ◌||◌, List, [], ◌∷◌, length, Some, None, is_some}
use Rattle.std.proofs.Common.{refl, sym, ap, subst, ◌∙◌, true≢false, Bor, option_copied}
use Rattle.std.specs.Prelude.{IfNone, IfSome, Option}
use Rattle.std.specs.List.{filter, cons_option}
use Rattle.std.specs.declared.cmp.Ordering.{Ordering}
use Rattle.std.specs.declared.cmp.Ordering.TheVariants.{Less, Equal, Greater}
use Rattle.std.specs.Ordering.{ordering_reverse, is_eq, is_lt}
use Rattle.std.specs.FinMap.{find, put}
use Rattle.std.specs.FinMap.Entries.{by_order, where_key}
use Rattle.semantics.specs.Ids.{OpId, id_cmp, is_same_id, is_smaller_id}
use Rattle.semantics.specs.LegalHistory.{IsAmong}
use Rattle.semantics.specs.Delivery.{is_waiting, put_waiting}
use Rattle.semantics.specs.Drain.{without_waiting}
use Rattle.semantics.proofs.Orders.{id_total, ids_from_test, id_tested}
use Rattle.document.specs.operation.declared.op.Op.{Op}
use Rattle.document.specs.operation.Ops.{stamped_of}
use Rattle.slab.specs.Slab.{Slab, get, Updates}
use Rattle.inbox.specs.Inboxes.{AreAtKeys, ops_at, waiting_in}

eq_back : (r : Ordering) → is_eq (ordering_reverse r) ≡ is_eq r
eq_back Less = refl
eq_back Equal = refl
eq_back Greater = refl

same_back : (a b : OpId) → is_same_id a b ≡ is_same_id b a
same_back a b = ap is_eq (id_total.antisymm a b) ∙ eq_back (id_cmp b a)

-- ---- what stands at the keys

pub ops_at-first : (s : Slab Op) (e : OpId × ℕ) (es : List (OpId × ℕ)) (o : Op) → get s e.1 ≡ Some o → ops_at s (e ∷ es) ≡ o ∷ ops_at s es
ops_at-first s e es o h = ap (λ x. cons_option x (ops_at s es)) h

pub length-ops_at : (s : Slab Op) (es : List (OpId × ℕ)) → AreAtKeys s es → length (ops_at s es) ≡ length es
length-ops_at s [] h = refl
length-ops_at s (e ∷ es) h = ap length (ops_at-first s e es h.0.0 h.0.1) ∙ ap suc (length-ops_at s es h.1)

-- where each key holds what it held, nothing changes
pub same-ops_at : (s t : Slab Op) (es : List (OpId × ℕ)) → ((k : ℕ) → get t k ≡ get s k) → ops_at t es ≡ ops_at s es
same-ops_at s t [] same = refl
same-ops_at s t (e ∷ es) same = λ i. cons_option (same e.1 i) (same-ops_at s t es same i)

pub same-at_keys : (s t : Slab Op) (es : List (OpId × ℕ)) → ((k : ℕ) → get t k ≡ get s k) → AreAtKeys s es → AreAtKeys t es
same-at_keys s t [] same h = tt
same-at_keys s t (e ∷ es) same h = ((h.0.0, same e.1 ∙ h.0.1, h.0.2), same-at_keys s t es same h.1)

-- ---- what is found

either_found : (t : Bool) (k : ℕ) (b : Bool) (x : Option ℕ) → b ≡ is_some x → (t || b) ≡ is_some (cond t (Some k) x)
either_found true k b x h = refl
either_found false k b x h = h

-- an id waits where the map has a key of it
pub waiting-found : (s : Slab Op) (es : List (OpId × ℕ)) (a : OpId) → AreAtKeys s es
    → is_waiting (waiting_in (ops_at s es)) a ≡ is_some (find id_cmp a es)
waiting-found s [] a h = refl
waiting-found s (e ∷ es) a h =
    ap (λ ops. is_waiting (waiting_in ops) a) (ops_at-first s e es h.0.0 h.0.1)
    ∙ ap (λ b. b || is_waiting (waiting_in (ops_at s es)) a) (ap (λ b. is_same_id b a) h.0.2 ∙ same_back e.0 a)
    ∙ either_found (is_same_id a e.0) e.1 _ (find id_cmp a es) (waiting-found s es a h.1)

-- an id that doesn't wait has no key
pub absent : (s : Slab Op) (es : List (OpId × ℕ)) (a : OpId) → AreAtKeys s es
    → is_waiting (waiting_in (ops_at s es)) a ≡ false → find id_cmp a es ≡ None
absent s es a h n = no_some (find id_cmp a es) (sym (waiting-found s es a h) ∙ n)
  where
    no_some : (o : Option ℕ) → is_some o ≡ false → o ≡ None
    no_some None e = refl
    no_some (Some x) e = absurd (true≢false e)

-- at this key stands an operation of the list, with this id
pub record IsFound (s : Slab Op) (ops : List Op) (a : OpId) (k : ℕ) : Type 0 where
  pub op : Op
  pub at_key : get s k ≡ Some op
  pub id : op.id ≡ a
  pub among : IsAmong op ops

-- so something does
pub is_there : (s : Slab Op) (ops : List Op) (a : OpId) (k : ℕ) → IsFound s ops a k → None ≡ get s k → ⊥
is_there s ops a k f none = let here = f.at_key in absurd (let no : ⊥ = cc in no)

-- at the key that the map has for an id stands the operation with that id
found_at : (s : Slab Op) (es : List (OpId × ℕ)) (a : OpId) (k : ℕ) → AreAtKeys s es → find id_cmp a es ≡ Some k
    → IsFound s (ops_at s es) a k
found_at s [] a k h f = cc
found_at s (e ∷ es) a k h f = at_test (λ g. found_at s es a k h.1 g) (is_same_id a e.0) refl f
  where
    at_test : (find id_cmp a es ≡ Some k → IsFound s (ops_at s es) a k) → (t : Bool) → is_same_id a e.0 ≡ t
        → cond t (Some e.1) (find id_cmp a es) ≡ Some k → IsFound s (ops_at s (e ∷ es)) a k
    at_test rest true same g =
        let key : e.1 ≡ k = cc in
        rw (ops_at-first s e es h.0.0 h.0.1)
        (record { op = h.0.0; at_key = ap (get s) (sym key) ∙ h.0.1; id = h.0.2 ∙ sym (ids_from_test a e.0 same); among = inl refl })
    at_test rest false other g =
        let r = rest g in
        rw (ops_at-first s e es h.0.0 h.0.1) (record { op = r.op; at_key = r.at_key; id = r.id; among = inr r.among })

-- these are the operations at the keys
module _ (s : Slab Op) (es : List (OpId × ℕ)) (ops : List Op) (a : OpId) (h : AreAtKeys s es) (are : ops_at s es ≡ ops) where
  -- at the key of an id stands one of them
  pub found : (k : ℕ) → find id_cmp a es ≡ Some k → IsFound s ops a k
  found k at_key = subst (λ os. IsFound s os a k) are (found_at s es a k h at_key)

  -- an id with no key doesn't wait
  pub not_found : {X : Type 0} (r : Option X) → find id_cmp a es ≡ None
      → IfNone r (is_waiting (waiting_in ops) a ≡ false)
  not_found None none =
      ap (λ os. is_waiting (waiting_in os) a) (sym are) ∙ waiting-found s es a h ∙ ap is_some none
  not_found (Some x) none = tt

-- what is looked up is a reference to it
pub some_of : (P : Op → Type 0) (r : Option (Bor Op)) (o : Op) → option_copied r ≡ Some o → P o → IfSome r (λ x. P x.now)
some_of P None o e p = tt
some_of P (Some x) o e p = subst P (sym (let same : x.now ≡ o = cc in same)) p

-- ---- what is left

-- the entries of the other ids
abbrev pub others : OpId → List (OpId × ℕ) → List (OpId × ℕ)
others a es = where_key id_cmp (λ b. not (is_same_id a b)) es

-- the operations with other ids
abbrev pub ops_without : OpId → List Op → List Op
ops_without a ops = filter (λ o. not (is_same_id o.id a)) ops

-- each key of another id holds what it held
abbrev pub KeepsOthers : OpId → Slab Op → Slab Op → Type 0
KeepsOthers a s t = (k : ℕ) (o : Op) → get s k ≡ Some o → is_same_id a o.id ≡ false → get t k ≡ get s k

-- an operation that was taken out changes no key of another id
pub keeps_others : (s t : Slab Op) (ops : List Op) (a : OpId) (k : ℕ) → IsFound s ops a k → Updates s t k None → KeepsOthers a s t
keeps_others s t ops a k f u n o h differs = u.others n (λ same.
    let one : o ≡ f.op = (let e : get s n ≡ get s k = ap (get s) same in let g = f.at_key in cc) in
    true≢false (sym (id_tested a o.id (sym (ap (λ (x : Op). x.id) one ∙ f.id))) ∙ differs))

pub left-at_keys : (s t : Slab Op) (es : List (OpId × ℕ)) (a : OpId) → KeepsOthers a s t → AreAtKeys s es → AreAtKeys t (others a es)
left-at_keys s t [] a keeps h = tt
left-at_keys s t (e ∷ es) a keeps h = at_test (left-at_keys s t es a keeps h.1) (is_same_id a e.0) refl
  where
    at_test : AreAtKeys t (others a es) → (b : Bool) → is_same_id a e.0 ≡ b → AreAtKeys t (cond (not b) (e ∷ others a es) (others a es))
    at_test rest true same = rest
    at_test rest false differs = ((h.0.0, keeps e.1 h.0.0 h.0.1 (ap (is_same_id a) h.0.2 ∙ differs) ∙ h.0.1, h.0.2), rest)

pub left-ops_at : (s t : Slab Op) (es : List (OpId × ℕ)) (a : OpId) → KeepsOthers a s t → AreAtKeys s es
    → ops_at t (others a es) ≡ ops_without a (ops_at s es)
left-ops_at s t [] a keeps h = refl
left-ops_at s t (e ∷ es) a keeps h =
    at_test (left-ops_at s t es a keeps h.1) (is_same_id a e.0) refl
    ∙ ap (λ b. cond (not b) (h.0.0 ∷ ops_without a (ops_at s es)) (ops_without a (ops_at s es)))
    (same_back a e.0 ∙ ap (λ b. is_same_id b a) (sym h.0.2))
    ∙ ap (ops_without a) (sym (ops_at-first s e es h.0.0 h.0.1))
  where
    at_test : ops_at t (others a es) ≡ ops_without a (ops_at s es) → (b : Bool) → is_same_id a e.0 ≡ b
        → ops_at t (cond (not b) (e ∷ others a es) (others a es))
        ≡ cond (not b) (h.0.0 ∷ ops_without a (ops_at s es)) (ops_without a (ops_at s es))
    at_test rest true same = rest
    at_test rest false differs = λ i. cons_option ((keeps e.1 h.0.0 h.0.1 (ap (is_same_id a) h.0.2 ∙ differs) ∙ h.0.1) i) (rest i)

map_cond : (b : Bool) (o : Op) (ops : List Op)
    → waiting_in (cond b (o ∷ ops) ops) ≡ cond b (stamped_of o ∷ waiting_in ops) (waiting_in ops)
map_cond true o ops = refl
map_cond false o ops = refl

pub waiting-without : (a : OpId) (ops : List Op)
    → waiting_in (ops_without a ops) ≡ without_waiting a (waiting_in ops)
waiting-without a [] = refl
waiting-without a (o ∷ ops) =
    map_cond (not (is_same_id o.id a)) o (ops_without a ops)
    ∙ ap (λ W. cond (not (is_same_id o.id a)) (stamped_of o ∷ W) W) (waiting-without a ops)

pub in_without : (a : OpId) (ops : List Op) (o : Op) → IsAmong o (ops_without a ops) → IsAmong o ops
in_without a [] o m = m
in_without a (x ∷ ops) o m = at_test (λ n. in_without a ops o n) (is_same_id x.id a) m
  where
    at_test : (IsAmong o (ops_without a ops) → IsAmong o ops) → (b : Bool)
        → IsAmong o (cond (not b) (x ∷ ops_without a ops) (ops_without a ops)) → IsAmong o (x ∷ ops)
    at_test rest true m = inr (rest m)
    at_test rest false (inl e) = inl e
    at_test rest false (inr m) = inr (rest m)

-- ---- what is put

-- the operation before the first that is greater
abbrev pub put_op : Op → List Op → List Op
put_op p [] = p ∷ []
put_op p (o ∷ ops) = cond (is_smaller_id p.id o.id) (p ∷ o ∷ ops) (o ∷ put_op p ops)

-- what is put at a key where nothing was changes no other
other_key : (s t : Slab Op) (k n : ℕ) (p o : Op) → get s k ≡ None → Updates s t k (Some p) → get s n ≡ Some o → get t n ≡ Some o
other_key s t k n p o vacant u h = u.others n (λ same. let e : get s n ≡ get s k = ap (get s) same in cc) ∙ h

put-others : (s t : Slab Op) (es : List (OpId × ℕ)) (k : ℕ) (p : Op) → get s k ≡ None → Updates s t k (Some p) → AreAtKeys s es
    → AreAtKeys t es × (ops_at t es ≡ ops_at s es)
put-others s t [] k p vacant u h = (tt, refl)
put-others s t (e ∷ es) k p vacant u h =
    let rest = put-others s t es k p vacant u h.1 in
    let here = other_key s t k e.1 p h.0.0 vacant u h.0.1 in (
      ((h.0.0, here, h.0.2), rest.0),
      ops_at-first t e es h.0.0 here ∙ ap (λ ops. h.0.0 ∷ ops) rest.1
          ∙ sym (ops_at-first s e es h.0.0 h.0.1),
    )

pub put-at_keys : (s t : Slab Op) (es : List (OpId × ℕ)) (k : ℕ) (p : Op) → get s k ≡ None → Updates s t k (Some p)
    → find id_cmp p.id es ≡ None → AreAtKeys s es → AreAtKeys t (put id_cmp p.id k es)
put-at_keys s t [] k p vacant u none h = ((p, u.changed, refl), tt)
put-at_keys s t (e ∷ es) k p vacant u none h = at_order (λ n. put-at_keys s t es k p vacant u n h.1) (id_cmp p.id e.0) none
  where
    all : AreAtKeys t (e ∷ es)
    all = (put-others s t (e ∷ es) k p vacant u h).0

    at_order : (find id_cmp p.id es ≡ None → AreAtKeys t (put id_cmp p.id k es)) → (r : Ordering)
        → cond (is_eq r) (Some e.1) (find id_cmp p.id es) ≡ None
        → AreAtKeys t (by_order r ((p.id, k) ∷ e ∷ es) ((e.0, k) ∷ es) (e ∷ put id_cmp p.id k es))
    at_order rest Less n = ((p, u.changed, refl), all)
    at_order rest Equal n = cc
    at_order rest Greater n = (all.0, rest n)

pub put-ops_at : (s t : Slab Op) (es : List (OpId × ℕ)) (k : ℕ) (p : Op) → get s k ≡ None → Updates s t k (Some p)
    → find id_cmp p.id es ≡ None → AreAtKeys s es → ops_at t (put id_cmp p.id k es) ≡ put_op p (ops_at s es)
put-ops_at s t [] k p vacant u none h = ops_at-first t (p.id, k) [] p u.changed
put-ops_at s t (e ∷ es) k p vacant u none h =
    at_order (λ n. put-ops_at s t es k p vacant u n h.1) (id_cmp p.id e.0) refl none
    ∙ ap (λ b. cond b (p ∷ h.0.0 ∷ ops_at s es) (h.0.0 ∷ put_op p (ops_at s es))) (ap (is_smaller_id p.id) (sym h.0.2))
    ∙ ap (put_op p) (sym (ops_at-first s e es h.0.0 h.0.1))
  where
    here : get t e.1 ≡ Some h.0.0
    here = other_key s t k e.1 p h.0.0 vacant u h.0.1

    all : ops_at t (e ∷ es) ≡ h.0.0 ∷ ops_at s es
    all = (put-others s t (e ∷ es) k p vacant u h).1 ∙ ops_at-first s e es h.0.0 h.0.1

    at_order : (find id_cmp p.id es ≡ None → ops_at t (put id_cmp p.id k es) ≡ put_op p (ops_at s es)) → (r : Ordering)
        → id_cmp p.id e.0 ≡ r → cond (is_eq r) (Some e.1) (find id_cmp p.id es) ≡ None
        → ops_at t (by_order r ((p.id, k) ∷ e ∷ es) ((e.0, k) ∷ es) (e ∷ put id_cmp p.id k es))
        ≡ cond (is_lt r) (p ∷ h.0.0 ∷ ops_at s es) (h.0.0 ∷ put_op p (ops_at s es))
    at_order rest Less r n = ops_at-first t (p.id, k) (e ∷ es) p u.changed ∙ ap (λ ops. p ∷ ops) all
    at_order rest Equal r n = cc
    at_order rest Greater r n = ops_at-first t e (put id_cmp p.id k es) h.0.0 here ∙ ap (λ ops. h.0.0 ∷ ops) (rest n)

map_put : (b : Bool) (p o : Op) (ops put : List Op)
    → waiting_in (cond b (p ∷ o ∷ ops) (o ∷ put))
    ≡ cond b (stamped_of p ∷ stamped_of o ∷ waiting_in ops) (stamped_of o ∷ waiting_in put)
map_put true p o ops put = refl
map_put false p o ops put = refl

pub waiting-put : (p : Op) (ops : List Op)
    → waiting_in (put_op p ops) ≡ put_waiting (stamped_of p) (waiting_in ops)
waiting-put p [] = refl
waiting-put p (o ∷ ops) =
    map_put (is_smaller_id p.id o.id) p o ops (put_op p ops)
    ∙ ap (λ W. cond (is_smaller_id p.id o.id) (stamped_of p ∷ stamped_of o ∷ waiting_in ops) (stamped_of o ∷ W))
    (waiting-put p ops)

pub in_put : (p : Op) (ops : List Op) (o : Op) → IsAmong o (put_op p ops) → (o ≡ p) ⊎ IsAmong o ops
in_put p [] o (inl e) = inl e
in_put p [] o (inr m) = absurd m
in_put p (x ∷ ops) o m = at_test (λ n. in_put p ops o n) (is_smaller_id p.id x.id) m
  where
    at_test : (IsAmong o (put_op p ops) → (o ≡ p) ⊎ IsAmong o ops) → (b : Bool) → IsAmong o (cond b (p ∷ x ∷ ops) (x ∷ put_op p ops))
        → (o ≡ p) ⊎ IsAmong o (x ∷ ops)
    at_test rest true (inl e) = inl e
    at_test rest true (inr n) = inr n
    at_test rest false (inl e) = inr (inl e)
    at_test rest false (inr n) = elim (rest n) [ inl e ↦ inl e | inr i ↦ inr (inr i) ]
