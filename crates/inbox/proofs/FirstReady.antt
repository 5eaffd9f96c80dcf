-- The first of those that may be ready.
use Rattle.std.proofs.Common.{◌≡◌, ◌+◌, ℕ, zero, suc, Bool, true, false, cond, List, [], ◌∷◌, drop, Some, refl, sym, ap, ◌∙◌}
use Rattle.std.proofs.Common.{slice_get, true≢false, arith}
use Rattle.std.proofs.lemmas.Bool.{and_parts, false_from_ne_true}
use Rattle.std.specs.Ordering.{is_lt}
use Rattle.std.specs.FinMap.{find, is_sorted}
use Rattle.std.specs.FinMap.Entries.{below_all}
use Rattle.semantics.specs.Ids.{OpId, id_cmp, is_same_id, is_smaller_id}
use Rattle.semantics.specs.Operations.{Operation}
use Rattle.semantics.specs.Faults.{is_ready}
use Rattle.semantics.proofs.Orders.{id_itself, ids_from_test}
use Rattle.semantics.proofs.SkipOrder.{not_back, not_itself}
use Rattle.document.specs.operation.declared.op.Op.{Op}
use Rattle.document.specs.operation.Ops.{stamped_of}
use Rattle.slab.specs.Slab.{Slab, get}
use Rattle.inbox.specs.Awaiting.{first_of, is_ready_at, is_ready_if, IsMet, IsReadyAt}

-- the first id of all is smaller than what is found behind it
below_found : (a b : OpId) (n : ℕ) (es : List (OpId × ℕ)) → below_all id_cmp a es ≡ true → find id_cmp b es ≡ Some n
    → is_smaller_id a b ≡ true
below_found a b n [] h f = absurd (let no : ⊥ = cc in no)
below_found a b n (e ∷ es) h f = at_test (below_found a b n es parts.1) (is_same_id b e.0) refl f
  where
    parts : (is_lt (id_cmp a e.0) ≡ true) × (below_all id_cmp a es ≡ true)
    parts = and_parts (is_lt (id_cmp a e.0)) (below_all id_cmp a es) h

    at_test : (find id_cmp b es ≡ Some n → is_smaller_id a b ≡ true) → (t : Bool) → is_same_id b e.0 ≡ t
        → cond t (Some e.1) (find id_cmp b es) ≡ Some n → is_smaller_id a b ≡ true
    at_test rest true same g = ap (is_smaller_id a) (ids_from_test b e.0 same) ∙ parts.0
    at_test rest false differs g = rest g

module _ (H : List Operation) (s : Slab Op) where
  -- it is ready, where each id has its operation
  pub first_is_ready : (es : List (OpId × ℕ)) → is_sorted id_cmp es ≡ true
      → ((a : OpId) (k : ℕ) → find id_cmp a es ≡ Some k → (o : Op) × (get s k ≡ Some o) × (o.id ≡ a))
      → IsReadyAt H s (first_of H s es)
  first_is_ready [] sorted stands = tt
  first_is_ready (e ∷ es) sorted stands =
      at_test (first_is_ready es parts.1 (λ a k f. stands a k (later a k f))) (is_ready_at H s e.1) refl
    where
      parts : (below_all id_cmp e.0 es ≡ true) × (is_sorted id_cmp es ≡ true)
      parts = and_parts (below_all id_cmp e.0 es) (is_sorted id_cmp es) sorted

      here : (o : Op) × (get s e.1 ≡ Some o) × (o.id ≡ e.0)
      here = stands e.0 e.1 (ap (λ b. cond b (Some e.1) (find id_cmp e.0 es)) (id_itself e.0))

      later : (a : OpId) (k : ℕ) → find id_cmp a es ≡ Some k → find id_cmp a (e ∷ es) ≡ Some k
      later a k f =
          ap (λ b. cond b (Some e.1) (find id_cmp a es))
          (false_from_ne_true (is_same_id a e.0)
          (λ same. true≢false
          (sym (below_found e.0 a k es parts.0 f) ∙ ap (is_smaller_id e.0) (ids_from_test a e.0 same) ∙ not_itself e.0)))
          ∙ f

      at_test : IsReadyAt H s (first_of H s es) → (b : Bool) → is_ready_at H s e.1 ≡ b
          → IsReadyAt H s (cond b (Some e) (first_of H s es))
      at_test rest true r = (here.0, here.1, here.2, sym (ap (is_ready_if H) here.1) ∙ r)
      at_test rest false r = rest

  -- none of them that is ready is smaller
  pub first_is_least : (es : List (OpId × ℕ)) → is_sorted id_cmp es ≡ true → (k : ℕ) (o : Op) → get s k ≡ Some o
      → find id_cmp o.id es ≡ Some k → is_ready H (stamped_of o) ≡ true → IsMet (first_of H s es) o.id
  first_is_least [] sorted k o stands f ready = absurd (let no : ⊥ = cc in no)
  first_is_least (e ∷ es) sorted k o stands f ready =
      at_test (λ g. first_is_least es parts.1 k o stands g ready) (is_ready_at H s e.1) refl
    where
      parts : (below_all id_cmp e.0 es ≡ true) × (is_sorted id_cmp es ≡ true)
      parts = and_parts (below_all id_cmp e.0 es) (is_sorted id_cmp es) sorted

      at_head : (t : Bool) → is_same_id o.id e.0 ≡ t → cond t (Some e.1) (find id_cmp o.id es) ≡ Some k
          → is_smaller_id o.id e.0 ≡ false
      at_head true same g = ap (is_smaller_id o.id) (sym (ids_from_test o.id e.0 same)) ∙ not_itself o.id
      at_head false differs g = not_back e.0 o.id (below_found e.0 o.id k es parts.0 g)

      behind : (find id_cmp o.id es ≡ Some k → IsMet (first_of H s es) o.id) → is_ready_at H s e.1 ≡ false → (t : Bool)
          → is_same_id o.id e.0 ≡ t → cond t (Some e.1) (find id_cmp o.id es) ≡ Some k → IsMet (first_of H s es) o.id
      behind rest r true same g =
          let one : e.1 ≡ k = cc in
          absurd
          (true≢false (sym ready ∙ sym (ap (is_ready_if H) stands) ∙ ap (is_ready_at H s) (sym one) ∙ r))
      behind rest r false differs g = rest g

      at_test : (find id_cmp o.id es ≡ Some k → IsMet (first_of H s es) o.id) → (b : Bool) → is_ready_at H s e.1 ≡ b
          → IsMet (cond b (Some e) (first_of H s es)) o.id
      at_test rest true r = at_head (is_same_id o.id e.0) refl f
      at_test rest false r = behind rest r (is_same_id o.id e.0) refl f

  -- what is left from a position on begins with what stands there
  next_of : (es : List (OpId × ℕ)) (i : ℕ) (e : OpId × ℕ) → slice_get es i ≡ Some e
      → first_of H s (drop i es)
      ≡ cond (is_ready_at H s e.1) (Some e) (first_of H s (drop (i + 1) es))
  next_of [] i e there = absurd (let no : ⊥ = cc in no)
  next_of (x ∷ es) zero e there =
      let same : x ≡ e = cc in
      ap (λ (y : OpId × ℕ). cond (is_ready_at H s y.1) (Some y) (first_of H s es)) same
  next_of (x ∷ es) (suc i) e there =
      next_of es i e there
      ∙ ap (λ n. cond (is_ready_at H s e.1) (Some e) (first_of H s (drop n (x ∷ es)))) (later i)
    where
      later : (n : ℕ) → suc (n + 1) ≡ suc n + 1
      later n = omega arith

  pub next_is_ready : (es : List (OpId × ℕ)) (i : ℕ) (e : OpId × ℕ) → slice_get es i ≡ Some e → is_ready_at H s e.1 ≡ true
      → first_of H s (drop i es) ≡ Some e
  next_is_ready es i e there ready =
      next_of es i e there ∙ ap (λ b. cond b (Some e) (first_of H s (drop (i + 1) es))) ready

  pub next_is_not : (es : List (OpId × ℕ)) (i : ℕ) (e : OpId × ℕ) → slice_get es i ≡ Some e → is_ready_at H s e.1 ≡ false
      → first_of H s (drop i es) ≡ first_of H s (drop (i + 1) es)
  next_is_not es i e there not_ready =
      next_of es i e there ∙ ap (λ b. cond b (Some e) (first_of H s (drop (i + 1) es))) not_ready
