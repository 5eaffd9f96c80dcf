-- In one world what a history lacks may follow once its dependencies are there.
use Rattle.std.proofs.Common.{◌≡◌, ◌⊎◌, inl, inr, ℕ, suc, ◌≤◌, true, false, List, [], ◌∷◌, sym, ap, ◌∙◌, subst, true≢false, arith}
use Rattle.std.proofs.Common.{le_antisymm}
use Rattle.semantics.specs.Ids.{OpId, IdSet}
use Rattle.semantics.specs.Elements.{Element, Doc, Field, Item}
use Rattle.semantics.specs.Operations.{Operation, element_of, slot_of}
use Rattle.semantics.specs.LegalHistory.{IsLegal, Follows, IsAmong, ItemsStand, has_id, greatest_of}
use Rattle.semantics.specs.OneWorld.{AreWithin}
use Rattle.semantics.proofs.AbsentIds.{has_id-among}
use Rattle.semantics.proofs.LegalFacts.{among_from, counted, greatest_cases, chain, deps_through, deps_there, same_operation}

-- where each operation of a legal history stands
pub followed : (K : List Operation) → IsLegal K → (o : Operation) → IsAmong o K → (B : List Operation) × Follows B o × AreWithin B K
followed [] l o m = absurd m
followed (k ∷ K) l o (inl e) = (K, subst (Follows K) (sym e) l.1, λ x n. inr n)
followed (k ∷ K) l o (inr m) = let r = followed K l.0 o m in (r.0, r.1, λ x n. inr (r.2 x n))

pub greatest_within : (S : IdSet) (A B : List Operation) → ((a : OpId) → S a ≡ true → has_id B a ≡ true) → greatest_of S A ≤ greatest_of S B
greatest_within S A B h =
    elim (greatest_cases S A) [
      | inl z ↦ omega arith
      | inr r ↦ (let y = among_from B r.0.id (h r.0.id r.2) in
          let k : y.0.id.counter ≤ greatest_of S B = counted S B y.0 y.1 (ap S y.2 ∙ r.2) in
          let c : y.0.id.counter ≡ r.0.id.counter = ap (λ (b : OpId). b.counter) y.2 in
          let e : r.0.id.counter ≡ greatest_of S A = r.3 in
          omega arith)
    ]

pub items_moved : (K : List Operation) → IsLegal K → (B G : List Operation) (S : IdSet) → AreWithin B K → AreWithin G K
    → ((a : OpId) → S a ≡ true → has_id G a ≡ true) → (e : Element) → ItemsStand B S e → ItemsStand G S e
items_moved K l B G S wb wg h Doc i = tt
items_moved K l B G S wb wg h (Field e n) i = items_moved K l B G S wb wg h e i
items_moved K l B G S wb wg h (Item e a) (there, (x, m, xa, slot), up) =
    let y = among_from G a (h a there) in
    let same : y.0 ≡ x = same_operation K l y.0 x (wg y.0 y.1) (wb x m) (y.2 ∙ sym xa) in (
      there,
      (y.0, y.1, y.2, (slot.0, ap (λ (z : Operation). slot_of z.mutation z.place) same ∙ slot.1)),
      items_moved K l B G S wb wg h e up,
    )

-- the step of convergence: what is missing may follow where all that it depends on is there
pub follows_in : (K G : List Operation) → IsLegal K → IsLegal G → AreWithin G K → (o : Operation) → IsAmong o K → has_id G o.id ≡ false
    → ((a : OpId) → o.deps a ≡ true → has_id G a ≡ true) → Follows G o
follows_in K G lk lg w o m new before =
    let at_own = followed K lk o m in
    record {
      new_id = λ x n e. true≢false (sym (has_id-among G x o.id n e) ∙ new);
      deps_before = before;
      deps_closed = λ x n d a e. deps_through K lk o x m (w x n) d a e;
      own_in_deps = λ x n r. own x n r (chain K lk x o (w x n) m r) (chain K lk o x m (w x n) (sym r));
      counter = at_own.1.counter
          ∙ ap suc (le_antisymm (greatest_within o.deps at_own.0 G before) (greatest_within o.deps G at_own.0 at_own.1.deps_before));
      items = items_moved K lk at_own.0 G o.deps at_own.2 w before (element_of o.place) at_own.1.items;
      form = at_own.1.form;
    }
  where
    not_same : (x : Operation) → IsAmong x G → x ≡ o → ⊥
    not_same x n e = true≢false (sym (has_id-among G x o.id n (ap (λ (z : Operation). z.id) e)) ∙ new)

    above : (x : Operation) → IsAmong x G → (o ≡ x) ⊎ (x.deps o.id ≡ true) → ⊥
    above x n (inl e) = not_same x n (sym e)
    above x n (inr d) = true≢false (sym (deps_there G lg x n o.id d) ∙ new)

    own : (x : Operation) → IsAmong x G → x.id.replica ≡ o.id.replica → (x.id.counter ≤ o.id.counter → (x ≡ o) ⊎ (o.deps x.id ≡ true))
        → (o.id.counter ≤ x.id.counter → (o ≡ x) ⊎ (x.deps o.id ≡ true)) → o.deps x.id ≡ true
    own x n r up down =
        elim (le_either x.id.counter o.id.counter) [
          | inl h ↦ elim (up h) [ inl e ↦ absurd (not_same x n e) | inr d ↦ d ]
          | inr h ↦ absurd (above x n (down h))
        ]
      where
        le_either : (a b : ℕ) → (a ≤ b) ⊎ (b ≤ a)
        le_either a b = grind arith
