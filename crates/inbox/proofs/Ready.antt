-- The first of what waits that is ready.
use Rattle.std.proofs.Common.{◌≡◌, inl, inr, ℕ, true, false, cond, List, [], ◌∷◌, Option, Some}
use Rattle.std.proofs.Common.{None, refl, sym, ap, ◌∙◌, subst, true≢false}
use Rattle.std.proofs.lemmas.Bool.{false_from_ne_true}
use Rattle.semantics.specs.Ids.{OpId, is_smaller_id}
use Rattle.semantics.specs.Operations.{Operation}
use Rattle.semantics.specs.LegalHistory.{IsAmong}
use Rattle.semantics.specs.Stamped.{Stamped}
use Rattle.semantics.specs.Faults.{is_ready}
use Rattle.semantics.specs.Drain.{first_ready}
use Rattle.semantics.proofs.Waiting.{none_ready as none_waits, ready_first}
use Rattle.document.specs.operation.declared.op.Op.{Op}
use Rattle.document.specs.operation.Ops.{stamped_of}
use Rattle.slab.specs.Slab.{Slab, get}
use Rattle.inbox.specs.declared.waits.Waits.{Waits}
use Rattle.inbox.specs.Inboxes.{AreAtKeys, AreNotReady, AreRising, IsLeastReady, IsStored, ops_at, waiting_in}
use Rattle.inbox.proofs.KeyedOps.{found, ops_at-first}

-- ---- operations and what they are in the definitions

-- what is among the operations is among the stamped ones
pub among_stamped : (ops : List Op) (o : Op) → IsAmong o ops → IsAmong (stamped_of o) (waiting_in ops)
among_stamped [] o m = m
among_stamped (x ∷ ops) o (inl e) = inl (ap stamped_of e)
among_stamped (x ∷ ops) o (inr m) = inr (among_stamped ops o m)

-- and back
stamped_among : (ops : List Op) (s : Stamped) → IsAmong s (waiting_in ops)
    → (o : Op) × IsAmong o ops × (s ≡ stamped_of o)
stamped_among [] s m = absurd m
stamped_among (x ∷ ops) s (inl e) = (x, inl refl, e)
stamped_among (x ∷ ops) s (inr m) = (let it = stamped_among ops s m in (it.0, inr it.1, it.2))

-- if none is ready, there is no first ready one
pub none_first : (H : List Operation) (ops : List Op) → AreNotReady H ops
    → first_ready H (waiting_in ops) ≡ None
none_first H [] h = refl
none_first H (o ∷ ops) h =
    ap (λ b. cond b (Some (stamped_of o)) (first_ready H (waiting_in ops))) (h o (inl refl))
    ∙ none_first H ops (λ x m. h x (inr m))

-- the least ready one is the first
pub least_first : (H : List Operation) (ops : List Op) (o : Op) → AreRising ops → IsLeastReady H ops o
    → first_ready H (waiting_in ops) ≡ Some (stamped_of o)
least_first H ops o rising least = at_first (first_ready H (waiting_in ops)) refl
  where
    s : Stamped
    s = stamped_of o

    at_first : (f : Option Stamped) → first_ready H (waiting_in ops) ≡ f → f ≡ Some s
    at_first None e =
        absurd (true≢false (sym least.ready ∙ none_waits H (waiting_in ops) e s (among_stamped ops o least.waits)))
    at_first (Some x) e =
        let it = ready_first H (waiting_in ops) rising x e in
        elim (it.2 s (among_stamped ops o least.waits) least.ready) [
          | inl same ↦ ap Some (sym same)
          | inr smaller ↦
              let p = stamped_among ops x it.0 in
              absurd
              (true≢false
              (sym smaller ∙ ap (λ (y : Stamped). is_smaller_id y.id o.id) p.2
              ∙ least.least p.0 p.1 (ap (is_ready H) (sym p.2) ∙ it.1)))
        ]

-- ---- what stands at keys

-- each operation stands at a key
key_of : (s : Slab Op) (es : List (OpId × ℕ)) → AreAtKeys s es → (o : Op) → IsAmong o (ops_at s es) → (k : ℕ) × (get s k ≡ Some o)
key_of s [] h o m = absurd m
key_of s (e ∷ es) h o m = elim (subst (IsAmong o) (ops_at-first s e es h.0.0 h.0.1) m) [
  | inl here ↦ (e.1, h.0.1 ∙ ap Some (sym here))
  | inr there ↦ key_of s es h.1 o there
]

-- these are what an inbox keeps, and the operations in it
module _ (s : Slab Op) (es : List (OpId × ℕ)) (w : Waits) (ops : List Op) (h : IsStored s es w) (are : ops_at s es ≡ ops) where
  -- what stands at a key is one of them
  among_at : (k : ℕ) (o : Op) → get s k ≡ Some o → IsAmong o ops
  among_at k o stands =
      let f = found s es ops o.id h.at_keys are k (h.awaiting.by_id k o stands) in
      let one : f.op ≡ o = (let g = f.at_key in cc) in
      subst (λ (x : Op). IsAmong x ops) one f.among

  module _ (H : List Operation) where
    -- where nothing at a key is ready, none of them is
    pub none_ready : ((k : ℕ) (o : Op) → get s k ≡ Some o → is_ready H (stamped_of o) ≡ true → ⊥) → AreNotReady H ops
    none_ready none o m = false_from_ne_true (is_ready H (stamped_of o))
        (let at = key_of s es h.at_keys o (subst (IsAmong o) (sym are) m) in none at.0 o at.1)

    -- where nothing ready at a key is smaller than what stands here, that is the least
    pub least_ready : (k : ℕ) (o : Op) → get s k ≡ Some o → is_ready H (stamped_of o) ≡ true
        → ((n : ℕ) (p : Op) → get s n ≡ Some p → is_ready H (stamped_of p) ≡ true → is_smaller_id p.id o.id ≡ false)
        → IsLeastReady H ops o
    least_ready k o stands ready least = record {
      waits = among_at k o stands;
      ready = ready;
      least = λ p m r. let at = key_of s es h.at_keys p (subst (IsAmong p) (sym are) m) in least at.0 p at.1 r;
    }
