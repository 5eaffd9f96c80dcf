-- What an inbox keeps, after each change of its slab and its keys.
use Rattle.std.proofs.Common.{◌≡◌, ◌⊎◌, false, ℕ, List, Some, None, is_some, refl, sym, ap, ◌∙◌, subst}
use Rattle.std.specs.FinMap.{find, put}
use Rattle.semantics.specs.Ids.{OpId, id_cmp}
use Rattle.semantics.specs.LegalHistory.{IsAmong}
use Rattle.semantics.specs.Vectors.{Vector}
use Rattle.semantics.specs.Replica.{IsRising}
use Rattle.semantics.specs.Delivery.{is_waiting, put_waiting}
use Rattle.semantics.specs.Drain.{without_waiting}
use Rattle.semantics.proofs.Waiting.{rising_put, rising_without}
use Rattle.document.specs.operation.declared.op.Op.{Op}
use Rattle.document.specs.operation.Ops.{stamped_of}
use Rattle.slab.specs.Slab.{Slab, get, Updates}
use Rattle.inbox.specs.declared.waits.Waits.{Waits}
use Rattle.inbox.specs.Awaiting.{AreAwaiting, IsEntered, IsForgotten, SameWaits}
use Rattle.inbox.specs.Inboxes.{AreRising, IsStored, ops_at, waiting_in}
use Rattle.inbox.proofs.KeptAwaits.{left_awaiting, no_change, put_awaiting, same_awaiting, taken_awaiting}
use Rattle.inbox.proofs.KeyedOps.{IsFound, KeepsOthers, absent, in_put, in_without, keeps_others}
use Rattle.inbox.proofs.KeyedOps.{left-at_keys, left-ops_at, ops_without, others, put-at_keys, put-ops_at, put_op, same-at_keys}
use Rattle.inbox.proofs.KeyedOps.{same-ops_at, waiting-found, waiting-put, waiting-without}

-- where each key holds what it held
pub kept_same : (s t : Slab Op) (es fs : List (OpId × ℕ)) (w v : Waits) → fs ≡ es → ((k : ℕ) → get t k ≡ get s k) → SameWaits w v
    → IsStored s es w → IsStored t fs v
kept_same s t es fs w v is same waits h =
    let ops : ops_at t fs ≡ ops_at s es = ap (ops_at t) is ∙ same-ops_at s t es same in
    record {
      at_keys = rw is (same-at_keys s t es same h.at_keys);
      rising = subst AreRising (sym ops) h.rising;
      awaiting = same_awaiting s t es fs w v is same waits h.awaiting;
    }

-- where what waits moves on, the operations stay
pub advanced : (s t : Slab Op) (es : List (OpId × ℕ)) (ops : List Op) (w v : Waits) → ops_at s es ≡ ops
    → ((k : ℕ) → get t k ≡ get s k) → (AreAwaiting s es w → AreAwaiting t es v) → IsStored s es w → IsStored t es v × (ops_at t es ≡ ops)
advanced s t es ops w v are same kept h =
    let stay : ops_at t es ≡ ops_at s es = same-ops_at s t es same in (
      record {
        at_keys = same-at_keys s t es same h.at_keys;
        rising = subst AreRising (sym stay) h.rising;
        awaiting = kept h.awaiting;
      },
      stay ∙ are,
    )

-- where the slab has room for more, nothing changes
pub reserved : (s t : Slab Op) (room : ℕ) (es fs : List (OpId × ℕ)) (ops : List Op) (w : Waits)
    → t ≡ record s { capacity = room } → fs ≡ es → ops_at s es ≡ ops → IsStored s es w → IsStored t fs w × (ops_at t fs ≡ ops)
reserved s t room es fs ops w grown is are h =
    let same : (k : ℕ) → get t k ≡ get s k = λ k. ap (λ (r : Slab Op). get r k) grown in
    (kept_same s t es fs w w is same (no_change w) h, ap (ops_at t) is ∙ same-ops_at s t es same ∙ are)

-- what is kept where an operation was put
pub record IsWith (p : Op) (ops : List Op) (t : Slab Op) (fs : List (OpId × ℕ)) (w : Waits) : Type 0 where
  pub stored : IsStored t fs w
  pub put : waiting_in (ops_at t fs) ≡ put_waiting (stamped_of p) (waiting_in ops)
  pub among : (o : Op) → IsAmong o (ops_at t fs) → (o ≡ p) ⊎ IsAmong o ops

-- at a key that held none, where it is entered
pub put_in : (s t : Slab Op) (es fs : List (OpId × ℕ)) (ops : List Op) (k : ℕ) (p : Op) (w v : Waits) (applied : Vector)
    → ops_at s es ≡ ops → fs ≡ put id_cmp p.id k es → get s k ≡ None → Updates s t k (Some p)
    → is_waiting (waiting_in ops) p.id ≡ false → IsEntered applied w v k p → IsStored s es w → IsWith p ops t fs v
put_in s t es fs ops k p w v applied are is vacant u absent_now entered h = record {
  stored = record {
    at_keys = rw is (put-at_keys s t es k p vacant u none h.at_keys);
    rising =
        subst IsRising (sym put_now)
        (rising_put (stamped_of p) (waiting_in ops)
        (ap (λ os. is_waiting (waiting_in os) p.id) (sym are) ∙ waiting-found s es p.id h.at_keys ∙ ap is_some none)
        (subst AreRising are h.rising));
    awaiting = put_awaiting applied s t es fs w v k p is none vacant u h.awaiting entered;
  };
  put = put_now;
  among = among;
}
  where
    none : find id_cmp p.id es ≡ None
    none = absent s es p.id h.at_keys (ap (λ os. is_waiting (waiting_in os) p.id) are ∙ absent_now)

    with_it : ops_at t fs ≡ put_op p ops
    with_it = ap (ops_at t) is ∙ put-ops_at s t es k p vacant u none h.at_keys ∙ ap (put_op p) are

    put_now : waiting_in (ops_at t fs) ≡ put_waiting (stamped_of p) (waiting_in ops)
    put_now = ap waiting_in with_it ∙ waiting-put p ops

    among : (o : Op) → IsAmong o (ops_at t fs) → (o ≡ p) ⊎ IsAmong o ops
    among o m = in_put p ops o (subst (IsAmong o) with_it m)

-- what is kept where the operation with an id was taken out
pub record IsWithout (a : OpId) (ops : List Op) (t : Slab Op) (fs : List (OpId × ℕ)) (w : Waits) : Type 0 where
  pub stored : IsStored t fs w
  pub left : waiting_in (ops_at t fs) ≡ without_waiting a (waiting_in ops)
  pub among : (o : Op) → IsAmong o (ops_at t fs) → IsAmong o ops

-- where no key is that of the id, or only the key at which the operation stood changed
module _ (s t : Slab Op) (es fs : List (OpId × ℕ)) (ops : List Op) (a : OpId) (are : ops_at s es ≡ ops) (is : fs ≡ others a es) where
  left_out : (w v : Waits) → KeepsOthers a s t → AreAwaiting t fs v → IsStored s es w → IsWithout a ops t fs v
  left_out w v keeps awaiting h = record {
    stored = record {
      at_keys = rw is (left-at_keys s t es a keeps h.at_keys);
      rising = subst IsRising (sym left) (rising_without a (waiting_in ops) (subst AreRising are h.rising));
      awaiting = awaiting;
    };
    left = left;
    among = among;
  }
    where
      without : ops_at t fs ≡ ops_without a ops
      without = ap (ops_at t) is ∙ left-ops_at s t es a keeps h.at_keys ∙ ap (ops_without a) are

      left : waiting_in (ops_at t fs) ≡ without_waiting a (waiting_in ops)
      left = ap waiting_in without ∙ waiting-without a ops

      among : (o : Op) → IsAmong o (ops_at t fs) → IsAmong o ops
      among o m = in_without a ops o (subst (IsAmong o) without m)

  pub taken_out : (w v : Waits) (k : ℕ) → find id_cmp a es ≡ Some k → IsFound s ops a k → Updates s t k None → IsForgotten w v a k
      → IsStored s es w → IsWithout a ops t fs v
  taken_out w v k at_key f u forgotten h =
      left_out w v (keeps_others s t ops a k f u)
      (taken_awaiting s t es fs w v a k is at_key f.op f.at_key f.id u forgotten h.awaiting) h

-- where there was none
pub none_out : (s : Slab Op) (es fs : List (OpId × ℕ)) (ops : List Op) (a : OpId) (w : Waits) → ops_at s es ≡ ops
    → fs ≡ others a es → find id_cmp a es ≡ None → IsStored s es w → IsWithout a ops s fs w
none_out s es fs ops a w are is none h =
    left_out s s es fs ops a are is w w (λ k o at differs. refl) (left_awaiting s es fs w a is none h.awaiting) h
