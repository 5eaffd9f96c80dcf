-- An operation whose dependencies are there is applied by its delivery, where there is room for its replica.
use Rattle.std.proofs.Common.{◌≡◌, ◌⊎◌, inl, inr, ℕ, ◌≤◌, true, false, ◌||◌, ◌==◌, nat_lt, List, [], ◌∷◌, None, refl, sym, ap, ◌∙◌, subst}
use Rattle.std.proofs.Common.{true≢false, arith, length}
use Rattle.std.proofs.lemmas.Bool.{and_parts, cases_Bool, or_cases, or_from, or_left, or_right, ltb-false, le-ltb, false_from_ne_true}
use Rattle.std.proofs.lemmas.Bool.{eqb-true}
use Rattle.semantics.specs.Ids.{OpId, is_same_id}
use Rattle.semantics.specs.Operations.{Operation}
use Rattle.semantics.specs.LegalHistory.{IsLegal, has_id, IsAmong}
use Rattle.semantics.specs.Vectors.{covers}
use Rattle.semantics.specs.Stamped.{Stamped, operation_after, operations_of, MayFollow, IsLegalStamped, Means}
use Rattle.semantics.specs.Faults.{is_ready, alone_fault}
use Rattle.semantics.specs.Making.{is_full}
use Rattle.semantics.specs.Entries.{Entry, stamped_entries}
use Rattle.ids.specs.Tables.{lacks_room}
use Rattle.semantics.specs.Joining.{table_after, check_fault}
use Rattle.semantics.specs.Replica.{Replica, operations, table_of, IsRunning}
use Rattle.semantics.specs.Delivery.{Kept, is_waiting, put_waiting, answer_after, answer_to, kept_by}
use Rattle.semantics.specs.Drain.{drain, receive, IsDrained}
use Rattle.semantics.specs.OneWorld.{AreWithin, IsOfWorld, IsReplicaOf}
use Rattle.semantics.proofs.Orders.{id_itself, ids_from_test}
use Rattle.semantics.proofs.LegalFacts.{same_operation}
use Rattle.semantics.proofs.NamedOperations.{means_first, meaning_of, ready_where_follows}
use Rattle.semantics.proofs.VectorCounters.{ready-from}
use Rattle.semantics.proofs.FollowsFaultless.{no_fault_where_follows}
use Rattle.semantics.proofs.ReadyThere.{may_follow_in, ready_where_there}
use Rattle.semantics.proofs.EntryHistories.{entries_legal}
use Rattle.semantics.proofs.Drained.{drained}
use Rattle.semantics.proofs.Delivered.{delivered}
use Rattle.semantics.proofs.Waiting.{in_put}
use Rattle.semantics.proofs.LawfulAlone.{no_fault_alone, length_operations, length_stamped}
use Rattle.semantics.proofs.OneDelivery.{kept_by_tests}
use Rattle.semantics.proofs.CheckedFaults.{fitting_fault}
use Rattle.semantics.proofs.GrowingWorld.{legal_entries}
use Rattle.semantics.proofs.JoinedReplicas.{lacks_later}
use Rattle.semantics.proofs.ReceivedItems.{received}
use Rattle.semantics.proofs.NoneDropped.{keeps_for}
use Rattle.semantics.proofs.ReachedWorlds.{has_more}
use Rattle.semantics.proofs.Room.{in_put_itself}
use Rattle.semantics.proofs.Staying.{stay_for}

pub waiting_one : (W : List Stamped) (a : OpId) → is_waiting W a ≡ true → (x : Stamped) × IsAmong x W × (x.id ≡ a)
waiting_one [] a h = absurd (true≢false (sym h))
waiting_one (y ∷ W) a h = elim (or_cases (is_same_id y.id a) (is_waiting W a) h) [
  | inl e ↦ (y, inl refl, ids_from_test y.id a e)
  | inr e ↦ (let r = waiting_one W a e in (r.0, inr r.1, r.2))
]

-- what waits waits under its id
pub waiting_under : (W : List Stamped) (s : Stamped) → IsAmong s W → is_waiting W s.id ≡ true
waiting_under [] s m = absurd m
waiting_under (y ∷ W) s (inl e) =
    or_left (is_same_id y.id s.id) (is_waiting W s.id) (ap (λ (z : Stamped). is_same_id z.id s.id) (sym e) ∙ id_itself s.id)
waiting_under (y ∷ W) s (inr m) = or_right (is_same_id y.id s.id) (is_waiting W s.id) (waiting_under W s m)

-- the history is full and the operation waits, or it is applied, or the table lacks room for its replica
abbrev pub HasCome : Replica → Stamped → Type 0
HasCome r s =
    ((is_full r.entries ≡ true) × (is_waiting r.waiting s.id ≡ true))
    ⊎ (has_id (operations r) s.id ≡ true)
    ⊎ (lacks_room (table_of r) s.id.replica ≡ true)

-- a replica that lacks room lacks it after a delivery too
pub lacks_received : (r : Replica) (s : Stamped) → IsRunning r → (p : ℕ) → lacks_room (table_of r) p ≡ true
    → lacks_room (table_of (receive r s)) p ≡ true
lacks_received r s h p lacks =
    let got = received r s h in
    ap (λ ms. lacks_room (table_after ms (receive r s).entries) p) got.members
    ∙ lacks_later r.members p (receive r s).entries r.entries got.entries lacks

module _ (K : List Operation) (lk : IsLegal K) (p : ℕ) (r : Replica) (w : IsReplicaOf K p r) (end : IsDrained r)
    (le : length r.waiting ≤ 4096)
    (s : Stamped) (F : List Stamped) (l : IsLegalStamped (s ∷ F)) (wf : AreWithin (operations_of (s ∷ F)) K)
    (there : (a : OpId) → has_id (operations_of F) a ≡ true → has_id (operations r) a ≡ true) (few : is_full r.entries ≡ false)
    (new : has_id (operations r) s.id ≡ false) where
  abbrev o : Operation
  o = operation_after (operations_of F) s

  before : (a : OpId) → o.deps a ≡ true → has_id (operations r) a ≡ true
  before a d = there a (and_parts (has_id (operations_of F) a) (covers s.vector a) d).0

  means : Means (operations_of (s ∷ F)) s o
  means = means_first F s l

  none_under_id : is_waiting r.waiting s.id ≡ false
  none_under_id = false_from_ne_true (is_waiting r.waiting s.id) (λ e.
      let x = waiting_one r.waiting s.id e in
      let of = w.waits x.0 x.1 in
      let q = meaning_of of.history of.legal x.0 of.there in
      let same : q.0 ≡ o = same_operation K lk q.0 o (of.within q.0 q.1.among) (wf o means.among) (q.1.id ∙ x.2) in
      let ready : is_ready (operations r) x.0 ≡ true =
      ready_where_there K lk (operations r) (operations_of of.history) (legal_entries r w.running) w.within of.within x.0 q.0 q.1
      (λ a d. before a (ap (λ (y : Operation). y.deps a) (sym same) ∙ d)) in
      elim end [ inl f ↦ absurd (true≢false (sym f ∙ few)) | inr f ↦ absurd (true≢false (sym ready ∙ f x.0 x.1)) ])

  may : MayFollow (operations r) s
  may = may_follow_in K lk (operations r) (operations_of (s ∷ F)) (legal_entries r w.running) w.within wf s o means new before

  is_kept : lacks_room (table_of r) s.id.replica ≡ false → answer_to r s ≡ Kept
  is_kept fits =
      let ld : IsLegal (operations r) = legal_entries r w.running in
      let n : length (operations r) ≡ length r.entries = length_operations (stamped_entries r.entries) ∙ length_stamped r.entries in
      let room : length r.entries ≤ 1048575 = ltb-false 1048575 (length r.entries) few in
      let alone : alone_fault s ≡ None = no_fault_alone (operations r) s ld (omega (arith, n, room)) may in
      let other : (s.id.replica == r.own) ≡ false =
      false_from_ne_true (s.id.replica == r.own)
      (λ t. true≢false (sym (w.made o (wf o means.among) (eqb-true s.id.replica r.own t ∙ w.own)) ∙ new)) in
      ap (answer_after r s) alone
      ∙ kept_by_tests (has_id (operations r) s.id || is_waiting r.waiting s.id) (s.id.replica == r.own) (is_full r.entries)
      (is_ready (operations r) s) (nat_lt 4096 (length r.waiting)) (check_fault r.members (stamped_entries r.entries) s) _
      (or_from (has_id (operations r) s.id) (is_waiting r.waiting s.id) new none_under_id) other few
      (ready-from (operations r) s (ready_where_follows may)) (le-ltb 4096 (length r.waiting) (omega (arith, le)))
      (fitting_fault r.members (stamped_entries r.entries) s fits
      ∙ no_fault_where_follows (stamped_entries r.entries) s (entries_legal r.own r.entries w.running.history) may)

  comes_fitting : lacks_room (table_of r) s.id.replica ≡ false → HasCome (receive r s) s
  comes_fitting fits =
      let q : Replica = record r { waiting = put_waiting s r.waiting } in
      let same : receive r s ≡ drain q = ap (λ a. drain (kept_by r s a)) (is_kept fits) in
      let run : IsRunning q = subst IsRunning (ap (kept_by r s) (is_kept fits)) (delivered r s w.running) in
      let of : (x : Stamped) → IsAmong x q.waiting → IsOfWorld K x = λ x m. elim (in_put s r.waiting x m) [
        | inl e ↦ subst (IsOfWorld K) (sym e)
            (record { history = s ∷ F; legal = l; within = wf; there = inl refl })
        | inr n ↦ w.waits x n
      ] in
      let stay = stay_for K lk (length q.waiting) q run w.within of s (inl (in_put_itself s r.waiting)) in
      let done = drained q run in
      let keeps = keeps_for K lk (length q.waiting) q run w.within of in
      let more : (a : OpId) → has_id (operations r) a ≡ true → has_id (operations (drain q)) a ≡ true = λ a t.
      subst (λ (G : List Entry). has_id (operations_of (stamped_entries G)) a ≡ true) (sym done.1.entries)
      (has_more done.1.appended r.entries a t) in
      subst (λ (d : Replica). HasCome d s) (sym same)
      (elim stay [
        | inr k ↦ inr k
        | inl m ↦ elim done.2 [
          | inl f ↦ inl (f, waiting_under (drain q).waiting s m)
          | inr f ↦ absurd
              (true≢false (sym (ready_where_there K lk (operations (drain q)) (operations_of (s ∷ F))
              (legal_entries (drain q) done.0) keeps.within wf s o means (λ a d. more a (before a d)))
              ∙ f s m))
        ]
      ])

  pub comes_in : HasCome (receive r s) s
  comes_in = elim (cases_Bool (lacks_room (table_of r) s.id.replica)) [
    | inl e ↦ inr (inr (lacks_received r s w.running s.id.replica e))
    | inr e ↦ comes_fitting e
  ]
