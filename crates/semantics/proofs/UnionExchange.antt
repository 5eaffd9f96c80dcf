-- Delivering what is missing, in order, each followed by a drain, leaves the union.
use Rattle.std.proofs.Common.{◌≡◌, inl, inr, ℕ, suc, ◌+◌, ◌<◌, ◌≤◌, Bool, true, false, not, cond, ◌||◌, ◌==◌, List, [], ◌∷◌, None, refl}
use Rattle.std.proofs.Common.{sym, ap, ◌∙◌, subst, true≢false, arith, length, le_trans}
use Rattle.std.proofs.lemmas.Bool.{and_parts, or_parts, or_left, or_right, false_from_ne_true, cases_Bool, eqb-true, le-ltb, not_from_false}
use Rattle.semantics.specs.Ids.{OpId, is_same_id}
use Rattle.semantics.specs.Operations.{Operation}
use Rattle.semantics.specs.LegalHistory.{IsLegal, IsAmong, has_id}
use Rattle.semantics.specs.NamedIds.{greatest_counter}
use Rattle.semantics.specs.Vectors.{Vector, at, covers}
use Rattle.semantics.specs.Stamped.{Stamped, operation_after, operations_of, MayFollow, IsLegalStamped, Means}
use Rattle.semantics.specs.Faults.{is_ready, alone_fault}
use Rattle.semantics.specs.Entries.{stamped_entries, missing}
use Rattle.ids.specs.Members.{is_member}
use Rattle.ids.specs.Tables.{lacks_room}
use Rattle.semantics.specs.Joining.{joined_within, table_with, check_fault}
use Rattle.semantics.specs.Replica.{Replica, operations, table_of, IsRunning}
use Rattle.semantics.specs.Delivery.{deliver}
use Rattle.semantics.specs.Drain.{receive, receive_all}
use Rattle.semantics.specs.OneWorld.{AreWithin}
use Rattle.semantics.specs.Exchange.{lacking, CanReceive, HasReceived}
use Rattle.semantics.proofs.Orders.{ids_from_test}
use Rattle.semantics.proofs.AbsentIds.{has_id-among}
use Rattle.semantics.proofs.LegalFacts.{among_from, chain, deps_there, counter_pos}
use Rattle.semantics.proofs.VectorCounters.{covers-at, ready-from}
use Rattle.semantics.proofs.NamedOperations.{vector_cases, legal, means_first, ready_where_follows}
use Rattle.semantics.proofs.FollowsFaultless.{no_fault_where_follows}
use Rattle.semantics.proofs.ReadyThere.{may_follow_in, same_meaning}
use Rattle.semantics.proofs.CheckedFaults.{fitting_fault}
use Rattle.semantics.proofs.EntryHistories.{entries_legal}
use Rattle.semantics.proofs.JoinedReplicas.{fits_before, member_within, within_itself, within_known}
use Rattle.semantics.proofs.Delivered.{delivered}
use Rattle.semantics.proofs.Drained.{drained}
use Rattle.semantics.proofs.LawfulAlone.{length_operations, length_stamped, no_fault_alone}
use Rattle.semantics.proofs.OneDelivery.{appended, received_known, received_new}

record Along (r d : Replica) (K : List Operation) (F : List Stamped) : Type 0 where
  pub running : IsRunning d
  pub none_waits : d.waiting ≡ []
  pub own : d.own ≡ r.own
  pub members : d.members ≡ r.members
  pub none_dropped : d.dropped ≡ r.dropped
  pub union : (a : OpId) → has_id (operations d) a ≡ (has_id (operations r) a || has_id (operations_of F) a)
  pub within : AreWithin (operations d) K
  pub room : length d.entries ≤ length r.entries + length (lacking (operations r) F)
  -- the table has the replicas of all that d has, and is r's with those of F
  pub there : (x : Operation) → IsAmong x (operations d) → is_member (table_of d) x.id.replica ≡ true
  pub table : table_of d ≡ table_with (table_of r) F

or_none : (g : Bool) → g ≡ (g || false)
or_none true = refl
or_none false = refl

or_true : (g : Bool) → (g || true) ≡ true
or_true true = refl
or_true false = refl

union_kept : (h g e f : Bool) → h ≡ (g || f) → (e ≡ true → h ≡ true) → h ≡ (g || (e || f))
union_kept h g true f k w = w refl ∙ sym (or_true g)
union_kept h g false f k w = k

union_new : (h g e f : Bool) → h ≡ (g || f) → (e || h) ≡ (g || (e || f))
union_new h g true f k = sym (or_true g)
union_new h g false f k = k

longer : (b : Bool) (s : Stamped) (L : List Stamped) → length L ≤ length (cond b (s ∷ L) L)
longer true s L = omega arith
longer false s L = omega arith

longer_new : (b : Bool) (s : Stamped) (L : List Stamped) → b ≡ true → suc (length L) ≤ length (cond b (s ∷ L) L)
longer_new true s L e = omega arith
longer_new false s L e = absurd (true≢false (sym e))

along_skip : (r d : Replica) (K : List Operation) (s : Stamped) (F : List Stamped) → Along r d K F → has_id (operations d) s.id ≡ true
    → Along r d K (s ∷ F)
along_skip r d K s F h known = record {
  running = h.running;
  none_waits = h.none_waits;
  own = h.own;
  members = h.members;
  none_dropped = h.none_dropped;
  union = λ a. union_kept (has_id (operations d) a) (has_id (operations r) a) (is_same_id s.id a) (has_id (operations_of F) a) (h.union a)
      (λ e. ap (has_id (operations d)) (sym (ids_from_test s.id a e)) ∙ known);
  within = h.within;
  room = le_trans h.room (let k = longer (not (has_id (operations r) s.id)) s (lacking (operations r) F) in omega (arith, k));
  there = h.there;
  table = h.table
      ∙ sym (within_known s.id.replica (table_with (table_of r) F) (ap (λ t. is_member t s.id.replica) (sym h.table) ∙ known_there));
}
  where
    known_there : is_member (table_of d) s.id.replica ≡ true
    known_there =
        let x = among_from (operations d) s.id known in
        ap (λ (a : OpId). is_member (table_of d) a.replica) (sym x.2) ∙ h.there x.0 x.1

module _ (K : List Operation) (lk : IsLegal K) (r : Replica) (v : Vector) (named : (p : ℕ) → at v p ≤ greatest_counter (operations r) p)
    (lr : IsLegal (operations r)) (wr : AreWithin (operations r) K) where
  -- what the vector covers is there
  pub covered_there : (o : Operation) → IsAmong o K → covers v o.id ≡ true → has_id (operations r) o.id ≡ true
  covered_there o m c =
      let q : ℕ = o.id.replica in
      let le : o.id.counter ≤ at v q = covers-at v o.id c in
      let up : at v q ≤ greatest_counter (operations r) q = named q in
      let pos : 0 < o.id.counter = counter_pos K lk o m in
      elim (vector_cases (operations r) q) [
        | inl z ↦ absurd (omega arith)
        | inr x ↦ (let e : x.0.id.counter ≡ greatest_counter (operations r) q = x.3 in
            elim (chain K lk o x.0 m (wr x.0 x.1) (sym x.2) (omega arith)) [
              | inl f ↦ has_id-among (operations r) x.0 o.id x.1 (ap (λ (y : Operation). y.id) (sym f))
              | inr f ↦ deps_there (operations r) lr x.0 x.1 o.id f
            ])
      ]

  along_next : (d : Replica) (s : Stamped) (F : List Stamped) → IsLegalStamped (s ∷ F) → AreWithin (operations_of (s ∷ F)) K
      → (s.id.replica ≡ r.own → has_id (operations r) s.id ≡ true) → lacks_room (table_with (table_of r) F) s.id.replica ≡ false
      → length r.entries + length (lacking (operations r) (s ∷ F)) ≤ 1048576
      → Along r d K F → Along r (receive d s) K (s ∷ F)
  along_next d s F l w own known room h =
      elim (cases_Bool (has_id (operations d) s.id)) [
        | inl e ↦ subst (λ (x : Replica). Along r x K (s ∷ F)) (sym (received_known d s h.none_waits e)) (along_skip r d K s F h e)
        | inr e ↦ new e
      ]
    where
      new : has_id (operations d) s.id ≡ false → Along r (receive d s) K (s ∷ F)
      new e =
          let o : Operation = operation_after (operations_of F) s in
          let m : Means (operations_of (s ∷ F)) s o = means_first F s l in
          let ld : IsLegal (operations d) = legal (stamped_entries d.entries) (entries_legal d.own d.entries h.running.history) in
          let before : (a : OpId) → o.deps a ≡ true → has_id (operations d) a ≡ true =
          λ a t. h.union a
          ∙ or_right (has_id (operations r) a) (has_id (operations_of F) a)
          (and_parts (has_id (operations_of F) a) (covers s.vector a) t).0 in
          let may : MayFollow (operations d) s = may_follow_in K lk (operations d) (operations_of (s ∷ F)) ld h.within w s o m e before in
          let none_here : has_id (operations r) s.id
          ≡ false = (or_parts (has_id (operations r) s.id) (has_id (operations_of F) s.id) (sym (h.union s.id) ∙ e)).0 in
          let grown : suc (length (lacking (operations r) F)) ≤ length (lacking (operations r) (s ∷ F)) =
          longer_new (not (has_id (operations r) s.id)) s (lacking (operations r) F)
          (not_from_false (has_id (operations r) s.id) none_here) in
          let small : length d.entries ≤ length r.entries + length (lacking (operations r) F) = h.room in
          let few : length d.entries < 1048576 = omega (arith, room, grown, small) in
          let there : length (operations d) ≡ length d.entries = length_operations (stamped_entries d.entries) ∙ length_stamped d.entries in
          let alone : alone_fault s ≡ None = no_fault_alone (operations d) s ld (omega (arith, there, few)) may in
          let fits : lacks_room (table_of d) s.id.replica ≡ false = ap (λ t. lacks_room t s.id.replica) h.table ∙ known in
          let other : (s.id.replica == d.own) ≡ false =
          false_from_ne_true (s.id.replica == d.own) (λ t. true≢false (sym (own (eqb-true s.id.replica d.own t ∙ h.own)) ∙ none_here)) in
          let ready : is_ready (operations d) s ≡ true = ready-from (operations d) s (ready_where_follows may) in
          let none : check_fault d.members (stamped_entries d.entries) s ≡ None =
          fitting_fault d.members (stamped_entries d.entries) s fits
          ∙ no_fault_where_follows (stamped_entries d.entries) s (entries_legal d.own d.entries h.running.history) may in
          let end : receive d s ≡ appended d s =
          received_new d s h.none_waits alone e other (le-ltb 1048575 (length d.entries) (omega (arith, few))) ready none in
          let running : IsRunning (receive d s) = (drained (deliver d s) (delivered d s h.running)).0 in
          subst (λ (x : Replica). Along r x K (s ∷ F)) (sym end)
          (record {
            running = subst IsRunning end running;
            none_waits = refl;
            own = h.own;
            members = h.members;
            none_dropped = h.none_dropped;
            union = λ a. union_new (has_id (operations d) a) (has_id (operations r) a) (is_same_id s.id a) (has_id (operations_of F) a)
                (h.union a);
            within = within_next o (same_meaning K lk (operations d) (operations_of (s ∷ F)) ld h.within w s o m before) (w o (inl refl));
            room = omega (arith, small, grown);
            there = there_next fits;
            table = ap (joined_within s.id.replica) h.table;
          })
        where
          there_next : lacks_room (table_of d) s.id.replica ≡ false → (x : Operation) → IsAmong x (operations (appended d s))
              → is_member (table_of (appended d s)) x.id.replica ≡ true
          there_next fits x (inl f) = ap (λ (y : Operation). is_member (table_of (appended d s)) y.id.replica) f
              ∙ within_itself s.id.replica (table_of d) fits
          there_next fits x (inr n) = member_within s.id.replica (table_of d) x.id.replica (h.there x n)

          within_next : (o : Operation) → operation_after (operations d) s ≡ o → IsAmong o K → AreWithin (operations (appended d s)) K
          within_next o same m x (inl f) = subst (λ (y : Operation). IsAmong y K) (sym (f ∙ same)) m
          within_next o same m x (inr n) = h.within x n

  along : (F : List Stamped) → IsRunning r → r.waiting ≡ [] → IsLegalStamped F → AreWithin (operations_of F) K
      → ((s : Stamped) → IsAmong s F → s.id.replica ≡ r.own → has_id (operations r) s.id ≡ true)
      → ((x : Operation) → IsAmong x (operations r) → is_member (table_of r) x.id.replica ≡ true)
      → ((s : Stamped) → IsAmong s F → lacks_room (table_with (table_of r) F) s.id.replica ≡ false)
      → length r.entries + length (lacking (operations r) F) ≤ 1048576 → Along r (receive_all r (missing v F)) K F
  along [] run none l w own there known room = record {
    running = run;
    none_waits = none;
    own = refl;
    members = refl;
    none_dropped = refl;
    union = λ a. or_none (has_id (operations r) a);
    within = wr;
    room = omega arith;
    there = there;
    table = refl;
  }
  along (s ∷ F) run none l w own there known room =
      at_test (along F run none l.0 (λ x n. w x (inr n)) (λ x n. own x (inr n)) there
      (λ x n. fits_before s.id.replica (table_with (table_of r) F) x.id.replica (known x (inr n)))
      (let k = longer (not (has_id (operations r) s.id)) s (lacking (operations r) F) in omega (arith, k, room))) (covers v s.id) refl
    where
      at_test : Along r (receive_all r (missing v F)) K F → (b : Bool) → covers v s.id ≡ b
          → Along r (receive_all r (cond (not b) (s ∷ missing v F) (missing v F))) K (s ∷ F)
      at_test h true e = along_skip r (receive_all r (missing v F)) K s F h
          (h.union s.id
          ∙ or_left (has_id (operations r) s.id) (has_id (operations_of F) s.id)
          (covered_there (operation_after (operations_of F) s) (w (operation_after (operations_of F) s) (inl refl)) e))
      at_test h false e = along_next (receive_all r (missing v F)) s F l w (own s (inl refl))
          (fits_before s.id.replica (table_with (table_of r) F) s.id.replica (known s (inl refl))) room h

pub exchanged : (r : Replica) (F : List Stamped) (v : Vector) → CanReceive r F v → HasReceived r (receive_all r (missing v F)) F
exchanged r F v c =
    let h = along c.world.all c.world.legal r v c.vector
    (legal (stamped_entries r.entries) (entries_legal r.own r.entries c.running.history)) c.world.first
    F c.running c.none_waits c.legal c.world.second c.own c.there c.fits c.room in
    record {
      running = h.running;
      none_waits = h.none_waits;
      none_dropped = h.none_dropped;
      union = h.union;
      world = record { all = c.world.all; legal = c.world.legal; first = h.within; second = c.world.second };
    }
