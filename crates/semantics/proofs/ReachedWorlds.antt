-- Every world that is reached is one world.
use Rattle.std.proofs.Common.{◌≡◌, ◌≢◌, ◌⊎◌, inl, inr, ℕ, Bool, true, false, cond, ◌==◌, List, [], ◌∷◌, Ok, refl, sym, ap, ◌∙◌, subst}
use Rattle.std.proofs.Common.{length, nat_le, true≢false}
use Rattle.std.proofs.lemmas.Bool.{or_right, or_left, eqb-true, eqb-false, false_from_ne_true}
use Rattle.semantics.specs.Ids.{OpId, is_same_id}
use Rattle.semantics.specs.Operations.{Operation}
use Rattle.semantics.specs.LegalHistory.{IsLegal, IsAmong, has_id}
use Rattle.semantics.specs.NamedIds.{NamesAll}
use Rattle.semantics.specs.Stamped.{Stamped, operations_of, operation_after}
use Rattle.semantics.specs.Making.{Command, make}
use Rattle.semantics.specs.Entries.{IsAbove, Entry, stamped_entries}
use Rattle.semantics.specs.Replica.{Replica, operations, commit_own, table_of, has_full_table, IsRunning}
use Rattle.semantics.specs.Delivery.{kept_by, Delivered, Kept, Known, NotKept, answer_to, deliver}
use Rattle.semantics.specs.Drain.{receive, with_peers}
use Rattle.semantics.specs.OneWorld.{AreWithin, IsOfWorld, IsReplicaOf}
use Rattle.semantics.specs.Runs.{Replicas, put_replica, IsReached, Opened, Makes, Comes}
use Rattle.semantics.proofs.Orders.{id_itself}
use Rattle.semantics.proofs.NamedOperations.{legal}
use Rattle.semantics.proofs.MadeLawful.{made_lawful}
use Rattle.semantics.proofs.EntryHistories.{entries_legal}
use Rattle.semantics.proofs.Delivered.{delivered, own_committed}
use Rattle.semantics.proofs.Drained.{drained}
use Rattle.semantics.proofs.Waiting.{in_put}
use Rattle.semantics.proofs.NoneDropped.{keeps_for}
use Rattle.semantics.proofs.Settled.{made_grows_world}
use Rattle.semantics.proofs.JoinedReplicas.{full_within}

at_each : (P : ℕ → Replica → Type 0) (W : Replicas) (p : ℕ) (r : Replica) → ((q : ℕ) → q ≢ p → P q (W q)) → P p r → (q : ℕ)
    → P q (put_replica p r W q)
at_each P W p r rest here q = at_test (q == p) refl
  where
    at_test : (b : Bool) → (q == p) ≡ b → P q (cond b r (W q))
    at_test true e = subst (λ (n : ℕ). P n r) (sym (eqb-true q p e)) here
    at_test false e = rest q (eqb-false q p e)

pub grown : (K : List Operation) (o : Operation) (s : Stamped) → IsOfWorld K s → IsOfWorld (o ∷ K) s
grown K o s w = record { history = w.history; legal = w.legal; within = λ x m. inr (w.within x m); there = w.there }

-- a delivery changes what waits alone, by the operation at most
pub kept_same : (r : Replica) (s : Stamped) (a : Delivered)
    → ((kept_by r s a).own ≡ r.own) × ((kept_by r s a).dropped ≡ r.dropped) × ((kept_by r s a).entries ≡ r.entries)
    × ((x : Stamped) → IsAmong x (kept_by r s a).waiting → (x ≡ s) ⊎ IsAmong x r.waiting)
kept_same r s Kept = (refl, refl, refl, λ x m. in_put s r.waiting x m)
kept_same r s Known = (refl, refl, refl, λ x m. inr m)
kept_same r s (NotKept f) = (refl, refl, refl, λ x m. inr m)

-- and the table stays
table_kept : (r : Replica) (s : Stamped) (a : Delivered) → table_of (kept_by r s a) ≡ table_of r
table_kept r s Kept = refl
table_kept r s Known = refl
table_kept r s (NotKept f) = refl

-- what isn't full wasn't full before
pub free_before : (a b : Bool) → (a ≡ true → b ≡ true) → b ≡ false → a ≡ false
free_before a b h f = false_from_ne_true a (λ t. true≢false (sym (h t) ∙ f))

pub has_more : (M : List Stamped) (G : List Entry) (a : OpId) → has_id (operations_of (stamped_entries G)) a ≡ true
    → has_id (operations_of (stamped_entries (with_peers M G))) a ≡ true
has_more [] G a h = h
has_more (s ∷ M) G a h = or_right (is_same_id s.id a) _ (has_more M G a h)

pub received : (K : List Operation) → IsLegal K → (p : ℕ) (r : Replica) (s : Stamped) → IsReplicaOf K p r → IsOfWorld K s
    → IsReplicaOf K p (receive r s)
received K lk p r s h of =
    let same = kept_same r s (answer_to r s) in
    let d : Replica = deliver r s in
    let run : IsRunning d = delivered r s h.running in
    let end = drained d run in
    let within : AreWithin (operations d) K = subst (λ (G : List Entry). AreWithin (operations_of (stamped_entries G)) K)
    (sym same.2) h.within in
    let waits : (x : Stamped) → IsAmong x d.waiting
    → IsOfWorld K x = λ x m. elim (same.3 x m) [ inl e ↦ subst (IsOfWorld K) (sym e) of | inr n ↦ h.waits x n ] in
    let keeps = keeps_for K lk (length d.waiting) d run within waits in
    record {
      own = end.1.own ∙ same.0 ∙ h.own;
      running = end.0;
      within = keeps.within;
      made = λ x m e. subst (λ (G : List Entry). has_id (operations_of (stamped_entries G)) x.id ≡ true) (sym end.1.entries)
          (has_more end.1.appended d.entries x.id
          (subst (λ (G : List Entry). has_id (operations_of (stamped_entries G)) x.id ≡ true) (sym same.2) (h.made x m e)));
      waits = λ x m. waits x (end.1.waits x m);
      none_dropped = λ f.
          keeps.none_dropped f ∙ same.1
          ∙ h.none_dropped
          (sym (ap (λ t. nat_le 256 (length t)) (table_kept r s (answer_to r s)))
          ∙ free_before (has_full_table d) (has_full_table (receive r s)) keeps.full f);
    }

pub committed : (K : List Operation) → IsLegal K → (p client serial : ℕ) (c : Command) (r : Replica) (s : Stamped) → IsReplicaOf K p r
    → NamesAll (operations r) s.vector → make (operations r) p c ≡ Ok (operation_after (operations r) s) → IsAbove client serial r.entries
    → IsReplicaOf (operation_after (operations r) s ∷ K) p (commit_own r client serial c s)
committed K lk p client serial c r s h n e above = record {
  own = h.own;
  running = own_committed r client serial c s h.running n (ap (λ q. make (operations r) q c) h.own ∙ e) above;
  within = next;
  made = made;
  waits = λ x m. grown K (operation_after (operations r) s) x (h.waits x m);
  none_dropped = λ f. h.none_dropped
      (free_before (has_full_table r) (has_full_table (commit_own r client serial c s))
      (λ t. ap (λ ps. nat_le 256 (length ps)) (full_within s.id.replica (table_of r) t) ∙ t) f);
}
  where
    next : AreWithin (operation_after (operations r) s ∷ operations r) (operation_after (operations r) s ∷ K)
    next x (inl f) = inl f
    next x (inr m) = inr (h.within x m)

    made : (x : Operation) → IsAmong x (operation_after (operations r) s ∷ K) → x.id.replica ≡ p
        → has_id (operation_after (operations r) s ∷ operations r) x.id ≡ true
    made x (inl f) g = or_left (is_same_id s.id x.id) (has_id (operations r) x.id)
        (ap (λ (y : Operation). is_same_id s.id y.id) f ∙ id_itself s.id)
    made x (inr m) g = or_right (is_same_id s.id x.id) (has_id (operations r) x.id) (h.made x m g)

untouched : (K : List Operation) (o : Operation) (q : ℕ) (r : Replica) → o.id.replica ≢ q → IsReplicaOf K q r → IsReplicaOf (o ∷ K) q r
untouched K o q r other h = record {
  own = h.own;
  running = h.running;
  within = λ x m. inr (h.within x m);
  made = made;
  waits = λ x m. grown K o x (h.waits x m);
  none_dropped = h.none_dropped;
}
  where
    made : (x : Operation) → IsAmong x (o ∷ K) → x.id.replica ≡ q → has_id (operations r) x.id ≡ true
    made x (inl f) g = absurd (other (ap (λ (y : Operation). y.id.replica) (sym f) ∙ g))
    made x (inr m) g = h.made x m g

-- Whatever the replicas of a world did, one legal history holds what each of them has. A make puts its operation in front of that history,
-- where it may follow, since its maker has all of its own; the history of each other replica only begins further back. What comes is in the
-- history already, since some replica has it.
pub one_world : (members : ℕ → List ℕ) (W : Replicas) → IsReached members W
    → (K : List Operation) × IsLegal K × ((p : ℕ) → IsReplicaOf K p (W p))
one_world members W Opened = (
  [],
  tt,
  λ p. record {
    own = refl;
    running = record { history = tt; alone = λ s m. absurd m; foreign = λ s m. absurd m; unapplied = λ s m. absurd m; rising = tt };
    within = λ x m. m;
    made = λ x m e. absurd m;
    waits = λ s m. absurd m;
    none_dropped = λ f. refl;
  },
)
one_world members W (Makes V reached p client serial c s n e above) =
    let before = one_world members V reached in
    let K : List Operation = before.0 in
    let here = before.2 p in
    let lg : IsLegal (operations (V p)) = legal (stamped_entries (V p).entries)
    (entries_legal (V p).own (V p).entries here.running.history) in
    let o : Operation = operation_after (operations (V p)) s in
    let f = made_lawful (operations (V p)) lg p c o e in (
      o ∷ K,
      (before.1, made_grows_world K (operations (V p)) p c o before.1 lg here.within e here.made),
      at_each (IsReplicaOf (o ∷ K)) V p (commit_own (V p) client serial c s)
          (λ q ne. untouched K o q (V q) (λ g. ne (sym g ∙ f.1)) (before.2 q))
          (committed K before.1 p client serial c (V p) s here n e above),
    )
one_world members W (Comes V reached p q s m) =
    let before = one_world members V reached in
    let K : List Operation = before.0 in
    let there = before.2 q in
    let of : IsOfWorld K s = record {
      history = stamped_entries (V q).entries;
      legal = entries_legal (V q).own (V q).entries there.running.history;
      within = there.within;
      there = m;
    } in (
      K,
      before.1,
      at_each (IsReplicaOf K) V p (receive (V p) s) (λ t ne. before.2 t) (received K before.1 p (V p) s (before.2 p) of),
    )
