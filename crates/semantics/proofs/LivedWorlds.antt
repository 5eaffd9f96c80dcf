-- Replicas that resume from their journals are of one world.
use Rattle.std.proofs.Common.{◌≡◌, ◌≢◌, inl, inr, ℕ, ◌≤◌, Bool, true, false, cond, ◌==◌, List, [], ◌∷◌, ◌++◌, Ok, refl, sym, ap, ◌∙◌, subst}
use Rattle.std.proofs.Common.{length, arith, map}
use Rattle.std.proofs.lemmas.Bool.{or_right, or_left, eqb-true, eqb-false}
use Rattle.semantics.specs.Ids.{is_same_id}
use Rattle.semantics.specs.Operations.{Operation}
use Rattle.semantics.specs.LegalHistory.{IsLegal, IsAmong, has_id}
use Rattle.semantics.specs.NamedIds.{NamesAll}
use Rattle.semantics.specs.Stamped.{Stamped, operation_after}
use Rattle.semantics.specs.Making.{Command, make}
use Rattle.semantics.specs.Entries.{Entry, Own, Peer, IsAbove, IsEntryHistory, applied, first_entries, stamped_entries}
use Rattle.semantics.specs.Replica.{Replica, operations, commit_own, IsRunning}
use Rattle.semantics.specs.Delivery.{answer_to, deliver}
use Rattle.semantics.specs.Drain.{receive, with_peers}
use Rattle.semantics.specs.OneWorld.{AreOfOneWorld, AreWithin, IsOfWorld}
use Rattle.semantics.specs.Journals.{recorded}
use Rattle.semantics.specs.Lives.{BringsBack, Comes, GoesOn, IsLived, Lives, Makes, Opened, Stores, gone_on}
use Rattle.semantics.proofs.Beginnings.{begins_first, first_begins_first, first_history, first_of_longer, length-first, no_shorter}
use Rattle.semantics.proofs.Delivered.{delivered, own_committed}
use Rattle.semantics.proofs.Drained.{drained}
use Rattle.semantics.proofs.EntryHistories.{entries_legal}
use Rattle.semantics.proofs.MadeLawful.{made_lawful}
use Rattle.semantics.proofs.NamedOperations.{legal}
use Rattle.semantics.proofs.NoneDropped.{keeps_for}
use Rattle.semantics.proofs.Orders.{id_itself}
use Rattle.semantics.proofs.ReachedWorlds.{kept_same}
use Rattle.semantics.proofs.RecordedHistories.{first_records, same_length, same_operations}
use Rattle.semantics.proofs.Replies.{first_stay}
use Rattle.semantics.proofs.Settled.{made_grows_world}

-- ---- the world of what is stored, and what a replica made beyond it

-- What holds of replica p, of which n entries are stored. The world is of what is stored alone: p stored all of its own that stands there,
-- and what it has of others stands there, since they had stored it.
pub record IsLivingIn (K : List Operation) (p n : ℕ) (r : Replica) : Type 0 where
  pub own : r.own ≡ p
  pub running : IsRunning r
  pub few : n ≤ length r.entries
  pub within : AreWithin (applied (first_entries n r.entries)) K
  pub made : (x : Operation) → IsAmong x K → x.id.replica ≡ p → has_id (applied (first_entries n r.entries)) x.id ≡ true
  pub others : (x : Operation) → IsAmong x (applied r.entries) → x.id.replica ≢ p → IsAmong x K
  pub waits : (s : Stamped) → IsAmong s r.waiting → IsOfWorld K s

-- J is the world K with what p made in its history G
pub record Widens (K : List Operation) (p : ℕ) (G : List Entry) (J : List Operation) : Type 0 where
  pub legal : IsLegal J
  pub wider : AreWithin K J
  pub within : AreWithin (applied G) J
  pub made : (x : Operation) → IsAmong x J → x.id.replica ≡ p → has_id (applied G) x.id ≡ true
  pub rest : (x : Operation) → IsAmong x J → x.id.replica ≢ p → IsAmong x K

begun_within : (more F : List Entry) → AreWithin (applied F) (applied (more ++ F))
begun_within [] F x m = m
begun_within (e ∷ more) F x m = inr (begun_within more F x m)

in_wider : (K J : List Operation) → AreWithin K J → (s : Stamped) → IsOfWorld K s → IsOfWorld J s
in_wider K J w s of = record { history = of.history; legal = of.legal; within = λ x m. w x (of.within x m); there = of.there }

-- what p made after a beginning that is all of its own in K goes on the world, one after the other
widened : (K : List Operation) → IsLegal K → (p : ℕ) (more F : List Entry) → IsEntryHistory p (more ++ F) → AreWithin (applied F) K
    → ((x : Operation) → IsAmong x K → x.id.replica ≡ p → has_id (applied F) x.id ≡ true)
    → ((x : Operation) → IsAmong x (applied (more ++ F)) → x.id.replica ≢ p → IsAmong x K)
    → (J : List Operation) × Widens K p (more ++ F) J
widened K l p [] F h w made others = (
  K,
  record { legal = l; wider = λ x m. m; within = w; made = made; rest = λ x m ne. m },
)
widened K l p (Own client serial c s ∷ more) F h w made others =
    let r = widened K l p more F h.0 w made (λ x m ne. others x (inr m) ne) in
    let H : List Operation = applied (more ++ F) in
    let o : Operation = operation_after H s in
    let lawful = legal (stamped_entries (more ++ F)) (entries_legal p (more ++ F) h.0) in
    let f = made_lawful H lawful p c o h.2 in (
      o ∷ r.0,
      record {
        legal = (r.1.legal, made_grows_world r.0 H p c o r.1.legal lawful r.1.within h.2 r.1.made);
        wider = λ x m. inr (r.1.wider x m);
        within = λ x m. elim m [ inl e ↦ inl e | inr n ↦ inr (r.1.within x n) ];
        made = λ x m e. elim m [
          | inl g ↦ or_left (is_same_id s.id x.id) (has_id H x.id) (ap (λ (y : Operation). is_same_id s.id y.id) g ∙ id_itself s.id)
          | inr n ↦ or_right (is_same_id s.id x.id) (has_id H x.id) (r.1.made x n e)
        ];
        rest = λ x m ne. elim m [
          | inl g ↦ absurd (ne (ap (λ (y : Operation). y.id.replica) g ∙ f.1))
          | inr n ↦ r.1.rest x n ne
        ];
      },
    )
widened K l p (Peer s ∷ more) F h w made others =
    let r = widened K l p more F h.0 w made (λ x m ne. others x (inr m) ne) in
    let H : List Operation = applied (more ++ F) in (
      r.0,
      record {
        legal = r.1.legal;
        wider = r.1.wider;
        within = λ x m. elim m [
          | inl e ↦ r.1.wider x (subst (λ (y : Operation). IsAmong y K) (sym e) (others (operation_after H s) (inl refl) h.2))
          | inr n ↦ r.1.within x n
        ];
        made = λ x m e. or_right (is_same_id s.id x.id) (has_id H x.id) (r.1.made x m e);
        rest = r.1.rest;
      },
    )

-- a replica's own history
own_history : (K : List Operation) (p n : ℕ) (r : Replica) → IsLivingIn K p n r → IsEntryHistory p r.entries
own_history K p n r h = subst (λ q. IsEntryHistory q r.entries) h.own h.running.history

-- the world with all that a replica made
with_all : (K : List Operation) → IsLegal K → (p n : ℕ) (r : Replica) → IsLivingIn K p n r → (J : List Operation) × Widens K p r.entries J
with_all K l p n r h =
    let b = begins_first n r.entries in
    subst (λ (G : List Entry). (J : List Operation) × Widens K p G J) (sym b.1)
    (widened K l p b.0 (first_entries n r.entries) (subst (IsEntryHistory p) b.1 (own_history K p n r h)) h.within h.made
    (λ x m ne. h.others x (subst (λ (G : List Entry). IsAmong x (applied G)) (sym b.1) m) ne))

-- another replica lives in the wider world as before
untouched : (K J : List Operation) (p q n : ℕ) (G : List Entry) (r : Replica) → q ≢ p → Widens K p G J → IsLivingIn K q n r
    → IsLivingIn J q n r
untouched K J p q n G r ne w h = record {
  own = h.own;
  running = h.running;
  few = h.few;
  within = λ x m. w.wider x (h.within x m);
  made = λ x m e. h.made x (w.rest x m (λ g. ne (sym e ∙ g))) e;
  others = λ x m other. w.wider x (h.others x m other);
  waits = λ s m. in_wider K J w.wider s (h.waits s m);
}

-- ---- the moves of a life

committed : (K : List Operation) (p n client serial : ℕ) (c : Command) (r : Replica) (s : Stamped) → IsLivingIn K p n r
    → NamesAll (operations r) s.vector → make (operations r) p c ≡ Ok (operation_after (operations r) s) → IsAbove client serial r.entries
    → IsLivingIn K p n (commit_own r client serial c s)
committed K p n client serial c r s h names e above =
    let stays = first_stay n r.entries (Own client serial c s) h.few in
    let lawful = legal (stamped_entries r.entries) (entries_legal p r.entries (own_history K p n r h)) in
    let f = made_lawful (operations r) lawful p c (operation_after (operations r) s) e in
    record {
      own = h.own;
      running = own_committed r client serial c s h.running names (ap (λ q. make (operations r) q c) h.own ∙ e) above;
      few = (let l : n ≤ length r.entries = h.few in omega arith);
      within = subst (λ (G : List Entry). AreWithin (applied G) K) (sym stays) h.within;
      made = λ x m g. subst (λ (G : List Entry). has_id (applied G) x.id ≡ true) (sym stays) (h.made x m g);
      others = λ x m ne. elim m [ inl g ↦ absurd (ne (ap (λ (y : Operation). y.id.replica) g ∙ f.1)) | inr k ↦ h.others x k ne ];
      waits = h.waits;
    }

stored_more : (K : List Operation) → IsLegal K → (p m n : ℕ) (r : Replica) → m ≤ n → n ≤ length r.entries → IsLivingIn K p m r
    → (J : List Operation) × Widens K p (first_entries n r.entries) J × IsLivingIn J p n r
stored_more K l p m n r le few h =
    let b = first_begins_first m n r.entries le in
    let all = begins_first n r.entries in
    let in_all : AreWithin (applied (first_entries n r.entries)) (applied r.entries) =
    subst (λ (G : List Entry). AreWithin (applied (first_entries n r.entries)) (applied G)) (sym all.1)
    (begun_within all.0 (first_entries n r.entries)) in
    let next : (J : List Operation) × Widens K p (first_entries n r.entries) J =
    subst (λ (G : List Entry). (J : List Operation) × Widens K p G J) (sym b.1)
    (widened K l p b.0 (first_entries m r.entries)
    (subst (IsEntryHistory p) b.1 (first_history p n r.entries (own_history K p m r h))) h.within h.made
    (λ x k ne. h.others x (in_all x (subst (λ (G : List Entry). IsAmong x (applied G)) (sym b.1) k)) ne)) in (
      next.0,
      next.1,
      record {
        own = h.own;
        running = h.running;
        few = few;
        within = next.1.within;
        made = next.1.made;
        others = λ x k ne. next.1.wider x (h.others x k ne);
        waits = λ s k. in_wider K next.0 next.1.wider s (h.waits s k);
      },
    )

-- what peers append leaves the first entries
first_of_peers : (m : ℕ) (M : List Stamped) (G : List Entry) → m ≤ length G
    → (m ≤ length (with_peers M G)) × (first_entries m (with_peers M G) ≡ first_entries m G)
first_of_peers m [] G h = (h, refl)
first_of_peers m (s ∷ M) G h =
    let r = first_of_peers m M G h in
    let l : m ≤ length (with_peers M G) = r.0 in
    (omega arith, first_stay m (with_peers M G) (Peer s) r.0 ∙ r.1)

received : (K : List Operation) → IsLegal K → (p n : ℕ) (r : Replica) (s : Stamped) → IsLivingIn K p n r → IsOfWorld K s
    → IsLivingIn K p n (receive r s)
received K l p n r s h of =
    let all = with_all K l p n r h in
    let J : List Operation = all.0 in
    let w : Widens K p r.entries J = all.1 in
    let same = kept_same r s (answer_to r s) in
    let d : Replica = deliver r s in
    let run : IsRunning d = delivered r s h.running in
    let end = drained d run in
    let waits : (x : Stamped) → IsAmong x d.waiting → IsOfWorld K x =
    λ x m. elim (same.3 x m) [ inl e ↦ subst (IsOfWorld K) (sym e) of | inr k ↦ h.waits x k ] in
    let keeps = keeps_for J w.legal (length d.waiting) d run
    (subst (λ (G : List Entry). AreWithin (applied G) J) (sym same.2) w.within)
    (λ x m. in_wider K J w.wider x (waits x m)) in
    let first = first_of_peers n end.1.appended d.entries (subst (λ (G : List Entry). n ≤ length G) (sym same.2) h.few) in
    let stays : first_entries n (receive r s).entries ≡ first_entries n r.entries =
    ap (first_entries n) end.1.entries ∙ first.1 ∙ ap (first_entries n) same.2 in
    record {
      own = end.1.own ∙ same.0 ∙ h.own;
      running = end.0;
      few = subst (λ (G : List Entry). n ≤ length G) (sym end.1.entries) first.0;
      within = subst (λ (G : List Entry). AreWithin (applied G) K) (sym stays) h.within;
      made = λ x m e. subst (λ (G : List Entry). has_id (applied G) x.id ≡ true) (sym stays) (h.made x m e);
      others = λ x m ne. w.rest x (keeps.within x m) ne;
      waits = λ x m. waits x (end.1.waits x m);
    }

went_on : (K : List Operation) (p m n : ℕ) (r : Replica) (E : List Entry) → m ≤ n → n ≤ length r.entries → BringsBack p n r.entries E
    → IsLivingIn K p m r → IsLivingIn K p m (gone_on r E)
went_on K p m n r E le few b h =
    let F : List Entry = first_entries n r.entries in
    let G = own_history K p m r h in
    let long : length F ≡ n = length-first n r.entries few in
    let all = begins_first n r.entries in
    let same : applied E ≡ applied F = same_operations p E F b.history (first_history p n r.entries G) b.records in
    let shorter : first_entries m r.entries ≡ first_entries m F =
    ap (first_entries m) all.1 ∙ first_of_longer m all.0 F (omega (arith, long, le)) in
    let first : applied (first_entries m E) ≡ applied (first_entries m r.entries) =
    same_operations p (first_entries m E) (first_entries m F) (first_history p m E b.history)
    (first_history p m F (first_history p n r.entries G)) (first_records m E F b.records)
    ∙ ap applied (sym shorter) in
    record {
      own = h.own;
      running = record {
        history = subst (λ q. IsEntryHistory q E) (sym h.own) b.history;
        alone = λ s k. absurd k;
        foreign = λ s k. absurd k;
        unapplied = λ s k. absurd k;
        rising = tt;
      };
      few = omega (arith, long, le, same_length E F b.records);
      within = subst (λ (H : List Operation). AreWithin H K) (sym first) h.within;
      made = λ x k e. subst (λ (H : List Operation). has_id H x.id ≡ true) (sym first) (h.made x k e);
      others = λ x k ne. h.others x
          (subst (λ (A : List Entry). IsAmong x (applied A)) (sym all.1)
          (begun_within all.0 F x (subst (IsAmong x) same k))) ne;
      waits = λ s k. absurd k;
    }

-- ---- all lives

at_number : {X : Type 0} (P : ℕ → X → Type 0) (W : ℕ → X) (p : ℕ) (x : X) → ((q : ℕ) → q ≢ p → P q (W q)) → P p x → (q : ℕ)
    → P q (cond (q == p) x (W q))
at_number P W p x rest here q = at_test (q == p) refl
  where
    at_test : (b : Bool) → (q == p) ≡ b → P q (cond b x (W q))
    at_test true e = subst (λ (n : ℕ). P n x) (sym (eqb-true q p e)) here
    at_test false e = rest q (eqb-false q p e)

pub lived : (members : ℕ → List ℕ) (L : Lives) → IsLived members L
    → (K : List Operation) × IsLegal K × ((p : ℕ) → IsLivingIn K p (L.stored p) (L.now p))
lived members L Opened = (
  [],
  tt,
  λ p. record {
    own = refl;
    running = record { history = tt; alone = λ s m. absurd m; foreign = λ s m. absurd m; unapplied = λ s m. absurd m; rising = tt };
    few = omega arith;
    within = λ x m. m;
    made = λ x m e. absurd m;
    others = λ x m ne. m;
    waits = λ s m. absurd m;
  },
)
lived members L (Makes V reached p client serial c s n e above) =
    let before = lived members V reached in
    let K : List Operation = before.0 in (
      K,
      before.1,
      at_number (λ q r. IsLivingIn K q (V.stored q) r) V.now p (commit_own (V.now p) client serial c s) (λ q ne. before.2 q)
          (committed K p (V.stored p) client serial c (V.now p) s (before.2 p) n e above),
    )
lived members L (Stores V reached p n le few) =
    let before = lived members V reached in
    let K : List Operation = before.0 in
    let next = stored_more K before.1 p (V.stored p) n (V.now p) le few (before.2 p) in (
      next.0,
      next.1.legal,
      at_number (λ q m. IsLivingIn next.0 q m (V.now q)) V.stored p n
          (λ q ne. untouched K next.0 p q (V.stored q) (first_entries n (V.now p).entries) (V.now q) ne next.1 (before.2 q))
          next.2,
    )
lived members L (Comes V reached p q s m) =
    let before = lived members V reached in
    let K : List Operation = before.0 in
    let there = before.2 q in
    let first : List Entry = first_entries (V.stored q) (V.now q).entries in
    let of : IsOfWorld K s = record {
      history = stamped_entries first;
      legal = entries_legal q first
          (first_history q (V.stored q) (V.now q).entries (own_history K q (V.stored q) (V.now q) there));
      within = there.within;
      there = m;
    } in (
      K,
      before.1,
      at_number (λ t r. IsLivingIn K t (V.stored t) r) V.now p (receive (V.now p) s) (λ t ne. before.2 t)
          (received K before.1 p (V.stored p) (V.now p) s (before.2 p) of),
    )
lived members L (GoesOn V reached p n E le few b) =
    let before = lived members V reached in
    let K : List Operation = before.0 in (
      K,
      before.1,
      at_number (λ q r. IsLivingIn K q (V.stored q) r) V.now p (gone_on (V.now p) E) (λ q ne. before.2 q)
          (went_on K p (V.stored p) n (V.now p) E le few b (before.2 p)),
    )

pub one_world : (members : ℕ → List ℕ) (L : Lives) → IsLived members L → (p q : ℕ)
    → AreOfOneWorld (operations (L.now p)) (operations (L.now q))
one_world members L h p q = by (q == p) refl
  where
    by : (b : Bool) → (q == p) ≡ b → AreOfOneWorld (operations (L.now p)) (operations (L.now q))
    by true e =
        let all = lived members L h in
        let w = with_all all.0 all.1 p (L.stored p) (L.now p) (all.2 p) in
        record {
          all = w.0;
          legal = w.1.legal;
          first = w.1.within;
          second = subst (λ n. AreWithin (operations (L.now n)) w.0) (sym (eqb-true q p e)) w.1.within;
        }
    by false e =
        let all = lived members L h in
        let w = with_all all.0 all.1 p (L.stored p) (L.now p) (all.2 p) in
        let u = with_all w.0 w.1.legal q (L.stored q) (L.now q)
        (untouched all.0 w.0 p q (L.stored q) (L.now p).entries (L.now q) (eqb-false q p e) w.1 (all.2 q)) in
        record { all = u.0; legal = u.1.legal; first = λ x m. u.1.wider x (w.1.within x m); second = u.1.within }
