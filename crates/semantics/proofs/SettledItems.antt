-- A settled replica stays settled in its world by each item that it handles, and the world grows by what it makes.
use Rattle.std.proofs.Common.{◌≡◌, inl, inr, ℕ, true, false, nat_lt, List, [], ◌∷◌, length, Result, Ok, Err, refl, sym, ap, ◌∙◌, true≢false}
use Rattle.std.proofs.Common.{arith, cond}
use Rattle.std.proofs.lemmas.Bool.{or_cases, false_from_ne_true}
use Rattle.ids.specs.declared.refusal.Refusal.{Refusal}
use Rattle.semantics.specs.Ids.{OpId, is_same_id}
use Rattle.semantics.specs.Operations.{Operation}
use Rattle.semantics.specs.LegalHistory.{IsLegal, Follows, has_id}
use Rattle.semantics.specs.NamedIds.{NamesAll}
use Rattle.semantics.specs.Stamped.{Stamped, operations_of, operation_after, Means}
use Rattle.semantics.specs.Faults.{is_ready}
use Rattle.semantics.specs.Making.{Command, make}
use Rattle.semantics.specs.Entries.{Own, IsAbove}
use Rattle.semantics.specs.LegalAnswer.{Request, OfCommand, OfPeer, Submitted}
use Rattle.semantics.specs.Replica.{Replica, operations, commit_own}
use Rattle.semantics.specs.Drain.{counted, receive}
use Rattle.semantics.specs.OneWorld.{AreWithin, IsOfWorld}
use Rattle.semantics.specs.Exchange.{IsSettled}
use Rattle.semantics.specs.WriteSteps.{stamp, after_made, after_request, after_submission}
use Rattle.semantics.proofs.Orders.{ids_from_test}
use Rattle.semantics.proofs.AbsentIds.{fresh}
use Rattle.semantics.proofs.LegalFacts.{deps_there}
use Rattle.semantics.proofs.NamedOperations.{legal, meaning_of}
use Rattle.semantics.proofs.AppliedVectors.{at-vector_of}
use Rattle.semantics.proofs.MadeLawful.{made_lawful}
use Rattle.semantics.proofs.ReadyThere.{ready_where_there, there_where_ready}
use Rattle.semantics.proofs.GrowingWorld.{legal_entries}
use Rattle.semantics.proofs.Settled.{made_grows_world}
use Rattle.semantics.proofs.ReachedWorlds.{committed}
use Rattle.semantics.proofs.CompleteExchange.{settled_next}
use Rattle.semantics.proofs.ReceivedItems.{running_counted}
use Rattle.semantics.proofs.HandledItems.{as_stamped}
use Rattle.semantics.proofs.GrownWorlds.{IsGrownBy, grown_not, full_stays}

-- what isn't ready doesn't become so by an operation that is new to the world
still_unready : (K H : List Operation) → IsLegal K → IsLegal H → AreWithin H K → (o : Operation) → Follows K o → Follows H o → (s : Stamped)
    → IsOfWorld K s → is_ready H s ≡ false → is_ready (o ∷ H) s ≡ false
still_unready K H lk lh w o fk fh s of unready = false_from_ne_true (is_ready (o ∷ H) s) (λ t.
    true≢false (sym (ready_where_there K lk H (operations_of of.history) lh w of.within s means.0 means.1 (before t)) ∙ unready))
  where
    means : (x : Operation) × Means (operations_of of.history) s x
    means = meaning_of of.history of.legal s of.there

    within : AreWithin (o ∷ H) (o ∷ K)
    within x (inl e) = inl e
    within x (inr m) = inr (w x m)

    before : is_ready (o ∷ H) s ≡ true → (a : OpId) → means.0.deps a ≡ true → has_id H a ≡ true
    before t a d =
        let there = there_where_ready (o ∷ K) (lk, fk) (o ∷ H) (operations_of of.history) (lh, fh) within
        (λ x m. inr (of.within x m)) s means.0 means.1 (legal of.history of.legal) t a d in
        elim (or_cases (is_same_id o.id a) (has_id H a) there) [
          | inl e ↦ absurd
              (true≢false (sym (deps_there K lk means.0 (of.within means.0 means.1.among) a d)
              ∙ ap (has_id K) (sym (ids_from_test o.id a e)) ∙ fresh fk))
          | inr h ↦ h
        ]

-- the world in which replica p goes on as t
pub record GoesOn (K : List Operation) (p : ℕ) (t : Replica) : Type 0 where
  pub world : List Operation
  pub grown : IsGrownBy p K world
  pub settled : IsSettled world p t

module _ (K : List Operation) (lk : IsLegal K) (p : ℕ) (r : Replica) (h : IsSettled K p r) where
  stays : GoesOn K p r
  stays = record { world = K; grown = grown_not p K lk; settled = h }

  -- ---- an own operation

  made : (client serial : ℕ) (c : Command) (s : Stamped) → NamesAll (operations r) s.vector
      → make (operations r) p c ≡ Ok (operation_after (operations r) s) → IsAbove client serial r.entries
      → GoesOn K p (commit_own r client serial c s)
  made client serial c s n e above =
      let o : Operation = operation_after (operations r) s in
      let lr : IsLegal (operations r) = legal_entries r h.world.running in
      let lawful = made_lawful (operations r) lr p c o e in
      let follows : Follows K o = made_grows_world K (operations r) p c o lk lr h.world.within e h.world.made in
      record {
        world = o ∷ K;
        grown = record {
          legal = (lk, follows);
          within = λ x m. inr m;
          new = λ x m. elim m [ inl i ↦ inr (ap (λ (y : Operation). y.id.replica) i ∙ lawful.1) | inr k ↦ inl k ];
        };
        settled = record {
          world = committed K lk p client serial c r s h.world n e above;
          end = elim h.end [
            | inl f ↦ inl (full_stays (Own client serial c s ∷ r.entries) r.entries (Own client serial c s ∷ [], refl) f)
            | inr f ↦ inr (λ x m. still_unready K (operations r) lk lr h.world.within o follows lawful.0 x (h.world.waits x m) (f x m))
          ];
          few = h.few;
        };
      }

  commanded : (x : Submitted) (c : Command) → IsAbove x.client x.serial r.entries → (m : Result Operation Refusal)
      → make (operations r) r.own c ≡ m → GoesOn K p (after_made r x c m)
  commanded x c above (Err why) e = stays
  commanded x c above (Ok o) e =
      made x.client x.serial c (stamp (operations r) o) (at-vector_of (operations r))
      (ap (λ q. make (operations r) q c) (sym h.world.own) ∙ e ∙ (λ i. Ok (as_stamped r c o h.world.running.history e i))) above

  -- ---- a peer's

  received : (s : Stamped) → IsOfWorld K s → GoesOn K p (counted (receive r s))
  received s of =
      let next = settled_next K lk p r s h of in
      record {
        world = K;
        grown = grown_not p K lk;
        settled = record {
          world = record {
            own = next.world.own;
            running = running_counted (receive r s) next.world.running;
            within = next.world.within;
            made = next.world.made;
            waits = next.world.waits;
            none_dropped = λ f. (let none = next.world.none_dropped f in omega (arith, none));
          };
          end = next.end;
          few = next.few;
        };
      }

  -- ---- each item

  requested : (x : Submitted) → IsAbove x.client x.serial r.entries → (q : Request) → ((s : Stamped) → q ≡ OfPeer s → IsOfWorld K s)
      → GoesOn K p (after_request r x q)
  requested x above (OfCommand c) of = commanded x c above (make (operations r) r.own c) refl
  requested x above (OfPeer s) of = received s (of s refl)

  pub item_handled : (x : Submitted) → IsAbove x.client x.serial r.entries → ((s : Stamped) → x.request ≡ OfPeer s → IsOfWorld K s)
      → GoesOn K p (after_submission r x)
  item_handled x above of =
      let other = requested x above x.request of in
      elim (nat_lt (length r.entries) x.floor) as
      (λ b. GoesOn K p (cond b r (after_request r x x.request))) [ true ↦ stays | false ↦ other ]
