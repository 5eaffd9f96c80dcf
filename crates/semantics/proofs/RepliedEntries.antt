-- In every run, each own entry of a history was replied Made, with its id and position.
use Rattle.std.proofs.Common.{◌≡◌, ◌⊎◌, inl, inr, ℕ, zero, suc, Bool, true, false, cond, ◌==◌, nat_lt, List, [], ◌∷◌, length, Option}
use Rattle.std.proofs.Common.{Some, None, Result, Ok, Err, refl, sym, ap, ◌∙◌, subst, eqb-true, slice_get}
use Rattle.ids.specs.Configurations.{Configuration}
use Rattle.ids.specs.declared.refusal.Refusal.{Refusal}
use Rattle.ids.specs.declared.refusal.Refusal.TheVariants.{BadFloor}
use Rattle.semantics.specs.Operations.{Operation}
use Rattle.semantics.specs.Stamped.{Stamped}
use Rattle.semantics.specs.Making.{Command, make}
use Rattle.semantics.specs.Entries.{Entry, Own, Peer, entry_at}
use Rattle.semantics.specs.LegalAnswer.{Request, OfCommand, OfPeer, Submitted, Reply, Made, RefusedAt}
use Rattle.semantics.specs.Replica.{Replica, operations, IsRunning}
use Rattle.semantics.specs.Delivery.{answer_to, deliver}
use Rattle.semantics.specs.Drain.{receive, with_peers}
use Rattle.semantics.specs.Engine.{Engine}
use Rattle.semantics.specs.WriteSteps.{stamp, after_made, reply_made, after_request, reply_requested, after_submission, reply_to}
use Rattle.semantics.specs.World.{opened_engine, World, opened, WorldStep, engine_step, world_step, world_after}
use Rattle.semantics.specs.WorldHistory.{IsEngineAfter, WasReplied, HasGrown}
use Rattle.semantics.proofs.SetElements.{get-set_cases}
use Rattle.semantics.proofs.Delivered.{delivered}
use Rattle.semantics.proofs.Drained.{drained}
use Rattle.semantics.proofs.ReceivedItems.{same_entries}
use Rattle.semantics.proofs.SoundEngines.{IsSound}
use Rattle.semantics.proofs.ItemsInTurn.{among_right}
use Rattle.semantics.proofs.SoundWorlds.{IsSoundWorld, sound_opened, sound_step}
use Rattle.semantics.proofs.EngineMoves.{HasTaken, IsKeptOn}
use Rattle.semantics.proofs.KeptSteps.{kept_by_act}

-- ---- the entries after an item

-- what a delivery with its drain appends is of peers
peers_appended : (r : Replica) (t : Stamped) → IsRunning r → (M : List Stamped) × ((receive r t).entries ≡ with_peers M r.entries)
peers_appended r t h =
    let d = (drained (deliver r t) (delivered r t h)).1 in
    (d.appended, d.entries ∙ ap (with_peers d.appended) (same_entries r t (answer_to r t)))

module _ (m c serial : ℕ) (d : Command) (s : Stamped) where
  -- entry m is this one
  abbrev Stands : List Entry → Type 0
  Stands G = entry_at m G ≡ Some (Own c serial d s)

  -- it stood before, or it is the item's, and the reply is Made with its id and position
  abbrev IsOldOrMade : Replica → Submitted → Reply → Type 0
  IsOldOrMade r x reply = Stands r.entries ⊎ ((x.client ≡ c) × (x.serial ≡ serial) × (reply ≡ Made s.id m))

  -- entries of peers are none of it
  before_peers : (M : List Stamped) (G : List Entry) → Stands (with_peers M G) → Stands G
  before_peers [] G h = h
  before_peers (t ∷ M) G h = at_test (before_peers M G) (length (with_peers M G) == m) h
    where
      at_test : (Stands (with_peers M G) → Stands G) → (b : Bool)
          → cond b (Some (Peer t)) (entry_at m (with_peers M G)) ≡ Some (Own c serial d s) → Stands G
      at_test rest true q = absurd (no q)
        where
          no : Some (Peer t) ≡ Some (Own c serial d s) → ⊥
          no w = cc
      at_test rest false q = rest q

  after_command : (r : Replica) (x : Submitted) (k : Command) (made : Result Operation Refusal)
      → Stands (after_made r x k made).entries → IsOldOrMade r x (reply_made r made)
  after_command r x k (Err why) h = inl h
  after_command r x k (Ok o) h = at_test (length r.entries == m) refl h
    where
      at_test : (b : Bool) → (length r.entries == m) ≡ b
          → cond b (Some (Own x.client x.serial k (stamp (operations r) o))) (entry_at m r.entries) ≡ Some (Own c serial d s)
          → IsOldOrMade r x (Made o.id (length r.entries))
      at_test true e q =
          let client : x.client ≡ c = cc in
          let number : x.serial ≡ serial = cc in
          let is : stamp (operations r) o ≡ s = cc in
          let at : length r.entries ≡ m = eqb-true (length r.entries) m e in
          inr (client, number, (λ i. Made (is i).id (at i)))
      at_test false e q = inl q

  after_its_request : (r : Replica) (x : Submitted) → IsRunning r → (q : Request) → Stands (after_request r x q).entries
      → IsOldOrMade r x (reply_requested r q)
  after_its_request r x h (OfCommand k) e = after_command r x k (make (operations r) r.own k) e
  after_its_request r x h (OfPeer t) e =
      let p = peers_appended r t h in
      inl (before_peers p.0 r.entries (subst Stands p.1 e))

  -- An own entry after an item was handled is an old one, or the item's.
  old_or_made : (r : Replica) (x : Submitted) → IsRunning r → Stands (after_submission r x).entries → IsOldOrMade r x (reply_to r x)
  old_or_made r x h = at_floor (nat_lt (length r.entries) x.floor)
    where
      at_floor : (b : Bool) → Stands (cond b r (after_request r x x.request)).entries
          → IsOldOrMade r x (cond b (RefusedAt BadFloor (length r.entries)) (reply_requested r x.request))
      at_floor true e = inl e
      at_floor false e = after_its_request r x h x.request e

-- ---- each step

-- each own entry was replied Made, with its id and position
abbrev pub AreReplied : Engine → Type 0
AreReplied E = (m c serial : ℕ) (d : Command) (s : Stamped) → entry_at m E.replica.entries ≡ Some (Own c serial d s)
    → WasReplied E c serial (Made s.id m)

-- the request may be any
abbrev IsAny : Request → Type 0
IsAny q = Unit {0}

stay_replied : (E F : Engine) → HasGrown E F → F.replica ≡ E.replica → AreReplied E → AreReplied F
stay_replied E F g same h m c serial d s e =
    g.replied c serial (Made s.id m) (h m c serial d s (subst (λ (r : Replica). Stands m c serial d s r.entries) same e))

taken_replied : (E F : Engine) (x : Submitted) → IsSound E → HasTaken E F x → AreReplied E → AreReplied F
taken_replied E F x sound l h m c serial d s e =
    elim (old_or_made m c serial d s E.replica x sound.running (subst (λ (r : Replica). Stands m c serial d s r.entries) l.replica e)) [
      | inl old ↦ l.later.grown.replied c serial (Made s.id m) (h m c serial d s old)
      | inr new ↦ inr (_, among_right F.due F.handled _ l.replied, new.0, new.1, new.2)
    ]

kept_replied : IsKeptOn IsAny AreReplied
kept_replied = record {
  still = λ E F l q h. stay_replied E F l.grown q.0 h;
  submitted = λ E F x sound l p h. stay_replied E F l.later.grown l.replica h;
  taken = taken_replied;
}

-- ---- every run

-- so it is in all engines of the world
abbrev AreAllReplied : World → Type 0
AreAllReplied W = (e : ℕ) (E : Engine) → slice_get W.engines e ≡ Some E → AreReplied E

opened_replied : (cs : List Configuration) → AreAllReplied (opened cs)
opened_replied [] e E h = cc
opened_replied (k ∷ cs) zero E h =
    let is : opened_engine k ≡ E = cc in
    subst AreReplied is (λ m c serial d s w. absurd (none m c serial d s w))
  where
    none : (m c serial : ℕ) (d : Command) (s : Stamped) → entry_at m [] ≡ Some (Own c serial d s) → ⊥
    none m c serial d s w = cc
opened_replied (k ∷ cs) (suc e) E h = opened_replied cs e E h

step_replied : (W : World) (w : WorldStep) → IsSoundWorld W → AreAllReplied W → AreAllReplied (world_step W w).world
step_replied W w sound h = at_engine (slice_get W.engines w.engine) refl
  where
    moved : (E : Engine) → slice_get W.engines w.engine ≡ Some E → AreReplied (engine_step W.messages w.act E).engine
    moved E e = kept_by_act IsAny AreReplied kept_replied W.messages w.act E (sound w.engine E e) (λ command. tt) (λ k ss s is m. tt)
        (λ c ss bad s is m. tt) (h w.engine E e)

    at_engine : (o : Option Engine) → slice_get W.engines w.engine ≡ o → AreAllReplied (world_step W w).world
    at_engine None e = rw e h
    at_engine (Some E) e = rw e (λ d F i. elim (get-set_cases W.engines w.engine d E (engine_step W.messages w.act E).engine F e i) [
      | inl q ↦ subst AreReplied (sym q.1) (moved E e)
      | inr o ↦ h d F o
    ])

replied_after : (W : World) (steps : List WorldStep) → IsSoundWorld W → AreAllReplied W → AreAllReplied (world_after W steps)
replied_after W [] sound h = h
replied_after W (w ∷ steps) sound h = replied_after (world_step W w).world steps (sound_step W w sound) (step_replied W w sound h)

-- In every run each own entry was replied Made, with its id and position.
pub replied_engine : (cs : List Configuration) (steps : List WorldStep) (e : ℕ) (E : Engine) → IsEngineAfter cs steps e E → AreReplied E
replied_engine cs steps e E h = replied_after (opened cs) steps (sound_opened cs) (opened_replied cs) e E h
