-- In a run without lines of any origin, all engines are of one world.
use Rattle.std.proofs.Common.{◌≡◌, ◌⊎◌, inl, inr, ℕ, false, List, [], ◌∷◌, ◌++◌, Option, Some, None, refl, sym, ap, ◌∙◌, subst, slice_get}
use Rattle.std.proofs.Common.{slice_set}
use Rattle.std.proofs.lemmas.Bool.{cases_eq}
use Rattle.ids.specs.Configurations.{Configuration}
use Rattle.semantics.specs.Operations.{Operation}
use Rattle.semantics.specs.LegalHistory.{IsLegal, IsAmong}
use Rattle.semantics.specs.Stamped.{Stamped}
use Rattle.semantics.specs.Entries.{stamped_entries}
use Rattle.semantics.specs.OneWorld.{AreWithin, IsOfWorld, IsReplicaOf}
use Rattle.semantics.specs.Engine.{Engine, Bundle}
use Rattle.semantics.specs.World.{World, opened, WorldStep, engine_step, sent_by, world_step, world_after}
use Rattle.semantics.specs.WorldHistory.{IsEngineAfter}
use Rattle.semantics.specs.WorldExchange.{HaveOwnNumbers, is_of_lines, AreWithoutLines}
use Rattle.semantics.proofs.SetElements.{get-set_same, get-set_other}
use Rattle.semantics.proofs.EntryHistories.{entries_legal}
use Rattle.semantics.proofs.SoundWorlds.{IsSoundWorld, sound_opened, sound_step}
use Rattle.semantics.proofs.GrownWorlds.{of_grown}
use Rattle.semantics.proofs.KeptSteps.{kept_by_step}
use Rattle.semantics.proofs.TrackedEngines.{IsEngineOf, IsTracked, IsRequestOf, HasGoneOn, engine_elsewhere, kept_going, starts}
use Rattle.semantics.proofs.SentOperations.{sent_there, get-append_either}
use Rattle.semantics.proofs.OpenedWorlds.{IsWorldOf, opened_world}

-- W is of a world that K has grown to, with the claim about engine a
pub record IsFurther (Claim : List Operation → Engine → Type 0) (a : ℕ) (K : List Operation) (W : World) : Type 0 where
  pub world : List Operation
  pub within : AreWithin K world
  pub is : IsWorldOf world W
  pub claim : (A : Engine) → slice_get W.engines a ≡ Some A → Claim world A

-- ---- a step

module _ (Claim : List Operation → Engine → Type 0) (kept : IsTracked Claim) (a : ℕ) (K : List Operation) (W : World) (w : WorldStep)
    (sound : IsSoundWorld W) (known : is_of_lines w.act ≡ false) (h : IsWorldOf K W)
    (claim : (A : Engine) → slice_get W.engines a ≡ Some A → Claim K A) where
  -- the claim, where it is about the engine that moves
  abbrev here : List Operation → Engine → Type 0
  here L E = w.engine ≡ a → Claim L E

  kept_here : IsTracked here
  kept_here = record {
    grown = λ L M E v q e. kept.grown L M E v (q e);
    still = λ L E F l q c e. kept.still L E F l q (c e);
    submitted = λ L E F x l c e. kept.submitted L E F x l (c e);
    taken = λ L E F x u s i l c e. kept.taken L E F x u s i l (c e);
  }

  module _ (E : Engine) (there : slice_get W.engines w.engine ≡ Some E) where
    abbrev moved : Engine
    moved = (engine_step W.messages w.act E).engine

    abbrev engines : List Engine
    engines = slice_set W.engines w.engine moved

    gone_on : HasGoneOn here K E.replica.own moved
    gone_on = kept_by_step (IsRequestOf K) (HasGoneOn here K E.replica.own)
        (kept_going here kept_here K E.replica.own) W.messages w.act E known (sound w.engine E there)
        (λ command s e. cc) (λ k ss s is m t e. (let same : s ≡ t = cc in subst (IsOfWorld K) same (h.sent k ss s is m)))
        (starts here K h.legal E (h.engines w.engine E there) (λ e. claim E (sym (ap (slice_get W.engines) e) ∙ there)))

    -- the engine at an index is the one that moved, or the one that was there
    placed : (d : ℕ) (D : Engine) → slice_get engines d ≡ Some D
        → ((d ≡ w.engine) × (moved ≡ D)) ⊎ ((d ≡ w.engine → ⊥) × (slice_get W.engines d ≡ Some D))
    placed d D e = at_cases (cases_eq d w.engine)
      where
        at_cases : ((d ≡ w.engine) ⊎ (d ≡ w.engine → ⊥))
            → ((d ≡ w.engine) × (moved ≡ D)) ⊎ ((d ≡ w.engine → ⊥) × (slice_get W.engines d ≡ Some D))
        at_cases (inl i) =
            let set : slice_get engines d ≡ Some moved = ap (slice_get engines) i ∙ get-set_same W.engines w.engine E moved there in
            inl (i, cc)
        at_cases (inr n) = inr (n, sym (get-set_other W.engines w.engine d moved n) ∙ e)

    -- it was there with the same own number
    was : (d : ℕ) (D : Engine) → slice_get engines d ≡ Some D
        → (X : Engine) × (slice_get W.engines d ≡ Some X) × (X.replica.own ≡ D.replica.own)
    was d D e = elim (placed d D e) [
      | inl i ↦ (E, ap (slice_get W.engines) i.0 ∙ there, sym gone_on.own ∙ ap (λ (X : Engine). X.replica.own) i.1)
      | inr n ↦ (D, n.1, refl)
    ]

    engine_there : (d : ℕ) (D : Engine) → slice_get engines d ≡ Some D → IsEngineOf gone_on.world D
    engine_there d D e = elim (placed d D e) [
      | inl i ↦ subst (IsEngineOf gone_on.world) i.1 gone_on.engine
      | inr n ↦ engine_elsewhere E.replica.own K gone_on.world D (λ same. n.0 (sym (h.numbers w.engine d E D there n.1 same))) gone_on.grown
          (h.engines d D n.1)
    ]

    sent_here : (k : ℕ) (ss : List Stamped) (s : Stamped) → slice_get (W.messages ++ sent_by W.messages w.act E) k ≡ Some (Bundle ss)
        → IsAmong s ss → IsOfWorld gone_on.world s
    sent_here k ss s is m = of_grown K gone_on.world s gone_on.grown.within
        (elim (get-append_either W.messages (sent_by W.messages w.act E) k (Bundle ss) is) [
          | inl e ↦ h.sent k ss s e m
          | inr n ↦ (let r = (h.engines w.engine E there).settled.world in record {
            history = stamped_entries E.replica.entries;
            legal = entries_legal E.replica.own E.replica.entries r.running.history;
            within = r.within;
            there = sent_there W.messages w.act E ss n s m;
          })
        ])

    further : IsFurther Claim a K (record { engines = engines; messages = W.messages ++ sent_by W.messages w.act E })
    further = record {
      world = gone_on.world;
      within = gone_on.grown.within;
      is = record {
        legal = gone_on.grown.legal;
        numbers = λ d e D F p q same. (let x = was d D p in let y = was e F q in h.numbers d e x.0 y.0 x.1 y.1 (x.2 ∙ same ∙ sym y.2));
        engines = engine_there;
        sent = sent_here;
      };
      claim = λ A e. elim (placed a A e) [
        | inl i ↦ subst (Claim gone_on.world) i.1 (gone_on.claim (sym i.0))
        | inr n ↦ kept.grown K gone_on.world A gone_on.grown.within (claim A n.1)
      ];
    }

  pub further_by_step : IsFurther Claim a K (world_step W w).world
  further_by_step = at_engine (slice_get W.engines w.engine) refl
    where
      at_engine : (o : Option Engine) → slice_get W.engines w.engine ≡ o → IsFurther Claim a K (world_step W w).world
      at_engine None e = rw e (record { world = K; within = λ x m. m; is = h; claim = claim })
      at_engine (Some E) e = rw e (further E e)

-- ---- a run

pub further_by_run : (Claim : List Operation → Engine → Type 0) → IsTracked Claim
    → (a : ℕ) (K : List Operation) (W : World) (steps : List WorldStep) → IsSoundWorld W → AreWithoutLines steps → IsWorldOf K W
    → ((A : Engine) → slice_get W.engines a ≡ Some A → Claim K A) → IsFurther Claim a K (world_after W steps)
further_by_run Claim kept a K W [] sound known h claim = record { world = K; within = λ x m. m; is = h; claim = claim }
further_by_run Claim kept a K W (w ∷ steps) sound known h claim =
    let one = further_by_step Claim kept a K W w sound (known w (inl refl)) h claim in
    let rest = further_by_run Claim kept a one.world (world_step W w).world steps (sound_step W w sound)
    (λ s m. known s (inr m)) one.is one.claim in
    record { world = rest.world; within = λ x m. rest.within x (one.within x m); is = rest.is; claim = rest.claim }

-- no claim
abbrev nothing : List Operation → Engine → Type 0
nothing K E = Unit {0}

nothing_kept : IsTracked nothing
nothing_kept = record { grown = λ K L E v c. tt; still = λ K E F l q c. tt; submitted = λ K E F x l c. tt; taken = λ K E F x u s i l c. tt }

-- a world goes on as one
pub one_world_after : (K : List Operation) (W : World) (steps : List WorldStep) → IsSoundWorld W → AreWithoutLines steps → IsWorldOf K W
    → (L : List Operation) × AreWithin K L × IsWorldOf L (world_after W steps)
one_world_after K W steps sound known h =
    let f = further_by_run nothing nothing_kept 0 K W steps sound known h (λ A e. tt) in
    (f.world, f.within, f.is)

pub one_world : (cs : List Configuration) (steps : List WorldStep) → HaveOwnNumbers cs → AreWithoutLines steps
    → (K : List Operation) × IsWorldOf K (world_after (opened cs) steps)
one_world cs steps own known =
    let f = one_world_after [] (opened cs) steps (sound_opened cs) known (opened_world cs own) in
    (f.0, f.2)

-- All histories are of one legal history.
pub histories_of_one_world : (cs : List Configuration) (steps : List WorldStep) → HaveOwnNumbers cs → AreWithoutLines steps
    → (K : List Operation) × IsLegal K × ((e : ℕ) (E : Engine) → IsEngineAfter cs steps e E → IsReplicaOf K E.replica.own E.replica)
histories_of_one_world cs steps own known =
    let w = one_world cs steps own known in
    (w.0, w.1.legal, λ e E h. (w.1.engines e E h).settled.world)
