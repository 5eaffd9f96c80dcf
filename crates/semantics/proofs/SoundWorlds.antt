-- Every engine of every run of a world is sound, and it is later than at each step before.
use Rattle.std.proofs.Common.{◌≡◌, ◌⊎◌, inl, inr, ℕ, zero, suc, ◌≤◌, List, [], ◌∷◌, ◌++◌, replicate, get_or, Option, Some, None, refl, sym}
use Rattle.std.proofs.Common.{ap, ◌∙◌, subst, arith, slice_get, slice_set}
use Rattle.std.proofs.lemmas.Bool.{cases_eq}
use Rattle.ids.specs.Configurations.{Configuration}
use Rattle.semantics.specs.Engine.{Engine, Client, Cell}
use Rattle.semantics.specs.ReadSteps.{cell_at}
use Rattle.semantics.specs.World.{opened_engine, World, opened, WorldStep, engine_step, world_step, world_after}
use Rattle.semantics.specs.WorldHistory.{IsEngineAfter, HasGrown}
use Rattle.semantics.proofs.SetElements.{get-set_same, get-set_other, get-set_cases}
use Rattle.semantics.proofs.ClientCells.{cell_within}
use Rattle.semantics.proofs.GrownEngines.{grown_refl, grown_trans}
use Rattle.semantics.proofs.SoundEngines.{IsSoundClient, IsSound, IsLater}
use Rattle.semantics.proofs.SoundSeeing.{later_refl}
use Rattle.semantics.proofs.SoundSteps.{stepped}

-- all engines of the world are sound
abbrev pub IsSoundWorld : World → Type 0
IsSoundWorld W = (e : ℕ) (E : Engine) → slice_get W.engines e ≡ Some E → IsSound E

-- ---- opened

copied : {X : Type 0} (n : ℕ) (x : X) (i : ℕ) (y : X) → slice_get (replicate n x) i ≡ Some y → y ≡ x
copied zero x i y h = cc
copied (suc n) x zero y h = cc
copied (suc n) x (suc i) y h = copied n x i y h

no_readings : (n i : ℕ) → get_or (replicate n 0) i 0 ≤ 0
no_readings zero i = omega arith
no_readings (suc n) zero = omega arith
no_readings (suc n) (suc i) = no_readings n i

sound_new_client : (p : ℕ) (ps : List ℕ) (c : ℕ) (k : Client) → k ≡ record { seen = 0; cells = [] } → IsSoundClient p ps [] 0 c k
sound_new_client p ps c k e = subst (IsSoundClient p ps [] 0 c) (sym e)
    (record { seen = omega arith; above = tt; cells = λ n cell w. absurd (none n cell w) })
  where
    none : (n : ℕ) (cell : Cell) → cell_at [] n ≡ Some cell → ⊥
    none zero cell w = cc
    none (suc n) cell w = (let l : suc n ≤ 0 = cell_within [] (suc n) cell w in omega arith)

pub sound_opened_engine : (c : Configuration) → IsSound (opened_engine c)
sound_opened_engine c = record {
  running = record { history = tt; alone = λ s m. absurd m; foreign = λ s m. absurd m; unapplied = λ s m. absurd m; rising = tt };
  published = omega arith;
  readers = no_readings c.readers;
  clients = λ d k e. sound_new_client c.own (opened_engine c).replica.members d k
      (copied c.clients (record { seen = 0; cells = [] }) d k e);
  turns = tt;
  unanswered = λ x m. absurd m;
  queued = λ x m. absurd m;
  handled = λ h m. absurd m;
  due = λ h m. absurd m;
}

pub sound_opened : (cs : List Configuration) → IsSoundWorld (opened cs)
sound_opened [] e E h = cc
sound_opened (c ∷ cs) zero E h = (let is : opened_engine c ≡ E = cc in subst IsSound is (sound_opened_engine c))
sound_opened (c ∷ cs) (suc e) E h = sound_opened cs e E h

-- ---- a step

pub sound_step : (W : World) (w : WorldStep) → IsSoundWorld W → IsSoundWorld (world_step W w).world
sound_step W w s = at_engine (slice_get W.engines w.engine) refl
  where
    at_engine : (o : Option Engine) → slice_get W.engines w.engine ≡ o → IsSoundWorld (world_step W w).world
    at_engine None e = rw e s
    at_engine (Some E) e = rw e (λ d F h. elim (get-set_cases W.engines w.engine d E (engine_step W.messages w.act E).engine F e h) [
      | inl q ↦ subst IsSound (sym q.1) (stepped W.messages w.act E (s w.engine E e)).sound
      | inr o ↦ s d F o
    ])

pub sound_after : (W : World) (steps : List WorldStep) → IsSoundWorld W → IsSoundWorld (world_after W steps)
sound_after W [] s = s
sound_after W (w ∷ steps) s = sound_after (world_step W w).world steps (sound_step W w s)

-- ---- later

-- an engine of a sound world is there after a step, and later
later_step : (W : World) (w : WorldStep) → IsSoundWorld W → (e : ℕ) (E : Engine) → slice_get W.engines e ≡ Some E
    → (F : Engine) × (slice_get (world_step W w).world.engines e ≡ Some F) × IsLater E F
later_step W w s e E h = at_engine (slice_get W.engines w.engine) refl
  where
    at_engine : (o : Option Engine) → slice_get W.engines w.engine ≡ o
        → (F : Engine) × (slice_get (world_step W w).world.engines e ≡ Some F) × IsLater E F
    at_engine None q = rw q (E, h, later_refl E (s e E h))
    at_engine (Some G) q = rw q (at_index (cases_eq e w.engine))
      where
        at_index : ((e ≡ w.engine) ⊎ (e ≡ w.engine → ⊥))
            → (F : Engine) × (slice_get (slice_set W.engines w.engine (engine_step W.messages w.act G).engine) e ≡ Some F) × IsLater E F
        at_index (inl i) =
            let there : slice_get W.engines e ≡ Some G = ap (slice_get W.engines) i ∙ q in
            let is : G ≡ E = cc in (
              (engine_step W.messages w.act G).engine,
              ap (slice_get (slice_set W.engines w.engine (engine_step W.messages w.act G).engine)) i
                  ∙ get-set_same W.engines w.engine G (engine_step W.messages w.act G).engine q,
              subst (λ K. IsLater K (engine_step W.messages w.act G).engine) is (stepped W.messages w.act G (s w.engine G q)),
            )
        at_index (inr n) = (E, get-set_other W.engines w.engine e (engine_step W.messages w.act G).engine n ∙ h, later_refl E (s e E h))

pub grown_after : (W : World) (steps : List WorldStep) → IsSoundWorld W → (e : ℕ) (E F : Engine) → slice_get W.engines e ≡ Some E
    → slice_get (world_after W steps).engines e ≡ Some F → HasGrown E F
grown_after W [] s e E F h k = (let is : E ≡ F = cc in subst (HasGrown E) is (grown_refl E))
grown_after W (w ∷ steps) s e E F h k =
    let one = later_step W w s e E h in
    grown_trans E one.0 F one.2.grown (grown_after (world_step W w).world steps (sound_step W w s) e one.0 F one.1 k)

pub after_more : (W : World) (steps more : List WorldStep) → world_after W (steps ++ more) ≡ world_after (world_after W steps) more
after_more W [] more = refl
after_more W (w ∷ steps) more = after_more (world_step W w).world steps more

-- ---- every run

-- Every engine of every run is sound.
pub sound_engine : (cs : List Configuration) (steps : List WorldStep) (e : ℕ) (E : Engine) → IsEngineAfter cs steps e E → IsSound E
sound_engine cs steps e E h = sound_after (opened cs) steps (sound_opened cs) e E h

-- Every engine of every run has grown by each run that goes on from there.
pub only_grow : (cs : List Configuration) (steps more : List WorldStep) (e : ℕ) (E F : Engine) → IsEngineAfter cs steps e E
    → IsEngineAfter cs (steps ++ more) e F → HasGrown E F
only_grow cs steps more e E F h k =
    grown_after (world_after (opened cs) steps) more (sound_after (opened cs) steps (sound_opened cs)) e E F h
    (subst (λ (W : World). slice_get W.engines e ≡ Some F) (after_more (opened cs) steps more) k)
