-- Worlds to which steps lead from a new one, and their engines.
use Rattle.std.proofs.Common.{◌≡◌, ℕ, List, ◌++◌, [], ◌∷◌, Some, sym, ap, ◌∙◌, slice_get}
use Rattle.semantics.specs.Engine.{Engine}
use Rattle.semantics.specs.WriteSteps.{take_submission}
use Rattle.semantics.specs.World.{World, WorldStep, Take, step_by, opened, engine_step, world_after, world_step}
use Rattle.semantics.proofs.SetElements.{get-set_same}
use Rattle.semantics.proofs.SoundEngines.{IsSound}
use Rattle.semantics.proofs.SoundWorlds.{after_more, sound_engine}
use Rattle.world.specs.Engines.{IsReachedEngine}
use Rattle.world.specs.Worlds.{IsReachedWorld}
use Rattle.world.proofs.TurnedWorlds.{world_step-there}

-- ---- engines

pub reached_sound : (E : Engine) → IsReachedEngine E → IsSound E
reached_sound E (cs, steps, e, h) = sound_engine cs steps e E h

-- the engine after a step of its own
pub after_step : (W : World) (s : WorldStep) (E : Engine) → slice_get W.engines s.engine ≡ Some E
    → slice_get (world_step W s).world.engines s.engine ≡ Some (engine_step W.messages s.act E).engine
after_step W s E there = ap (λ (V : World). slice_get V.engines s.engine)
    (ap (λ t. t.world) (world_step-there W.engines W.messages s E there))
    ∙ get-set_same W.engines s.engine E (engine_step W.messages s.act E).engine there

pub reached_take : (E : Engine) → IsReachedEngine E → IsReachedEngine (take_submission E).engine
reached_take E (cs, steps, e, h) = (
  cs,
  steps ++ step_by e Take ∷ [],
  e,
  ap (λ (W : World). slice_get W.engines e) (after_more (opened cs) steps (step_by e Take ∷ []))
      ∙ after_step (world_after (opened cs) steps) (step_by e Take) E h,
)

-- ---- worlds

pub reached_at : (W : World) → IsReachedWorld W → (i : ℕ) (E : Engine) → slice_get W.engines i ≡ Some E → IsReachedEngine E
reached_at W r i E there = (r.configurations, r.steps, i, sym (ap (λ (V : World). slice_get V.engines i) r.after) ∙ there)

pub reached_after : (W V : World) (steps : List WorldStep) → IsReachedWorld W → V ≡ world_after W steps → IsReachedWorld V
reached_after W V steps r is = record {
  configurations = r.configurations;
  within = r.within;
  steps = r.steps ++ steps;
  after = is ∙ ap (λ (U : World). world_after U steps) r.after ∙ sym (after_more (opened r.configurations) r.steps steps);
}
