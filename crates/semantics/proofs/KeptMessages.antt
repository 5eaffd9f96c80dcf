-- A message that was sent stays under its number.
use Rattle.std.proofs.Common.{◌≡◌, ℕ, List, [], ◌∷◌, ◌++◌, Option, Some, None, refl, sym, subst, slice_get}
use Rattle.ids.specs.Configurations.{Configuration}
use Rattle.semantics.specs.Engine.{Engine, Message}
use Rattle.semantics.specs.World.{World, WorldStep, sent_by, opened, world_step, world_after}
use Rattle.ids.proofs.LongerLists.{get-append}
use Rattle.semantics.proofs.SoundWorlds.{after_more}

pub message_kept : (W : World) (w : WorldStep) (k : ℕ) (m : Message) → slice_get W.messages k ≡ Some m
    → slice_get (world_step W w).world.messages k ≡ Some m
message_kept W w k m h = at_engine (slice_get W.engines w.engine) refl
  where
    at_engine : (o : Option Engine) → slice_get W.engines w.engine ≡ o → slice_get (world_step W w).world.messages k ≡ Some m
    at_engine None e = rw e h
    at_engine (Some E) e = rw e (get-append W.messages (sent_by W.messages w.act E) k m h)

pub message_kept_after : (W : World) (steps : List WorldStep) (k : ℕ) (m : Message) → slice_get W.messages k ≡ Some m
    → slice_get (world_after W steps).messages k ≡ Some m
message_kept_after W [] k m h = h
message_kept_after W (w ∷ steps) k m h = message_kept_after (world_step W w).world steps k m (message_kept W w k m h)

pub messages_stay : (cs : List Configuration) (steps more : List WorldStep) (k : ℕ) (m : Message)
    → slice_get (world_after (opened cs) steps).messages k ≡ Some m
    → slice_get (world_after (opened cs) (steps ++ more)).messages k ≡ Some m
messages_stay cs steps more k m h =
    subst (λ (W : World). slice_get W.messages k ≡ Some m) (sym (after_more (opened cs) steps more))
    (message_kept_after (world_after (opened cs) steps) more k m h)
