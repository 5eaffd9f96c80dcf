-- One step of a world whose engine exists.
use Rattle.std.proofs.Common.{◌≡◌, ℕ, zero, suc, ◌≤◌, List, [], ◌∷◌, ◌++◌, length, take, Some, None, refl, ap}
use Rattle.std.proofs.Common.{slice_get, slice_set}
use Rattle.std.proofs.lemmas.Option.{slice_get_past}
use Rattle.semantics.specs.Engine.{Engine, Message, Idle}
use Rattle.semantics.specs.World.{World, WorldStep, engine_step, sent_by, world_after, world_step}
use Rattle.world.specs.Worlds.{world}

pub world_step-there : (Es : List Engine) (ms : List Message) (s : WorldStep) (E : Engine) → slice_get Es s.engine ≡ Some E
    → world_step (world Es ms) s
    ≡ record {
      world = world (slice_set Es s.engine (engine_step ms s.act E).engine) (ms ++ sent_by ms s.act E);
      reply = (engine_step ms s.act E).reply;
    }
world_step-there Es ms s E e = rw e refl

pub world_step-none : (Es : List Engine) (ms : List Message) (s : WorldStep) → length Es ≤ s.engine
    → world_step (world Es ms) s ≡ record { world = world Es ms; reply = Idle }
world_step-none Es ms s l = let none : slice_get Es s.engine ≡ None = slice_get_past Es s.engine l in rw none refl

-- ---- steps that were done

-- the world after one step more
pub after_next : (W : World) (steps : List WorldStep) (n : ℕ) (s : WorldStep) → slice_get steps n ≡ Some s
    → world_after W (take (suc n) steps) ≡ (world_step (world_after W (take n steps)) s).world
after_next W [] n s e = cc
after_next W (t ∷ steps) zero s e = let same : t ≡ s = cc in ap (λ (u : WorldStep). (world_step W u).world) same
after_next W (t ∷ steps) (suc n) s e = after_next (world_step W t).world steps n s e
