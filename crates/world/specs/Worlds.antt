-- What contracts see of a world of the program.
use Rattle.std.specs.Prelude.{◌≡◌, ◌≢◌, ℕ, ◌+◌, ◌≤◌, Bool, true, ⊤, List, take, length, Option, Some, None, slice_get}
use Rattle.std.specs.Prelude.{slice_set}
use Rattle.std.specs.List.{list_all}
use Rattle.ids.specs.Configurations.{Configuration, is_within_limits}
use Rattle.semantics.specs.Engine.{Engine, Message}
use Rattle.semantics.specs.World.{World, WorldStep as TheStep, opened, world_after}
use Rattle.world.specs.Parts.{IsBetween, IsInPart}

-- the engines, the messages, how many steps were done, and whether an allocation failed
pub record Running : Type 0 where
  pub engines : List Engine
  pub messages : List Message
  pub done : ℕ
  pub failed : Bool

-- the world of these engines and messages
abbrev pub world : List Engine → List Message → World
world Es ms = record { engines = Es; messages = ms }

-- the world of the definitions
abbrev pub world_of : Running → World
world_of w = record { engines = w.engines; messages = w.messages }

-- steps lead to the world from a new one, whose configurations are within the limits
pub record IsReachedWorld (W : World) : Type 0 where
  pub configurations : List Configuration
  pub within : list_all is_within_limits configurations ≡ true
  pub steps : List TheStep
  pub after : W ≡ world_after (opened configurations) steps

-- the engine isn't the one that moves in this step, if there is one
abbrev pub IsAnother : ℕ → Option TheStep → Type 0
IsAnother e None = ⊤
IsAnother e (Some s) = e ≢ s.engine

-- Fs are the engines Es after the one that moves did a part of the step, with these messages sent before
pub record MovesInPart (ms : List Message) (s : TheStep) (Es Fs : List Engine) : Type 0 where
  pub engine : Engine
  pub part : Engine
  pub there : slice_get Es s.engine ≡ Some engine
  pub moved : Fs ≡ slice_set Es s.engine part
  pub begun : IsInPart ms s.act engine part

-- F is between what engine e is after n steps and what it is after one more
abbrev pub IsBetweenSteps : World → List TheStep → ℕ → ℕ → Engine → Type 0
IsBetweenSteps W steps n e F = (E G : Engine)
    → slice_get (world_after W (take n steps)).engines e ≡ Some E
    → slice_get (world_after W (take (n + 1) steps)).engines e ≡ Some G
    → IsBetween E F G

-- V is the world W after n whole steps and a part of the next one: the messages and all engines but the one that moves next are as after
-- the n steps, and each engine is between what it is then and after the next step
pub record StopsInStep (W : World) (steps : List TheStep) (n : ℕ) (V : World) : Type 0 where
  pub within : n ≤ length steps
  pub messages : V.messages ≡ (world_after W (take n steps)).messages
  pub others : (e : ℕ) → IsAnother e (slice_get steps n) → slice_get V.engines e ≡ slice_get (world_after W (take n steps)).engines e
  pub count : length V.engines ≡ length W.engines
  pub between : (e : ℕ) (F : Engine) → slice_get V.engines e ≡ Some F → IsBetweenSteps W steps n e F
