-- Whether what a step names exists.
use Rattle.std.specs.Prelude.{ℕ, ◌+◌, ◌&&◌, List, length, Bool, false, nat_lt, slice_get, Result, Ok, Err, if◌then◌else◌}
use Rattle.std.specs.Option.{option_map_or}
use Rattle.ids.specs.Configurations.{Configuration}
use Rattle.ids.specs.declared.refusal.Refusal.{Refusal}
use Rattle.ids.specs.declared.refusal.Refusal.TheVariants.{BadLine}
use Rattle.semantics.specs.World.{WorldAct, WorldStep, Push, Poll, Ask, Learn, SayHello, AnswerHello, Deliver, Lines}

-- an engine of this number
abbrev pub has_engine : List Configuration → ℕ → Bool
has_engine engines e = nat_lt e (length engines)

-- a client of this number
abbrev pub has_client : List Configuration → ℕ → ℕ → Bool
has_client engines e c = option_map_or (λ g. nat_lt c g.clients) (slice_get engines e) false

-- an engine's tokens are first its clients', then its readers'
abbrev pub has_token : List Configuration → ℕ → ℕ → Bool
has_token engines e t = option_map_or (λ g. nat_lt t (g.clients + g.readers)) (slice_get engines e) false

-- the engine is one of these, and the client and the token that the act names are that engine's; a message need not exist
abbrev pub act_is_there : List Configuration → ℕ → WorldAct → Bool
act_is_there engines e (Push c _) = has_client engines e c
act_is_there engines e (Poll c _) = has_client engines e c
act_is_there engines e (Ask t _) = has_token engines e t
act_is_there engines e (Learn t c _) = has_token engines e t && has_client engines e c
act_is_there engines e (SayHello t) = has_token engines e t
act_is_there engines e (AnswerHello t _) = has_token engines e t
act_is_there engines e (Deliver c _) = has_client engines e c
act_is_there engines e (Lines c _ _) = has_client engines e c
act_is_there engines e _ = has_engine engines e

-- all that the step names exists, except perhaps a message
abbrev pub is_there : List Configuration → WorldStep → Bool
is_there engines s = act_is_there engines s.engine s.act

-- the same step, unless something doesn't exist
abbrev pub if_there : List Configuration → WorldStep → Result WorldStep Refusal
if_there engines s = if is_there engines s then Ok s else Err BadLine
