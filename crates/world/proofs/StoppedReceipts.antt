-- A receipt in which an allocation failed.
use Rattle.std.proofs.Common.{◌≡◌, ◌≢◌, ◌⊎◌, inl, inr, ℕ, List, [], Option, Some, None, refl, sym, ap, subst}
use Rattle.ids.specs.declared.refusal.Refusal.{Refusal}
use Rattle.ids.specs.declared.refusal.Refusal.TheVariants.{NoMemory}
use Rattle.semantics.specs.Stamped.{Stamped}
use Rattle.semantics.specs.Engine.{Engine, Message, Bundle}
use Rattle.semantics.specs.PeerSteps.{receive_lines, receive_message}
use Rattle.semantics.specs.World.{Lines}
use Rattle.semantics.proofs.SoundEngines.{IsSound}
use Rattle.world.specs.Parts.{IsBetween}
use Rattle.world.proofs.BetweenEngines.{not_begun}

pub between_same : {E F G H : Engine} → G ≡ H → IsBetween E F G → IsBetween E F H
between_same {E} {F} e h = subst (IsBetween E F) e h

-- all that was read was submitted in part, or nothing was
pub lines_stopped : (E F : Engine) (c : ℕ) (ss ts : List Stamped) (bad got : Option Refusal) → IsSound E
    → (got ≡ Some NoMemory) ⊎ ((ts ≡ ss) × (got ≡ bad))
    → (F ≡ E) ⊎ ((got ≢ Some NoMemory) × IsBetween E F (receive_lines E c ts got).engine)
    → IsBetween E F (receive_lines E c ss bad).engine
lines_stopped E F c ss ts bad got sound read (inl same) = subst (λ A. IsBetween E A (receive_lines E c ss bad).engine) (sym same)
    (not_begun [] (Lines c ss bad) E sound)
lines_stopped E F c ss ts bad got sound (inl memory) (inr part) = absurd (part.0 memory)
lines_stopped E F c ss ts bad got sound (inr read) (inr part) = between_same (λ i. (receive_lines E c (read.0 i) (read.1 i)).engine) part.1

-- the same for a message, all of whose operations were read
pub message_stopped : (E F : Engine) (c : ℕ) (m : Option Message) (ss ts : List Stamped) → IsSound E → m ≡ Some (Bundle ss) → ts ≡ ss
    → (F ≡ E) ⊎ ((◌≢◌ {A = Option Refusal} None (Some NoMemory)) × IsBetween E F (receive_lines E c ts None).engine)
    → IsBetween E F (receive_message E c m).engine
message_stopped E F c m ss ts sound is read part =
    between_same (ap (λ o. (receive_message E c o).engine) (sym is))
    (lines_stopped E F c ss ts None None sound (inr (read, refl)) part)
