-- What follows from an answer that may be NoMemory in place of another refusal.
use Rattle.std.proofs.Common.{◌≡◌, ◌⊎◌, Result, Ok, Err, inl, inr, sym}
use Rattle.ids.specs.declared.refusal.Refusal.{Refusal}
use Rattle.ids.specs.declared.refusal.Refusal.TheVariants.{NoMemory}
use Rattle.wire.specs.Forms.{IsOrNoMemory}

pub IsOrNoMemory-Ok : {T : Type 0} (wanted : Result T Refusal) (x : T) → IsOrNoMemory (Ok x) wanted → wanted ≡ Ok x
IsOrNoMemory-Ok wanted x (inl e) = sym e
IsOrNoMemory-Ok wanted x (inr e) = absurd (cc)

pub IsOrNoMemory-Err : {T : Type 0} (wanted : Result T Refusal) (why : Refusal) → IsOrNoMemory (Err why) wanted
    → (why ≡ NoMemory) ⊎ (wanted ≡ Err why)
IsOrNoMemory-Err wanted why (inl e) = inr (sym e)
IsOrNoMemory-Err wanted why (inr e) = inl (cc)
