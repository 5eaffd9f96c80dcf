-- Whose number resumes from a journal.
use Rattle.std.specs.Prelude.{◌≡◌, ◌≢◌, ◌⊎◌, ℕ, Option, None, Some}
use Rattle.jdoc_c.specs.declared.status.Status.{Status}
use Rattle.jdoc_c.specs.declared.status.Status.TheVariants.{BadNumber, NoMemory, Unfit}

-- the number that resumes: the journal's if it has one, which the given number may repeat, else the given number
abbrev pub IsOwn : (given : ℕ) → Option ℕ → (own : ℕ) → Type 0
IsOwn given None own = own ≡ given
IsOwn given (Some p) own = (own ≡ p) × ((given ≡ 0) ⊎ (given ≡ p))

-- there is no such number
abbrev pub IsBadNumber : (given : ℕ) → Option ℕ → Type 0
IsBadNumber given None = given ≡ 0
IsBadNumber given (Some p) = (given ≢ 0) × (given ≢ p)

-- why none resumes
abbrev pub IsWhyNot : (given : ℕ) → Option ℕ → Status → Type 0
IsWhyNot given p why = (why ≡ NoMemory) ⊎ (why ≡ Unfit) ⊎ ((why ≡ BadNumber) × IsBadNumber given p)
