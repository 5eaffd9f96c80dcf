-- What is returned if nothing resumes from a journal.
use Rattle.std.proofs.Common.{◌≡◌, ℕ, Bool, false, List, Option, Some, None, refl, ap, sym, ◌∙◌, inl, inr}
use Rattle.std.specs.Prelude.{is_some}
use Rattle.std.proofs.Common.{true≢false}
use Rattle.store.specs.WholeLines.{first_own}
use Rattle.wire.specs.Lines.{cut}
use Rattle.jdoc_c.specs.declared.held.Held.{Held}
use Rattle.jdoc_c.specs.declared.status.Status.{Status}
use Rattle.jdoc_c.specs.Handles.{OpensAt}
use Rattle.jdoc_c.specs.Openings.{IsWhyNot}
use Rattle.jdoc_c.specs.Statuses.{number_of}

-- a handle that isn't open holds nothing
pub none_of : {A : Type 0} (h : Option A) (b : Bool) → b ≡ is_some h → b ≡ false → h ≡ None
none_of None b tied closed = refl
none_of (Some x) b tied closed = absurd (true≢false (sym tied ∙ closed))

pub not_opened : (given : ℕ) (journal : List ℕ) (taken : ℕ) (before : Option Held) (why : Status) (status : ℕ) → before ≡ None
    → status ≡ number_of why → IsWhyNot given (first_own (cut journal).lines) why → OpensAt given journal status taken taken before before
not_opened given journal taken (Some h) why status none is not = absurd (let z : ⊥ = cc in z)
not_opened given journal taken None why status none is (inl w) = (refl, inl (is ∙ ap number_of w))
not_opened given journal taken None why status none is (inr (inl w)) = (refl, inr (inl (is ∙ ap number_of w)))
not_opened given journal taken None why status none is (inr (inr (w, bad))) = (refl, inr (inr (is ∙ ap number_of w, bad)))
