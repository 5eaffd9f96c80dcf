-- What can be read of a text, line by line.
use Rattle.std.proofs.Common.{◌≡◌, ◌≢◌, ℕ, List, [], ◌∷◌, ◌++◌, Some, None, Ok, Err, refl, sym, append_assoc, append-nil}
use Rattle.ids.specs.declared.refusal.Refusal.{Refusal}
use Rattle.ids.specs.declared.refusal.Refusal.TheVariants.{BadLine}
use Rattle.semantics.specs.Stamped.{Stamped}
use Rattle.semantics.specs.Vectors.{Vector}
use Rattle.wire.specs.Bundles.{Readable, readable}
use Rattle.wire.specs.Lines.{HasNoEnd, IsFirstLine}
use Rattle.wire.specs.Profiles.{line_form}
use Rattle.wire.proofs.CutLines.{cut-first_line, cut-no_end}

-- these operations, and then what can be read
abbrev pub after : List Stamped → Readable → Readable
after ops r = record { operations = ops ++ r.operations; stopped = r.stopped }

-- a line that is an operation
pub after-op : (base : Vector) (text line rest : List ℕ) (ops : List Stamped) (s : Stamped) → IsFirstLine text line rest
    → line_form base line ≡ Ok s
    → after ops (readable base text) ≡ after (ops ++ s ∷ []) (readable s.vector rest)
after-op base text line rest ops s first e =
    rw (cut-first_line text line rest first, e)
    (λ i. record {
      operations = sym (append_assoc ops (s ∷ []) (readable s.vector rest).operations) i;
      stopped = (readable s.vector rest).stopped;
    })

-- a line that isn't
pub after-bad : (base : Vector) (text line rest : List ℕ) (ops : List Stamped) (why : Refusal) → IsFirstLine text line rest
    → line_form base line ≡ Err why
    → after ops (readable base text) ≡ record { operations = ops; stopped = Some why }
after-bad base text line rest ops why first e =
    rw (cut-first_line text line rest first, e) (λ i. record { operations = append-nil ops i; stopped = Some why })

-- bytes without a line feed at the end
pub after-cut : (base : Vector) (text : List ℕ) (ops : List Stamped) → HasNoEnd text → text ≢ []
    → after ops (readable base text) ≡ record { operations = ops; stopped = Some BadLine }
after-cut base [] ops h some = absurd (some refl)
after-cut base (b ∷ text) ops h some =
    rw (cut-no_end (b ∷ text) h) (λ i. record { operations = append-nil ops i; stopped = Some BadLine })

-- no byte
pub after-none : (base : Vector) (text : List ℕ) (ops : List Stamped) → text ≡ []
    → after ops (readable base text) ≡ record { operations = ops; stopped = None }
after-none base text ops e = rw e (λ i. record { operations = append-nil ops i; stopped = None })
