-- Histories with the same operations give the same answers.
use Rattle.std.proofs.Common.{◌≡◌, ℕ, Bool, true, false, not, cond, filter, List, [], ◌∷◌, inl, inr, refl, sym, ap, ◌∙◌}
use Rattle.semantics.specs.LegalHistory.{IsAmong}
use Rattle.semantics.specs.Entries.{Entry, IsEntryHistory, missing, stamped_entries}
use Rattle.semantics.specs.LegalAnswer.{Answered, OfDocument, reading_of}
use Rattle.semantics.specs.Questions.{Question}
use Rattle.semantics.specs.Stamped.{Stamped, HaveSameStamped}
use Rattle.semantics.specs.Vectors.{Vector, covers}
use Rattle.semantics.proofs.AmongLists.{in_filter, into_filter}
use Rattle.semantics.proofs.EntryHistories.{entries_legal}
use Rattle.semantics.proofs.SameStamped.{stamped_answer}

pub document_alike : (p q : ℕ) (G F : List Entry) → IsEntryHistory p G → IsEntryHistory q F
    → HaveSameStamped (stamped_entries G) (stamped_entries F)
    → (x : Question) → reading_of G (OfDocument x) ≡ reading_of F (OfDocument x)
document_alike p q G F g f same x =
    ap Answered (stamped_answer (stamped_entries G) (stamped_entries F) (entries_legal p G g) (λ s. ((same s).1, (same s).0)) x
    ∙ sym (stamped_answer (stamped_entries F) (stamped_entries F) (entries_legal q F f) (λ s. (λ a. a, λ a. a)) x))

filter_passes : {X : Type 0} (test : X → Bool) (xs : List X) (x : X) → IsAmong x (filter test xs) → test x ≡ true
filter_passes test [] x m = absurd m
filter_passes test (y ∷ xs) x m = at_test (filter_passes test xs x) (test y) refl m
  where
    at_test : (IsAmong x (filter test xs) → test x ≡ true) → (b : Bool) → test y ≡ b
        → IsAmong x (cond b (y ∷ filter test xs) (filter test xs)) → test x ≡ true
    at_test rest true e (inl i) = ap test i ∙ e
    at_test rest true e (inr n) = rest n
    at_test rest false e n = rest n

-- an operation of one history that v lacks is missing in the other too, if the other has it
missing_there : (v : Vector) (G F : List Stamped) (s : Stamped) → (IsAmong s G → IsAmong s F) → IsAmong s (missing v G)
    → IsAmong s (missing v F)
missing_there v G F s here a = into_filter (λ t. not (covers v t.id)) F s (here (in_filter (λ t. not (covers v t.id)) G s a))
    (filter_passes (λ t. not (covers v t.id)) G s a)

pub missing_alike : (v : Vector) (G F : List Stamped) → HaveSameStamped G F → HaveSameStamped (missing v G) (missing v F)
missing_alike v G F same s = (missing_there v G F s (same s).0, missing_there v F G s (same s).1)
