-- Each own entry in the history of a closed engine was submitted by its client.
use Rattle.std.proofs.Common.{◌≡◌, ◌==◌, ℕ, ◌-◌, Bool, true, false, cond, Some, List, [], ◌∷◌, ◌++◌, length, refl}
use Rattle.std.proofs.Common.{sym, ap, ◌∙◌, subst}
use Rattle.std.proofs.lemmas.List.{map-append}
use Rattle.semantics.specs.Making.{Command}
use Rattle.semantics.specs.Stamped.{Stamped}
use Rattle.semantics.specs.Entries.{Entry, Own, Peer, entry_at}
use Rattle.semantics.specs.LegalAnswer.{Submitted}
use Rattle.semantics.specs.WorldHistory.{BeginsWith, of_client}
use Rattle.semantics.specs.Batches.{AsksFor, ComeFrom}
use Rattle.semantics.proofs.Beginnings.{entry_in_longer}
use Rattle.semantics.proofs.HandledBatches.{of-append, get_longer}
use Rattle.replica.specs.operation.declared.submission.Submission.{Submission}
use Rattle.replica.specs.operation.Submissions.{submitted_of}
use Rattle.command.specs.InOrder.{of}
use Rattle.engine.specs.WriterSteps.{submitted_in}

-- what one client submitted, in order
submitted_of_client : (c : ℕ) (xs : List Submission) → of_client c (submitted_in xs) ≡ submitted_in (of c xs)
submitted_of_client c [] = refl
submitted_of_client c (x ∷ xs) = by (x.client == c) (submitted_of_client c xs)
  where
    by : (b : Bool) → of_client c (submitted_in xs) ≡ submitted_in (of c xs)
        → cond b (submitted_of x ∷ of_client c (submitted_in xs)) (of_client c (submitted_in xs))
        ≡ submitted_in (cond b (x ∷ of c xs) (of c xs))
    by true e = ap (λ (l : List Submitted). submitted_of x ∷ l) e
    by false e = e

-- an own entry of the history is of a command that was taken
asked_at : (took : List Submitted) (G : List Entry) (n k serial : ℕ) (c : Command) (s : Stamped) → ComeFrom took G
    → entry_at n G ≡ Some (Own k serial c s) → AsksFor (of_client k took) serial c
asked_at took [] n k serial c s h at = absurd cc
asked_at took (e ∷ G) n k serial c s h at = by (length G == n) (λ is. asked_at took G n k serial c s (of_rest e h) is) at
  where
    of_newest : (f : Entry) → ComeFrom took (f ∷ G) → f ≡ Own k serial c s → AsksFor (of_client k took) serial c
    of_newest f h is = (subst (λ (z : Entry). ComeFrom took (z ∷ G)) is h).0

    of_rest : (f : Entry) → ComeFrom took (f ∷ G) → ComeFrom took G
    of_rest (Own i m d t) h = h.1
    of_rest (Peer t) h = h

    by : (b : Bool) → (entry_at n G ≡ Some (Own k serial c s) → AsksFor (of_client k took) serial c)
        → cond b (Some e) (entry_at n G) ≡ Some (Own k serial c s) → AsksFor (of_client k took) serial c
    by true rest is = of_newest e h cc
    by false rest is = rest is

-- what was taken of the client, and what is still queued, is all that it submitted
pub own_submitted : (took queued mine : List Submission) (P A : List Entry) (n k serial : ℕ) (c : Command) (s : Stamped)
    → ComeFrom (submitted_in took) A → BeginsWith A P → of k (took ++ queued) ≡ mine
    → entry_at n P ≡ Some (Own k serial c s) → AsksFor (submitted_in mine) serial c
own_submitted took queued mine P A n k serial c s from begins all at =
    let asked = asked_at (submitted_in took) A n k serial c s from
    (subst (λ (G : List Entry). entry_at n G ≡ Some (Own k serial c s)) (sym begins.1)
    (entry_in_longer n begins.0 P (Own k serial c s) at)) in
    let whole : of_client k (submitted_in took) ++ of_client k (submitted_in queued) ≡ submitted_in mine =
    sym (of-append k (submitted_in took) (submitted_in queued))
    ∙ ap (of_client k) (sym (map-append submitted_of took queued)) ∙ submitted_of_client k (took ++ queued)
    ∙ ap submitted_in all in
    subst (λ (l : List Submitted). AsksFor l serial c) whole (
      asked.0,
      asked.1,
      get_longer (of_client k (submitted_in took)) (of_client k (submitted_in queued))
          (serial - 1) asked.0 asked.2,
      asked.3,
    )
