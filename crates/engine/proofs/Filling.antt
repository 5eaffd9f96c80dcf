-- A batch that is being filled.
use Rattle.std.proofs.Common.{◌≡◌, ◌==◌, ℕ, ◌+◌, Bool, true, false, cond, List, [], ◌∷◌, ◌++◌, length, reverse, refl, sym, ap, ◌∙◌, subst}
use Rattle.std.proofs.Common.{arith, append_assoc}
use Rattle.std.proofs.lemmas.List.{append-nil, map-append, reverse-append}
use Rattle.semantics.specs.Entries.{Entry, IsAbove}
use Rattle.semantics.specs.LegalAnswer.{Submitted}
use Rattle.semantics.specs.Replica.{IsRunning}
use Rattle.semantics.specs.Engine.{Handled}
use Rattle.semantics.specs.PeerAnswers.{IsAnswerWith}
use Rattle.semantics.specs.Handling.{Handler, Handles}
use Rattle.semantics.specs.Batches.{ComeFrom, AreAnswers, IsBatch, items_of}
use Rattle.semantics.specs.WorldHistory.{of_client}
use Rattle.semantics.proofs.HandledBatches.{next_above, no_batch, one_more, answers_snoc}
use Rattle.replica.specs.operation.declared.submission.Submission.{Submission}
use Rattle.replica.specs.operation.Submissions.{submitted_of}
use Rattle.command.specs.InOrder.{of}
use Rattle.engine.specs.WriterSteps.{submitted_in}

-- from w on, when `before` was taken, these submissions were handled; now `got` was taken
pub record IsFilling (w : Handler) (before : List Submission) (hs : List Handled) (v : Handler)
    (got : List Submission) : Type 0 where
  pub batch : IsBatch w (submitted_in before) hs v
  pub items : List Submission
  pub took : got ≡ before ++ items
  pub same : items_of hs ≡ submitted_in items

pub filling_none : (w : Handler) (before : List Submission) (hs : List Handled) → length hs ≡ 0 → IsRunning w.replica
    → ComeFrom (submitted_in before) w.replica.entries → IsFilling w before hs w before
filling_none w before [] e run st = record {
  batch = no_batch w (submitted_in before) run st;
  items = [];
  took = sym (append-nil before);
  same = refl;
}
filling_none w before (h ∷ hs) e run st = absurd (omega (arith, e))

of_length : (c : ℕ) (xs : List Submission) → length (of_client c (submitted_in xs)) ≡ length (of c xs)
of_length c [] = refl
of_length c (x ∷ xs) = by (x.client == c) (of_length c xs)
  where
    by : (b : Bool) → length (of_client c (submitted_in xs)) ≡ length (of c xs)
        → length (cond b (submitted_of x ∷ of_client c (submitted_in xs)) (of_client c (submitted_in xs)))
        ≡ length (cond b (x ∷ of c xs) (of c xs))
    by true e = omega (arith, e)
    by false e = e

module _ (w : Handler) (before : List Submission) (hs : List Handled) (v : Handler) (got : List Submission)
    (f : IsFilling w before hs v got) (x : Submission) (number : x.serial ≡ length (of x.client got) + 1) where
  all : submitted_in got ≡ submitted_in before ++ items_of hs
  all = ap submitted_in f.took ∙ map-append submitted_of before f.items
      ∙ ap (λ (l : List Submitted). submitted_in before ++ l) (sym f.same)

  numbered : x.serial ≡ length (of_client x.client (submitted_in got)) + 1
  numbered = omega (arith, number, of_length x.client got)

  -- its serial is above those of its client in the history
  pub is_above : IsAbove x.client x.serial v.replica.entries
  is_above = next_above (submitted_of x) (submitted_in got) v.replica.entries
      (subst (λ (l : List Submitted). ComeFrom l v.replica.entries) (sym all) f.batch.come_from) numbered

  -- it is handled next
  pub filling_next : (h : Handled) (u : Handler) (next : List Submission) (more : List Handled) → next ≡ got ++ x ∷ [] → more ≡ hs ++ h ∷ []
      → h.submitted ≡ submitted_of x → Handles v (submitted_of x) h.reply u
      → IsFilling w before more u next
  filling_next h u next more taken grown is k =
      let whole : IsBatch w (submitted_in before) (hs ++ h ∷ []) u =
      one_more w v u (submitted_in before) (submitted_in got) hs h f.batch all
      (subst (λ (s : Submitted). s.serial ≡ length (of_client s.client (submitted_in got)) + 1) (sym is) numbered)
      (subst (λ (s : Submitted). Handles v s h.reply u) (sym is) k) in record {
        batch = subst (λ (l : List Handled). IsBatch w (submitted_in before) l u) (sym grown) whole;
        items = f.items ++ x ∷ [];
        took = taken ∙ ap (λ (l : List Submission). l ++ x ∷ []) f.took ∙ append_assoc before f.items (x ∷ []);
        same = ap items_of grown ∙ items-snoc hs h ∙ ap (λ (l : List Submitted). l ++ h.submitted ∷ []) f.same
            ∙ ap (λ (s : Submitted). submitted_in f.items ++ s ∷ []) is ∙ sym (map-append submitted_of f.items (x ∷ []));
      }
    where
      items-snoc : (gs : List Handled) (g : Handled) → items_of (gs ++ g ∷ []) ≡ items_of gs ++ g.submitted ∷ []
      items-snoc gs g = map-append (λ (z : Handled). z.submitted) gs (g ∷ [])

-- ---- giving

answers_front : (p : ℕ) (ps : List ℕ) (G : List Entry) (hs : List Handled) (h : Handled) → AreAnswers p ps G (hs ++ h ∷ [])
    → AreAnswers p ps G hs
answers_front p ps G [] h a = tt
answers_front p ps G (g ∷ hs) h a = (a.0, answers_front p ps G hs h a.1)

answers_last : (p : ℕ) (ps : List ℕ) (G : List Entry) (hs : List Handled) (h : Handled) → AreAnswers p ps G (hs ++ h ∷ [])
    → IsAnswerWith p ps G h.submitted h.reply
answers_last p ps G [] h a = a.0
answers_last p ps G (g ∷ hs) h a = answers_last p ps G hs h a.1

pub answers_pop : (p : ℕ) (ps : List ℕ) (G : List Entry) (whole rest : List Handled) (h : Handled) → whole ≡ rest ++ h ∷ []
    → AreAnswers p ps G whole → AreAnswers p ps G rest × IsAnswerWith p ps G h.submitted h.reply
answers_pop p ps G whole rest h is a =
    let k = subst (λ (l : List Handled). AreAnswers p ps G l) is a in (answers_front p ps G rest h k, answers_last p ps G rest h k)

-- in reverse order they are answers too
pub answers_reversed : (p : ℕ) (ps : List ℕ) (G : List Entry) (hs : List Handled) → AreAnswers p ps G hs → AreAnswers p ps G (reverse hs)
answers_reversed p ps G [] a = tt
answers_reversed p ps G (h ∷ hs) a = subst (λ (l : List Handled). AreAnswers p ps G l) (sym (reverse-append (h ∷ []) hs))
    (answers_snoc p ps G (reverse hs) h (answers_reversed p ps G hs a.1) a.0)
