-- What the steps of an engine do to its replica and its queue: nothing, an item more that was submitted, or one less that was handled.
use Rattle.std.proofs.Common.{◌≡◌, inl, ℕ, suc, Bool, true, false, ◌||◌, not, nat_le, List, [], ◌∷◌, ◌++◌, length, Option, Some, None, refl}
use Rattle.std.proofs.Common.{subst, slice_get}
use Rattle.semantics.specs.LegalHistory.{IsAmong}
use Rattle.semantics.specs.DocumentAnswer.{is_any}
use Rattle.semantics.specs.LegalAnswer.{Request, Submitted}
use Rattle.semantics.specs.Engine.{Engine, Client, Cell, Given, Handled}
use Rattle.semantics.specs.WriteSteps.{next_submission, submit, push, after_submission, reply_to, take_oldest, take_submission, publish}
use Rattle.semantics.specs.WriteSteps.{give_oldest, give}
use Rattle.semantics.specs.ReadSteps.{cell_at, cell_under, poll_cell, poll, see, learn}
use Rattle.semantics.proofs.SoundEngines.{IsSound, IsLater}
use Rattle.semantics.proofs.ItemsInTurn.{among_right}
use Rattle.semantics.proofs.SoundSubmitting.{pushed}
use Rattle.semantics.proofs.SoundTaking.{took}

-- F has the replica and the queue of E
abbrev pub IsStill : Engine → Engine → Type 0
IsStill E F = (F.replica ≡ E.replica) × (F.queue ≡ E.queue)

-- F is E after x was submitted
pub record HasSubmitted (E F : Engine) (x : Submitted) : Type 0 where
  pub later : IsLater E F
  pub replica : F.replica ≡ E.replica
  pub queue : F.queue ≡ E.queue ++ x ∷ []
  pub next : (k : Client) → slice_get E.clients x.client ≡ Some k → x.serial ≡ suc (length k.cells)

-- F is E after the oldest item x was handled, with this reply
pub record HasTaken (E F : Engine) (x : Submitted) : Type 0 where
  pub later : IsLater E F
  pub oldest : E.queue ≡ x ∷ F.queue
  pub replica : F.replica ≡ after_submission E.replica x
  pub replied : IsAmong (record { submitted = x; reply = reply_to E.replica x }) F.handled

-- A claim about an engine that is kept as it goes on, where P holds of what is submitted.
pub record IsKeptOn (P : Request → Type 0) (Claim : Engine → Type 0) : Type 0 where
  pub still : (E F : Engine) → IsLater E F → IsStill E F → Claim E → Claim F
  pub submitted : (E F : Engine) (x : Submitted) → IsSound E → HasSubmitted E F x → P x.request → Claim E → Claim F
  pub taken : (E F : Engine) (x : Submitted) → IsSound E → HasTaken E F x → Claim E → Claim F

-- ---- steps that leave both

pub still_seen : (E : Engine) (t m : ℕ) → IsStill E (see E t m)
still_seen E t m = at_client (slice_get E.clients t) refl
  where
    at_client : (o : Option Client) → slice_get E.clients t ≡ o → IsStill E (see E t m)
    at_client None e = rw e (refl, refl)
    at_client (Some k) e = rw e (refl, refl)

pub still_polled : (E : Engine) (c serial : ℕ) → IsStill E (poll E c serial).engine
still_polled E c serial = at_client (slice_get E.clients c) refl
  where
    at_answer : (k : Client) (cell : Cell) (o : Option Given) → cell.answer ≡ o → IsStill E (poll_cell E c k (Some cell)).engine
    at_answer k cell None e = rw e (refl, refl)
    at_answer k cell (Some g) e = rw e (refl, refl)

    at_cell : (k : Client) (o : Option Cell) → IsStill E (poll_cell E c k o).engine
    at_cell k None = (refl, refl)
    at_cell k (Some cell) = at_answer k cell cell.answer refl

    at_client : (o : Option Client) → slice_get E.clients c ≡ o → IsStill E (poll E c serial).engine
    at_client None e = rw e (refl, refl)
    at_client (Some k) e = rw e (at_cell k (cell_at k.cells serial))

pub still_learnt : (E : Engine) (t c serial : ℕ) → IsStill E (learn E t c serial).engine
still_learnt E t c serial = at_cell (cell_under E c serial) refl
  where
    at_answer : (cell : Cell) → cell_under E c serial ≡ Some cell → (o : Option Given) → cell.answer ≡ o
        → IsStill E (learn E t c serial).engine
    at_answer cell e None f = rw (e, f) (refl, refl)
    at_answer cell e (Some g) f = rw (e, f) (still_seen E t _)

    at_cell : (o : Option Cell) → cell_under E c serial ≡ o → IsStill E (learn E t c serial).engine
    at_cell None e = rw e (refl, refl)
    at_cell (Some cell) e = at_answer cell e cell.answer refl

pub still_published : (E : Engine) → IsStill E (publish E).engine
still_published E = at_test (is_any E.due || not (is_any E.handled)) refl
  where
    at_test : (b : Bool) → (is_any E.due || not (is_any E.handled)) ≡ b → IsStill E (publish E).engine
    at_test true e = rw e (refl, refl)
    at_test false e = rw e (refl, refl)

pub still_given : (E : Engine) → IsStill E (give E).engine
still_given E = at_due E.due
  where
    at_due : (due : List Handled) → IsStill E (give_oldest E due).engine
    at_due [] = (refl, refl)
    at_due (h ∷ due) = (refl, refl)

-- ---- steps that move an item

module _ (P : Request → Type 0) (Claim : Engine → Type 0) (kept : IsKeptOn P Claim) where
  pub kept_by_push : (E : Engine) (c : ℕ) (request : Request) → IsSound E → P request → Claim E → Claim (push E c request).engine
  kept_by_push E c request s p h = at_client (slice_get E.clients c) refl
    where
      at_room : (k : Client) → slice_get E.clients c ≡ Some k → IsLater E (submit E c k (next_submission c k request)).engine → (a b : Bool)
          → nat_le E.serials (length k.cells) ≡ a → nat_le E.capacity (length E.queue) ≡ b
          → Claim (submit E c k (next_submission c k request)).engine
      at_room k is l true b e f = rw e h
      at_room k is l false true e f = rw (e, f) h
      at_room k is l false false e f =
          let after = rw (e, f) at l in
          rw (e, f)
          (kept.submitted E _ (next_submission c k request) s
          (record { later = after; replica = refl; queue = refl; next = λ j q. cc }) p h)

      at_client : (o : Option Client) → slice_get E.clients c ≡ o → Claim (push E c request).engine
      at_client None e = rw e h
      at_client (Some k) e = rw e
          (at_room k e (rw e at (pushed E c request s)) (nat_le E.serials (length k.cells)) (nat_le E.capacity (length E.queue)) refl refl)

  pub kept_by_take : (E : Engine) → IsSound E → Claim E → Claim (take_submission E).engine
  kept_by_take E s h = at_queue E.queue refl
    where
      at_test : (x : Submitted) (queue : List Submitted) → E.queue ≡ x ∷ queue → (b : Bool)
          → (is_any E.due || nat_le E.batch (length E.handled)) ≡ b → IsLater E (take_oldest E (x ∷ queue)).engine
          → Claim (take_oldest E (x ∷ queue)).engine
      at_test x queue e true f l = rw f h
      at_test x queue e false f l =
          let after = rw f at l in
          rw f
          (kept.taken E _ x s
          (record { later = after; oldest = e; replica = refl; replied = among_right E.handled (_ ∷ []) _ (inl refl) }) h)

      at_queue : (q : List Submitted) → E.queue ≡ q → Claim (take_oldest E q).engine
      at_queue [] e = h
      at_queue (x ∷ queue) e = at_test x queue e (is_any E.due || nat_le E.batch (length E.handled)) refl
          (subst (λ (q : List Submitted). IsLater E (take_oldest E q).engine) e (took E s))
