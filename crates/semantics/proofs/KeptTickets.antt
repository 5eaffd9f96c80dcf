-- What got a ticket, and what was counted as received, stands in its client's cell, and stays there.
use Rattle.std.proofs.Common.{◌≡◌, inl, inr, ℕ, zero, suc, ◌+◌, ◌<◌, Bool, true, false, cond, ◌==◌, nat_le, List, [], ◌∷◌, ◌++◌, length}
use Rattle.std.proofs.Common.{Option, Some, None, refl, sym, ap, ◌∙◌, subst, arith, slice_get}
use Rattle.std.proofs.lemmas.Bool.{ne_eqb}
use Rattle.std.proofs.lemmas.List.{length-append}
use Rattle.ids.specs.Configurations.{Configuration}
use Rattle.ids.specs.declared.refusal.Refusal.{Refusal}
use Rattle.semantics.specs.Stamped.{Stamped}
use Rattle.semantics.specs.Making.{Command}
use Rattle.semantics.specs.LegalAnswer.{Request, OfCommand, OfPeer, Submitted}
use Rattle.semantics.specs.Engine.{Engine, Client, Ticket, Received}
use Rattle.semantics.specs.WriteSteps.{next_submission, with_cell, submit, push}
use Rattle.semantics.specs.PeerSteps.{Receipt, unless_refused, submit_all, receive_lines}
use Rattle.semantics.specs.World.{World, WorldStep, Push, opened, world_step, world_after, step_by}
use Rattle.semantics.specs.WorldHistory.{IsEngineAfter, WasSubmitted}
use Rattle.semantics.proofs.SetElements.{get-set_same}
use Rattle.semantics.proofs.ClientCells.{newest_cell}
use Rattle.semantics.proofs.MovedTokens.{with_client, cell_of}
use Rattle.semantics.proofs.SoundEngines.{open_cell, IsSound}
use Rattle.semantics.proofs.SoundSubmitting.{pushed}
use Rattle.semantics.proofs.SoundReceiving.{submitted_all}
use Rattle.semantics.proofs.SoundWorlds.{sound_opened, sound_after, sound_step, grown_after, after_more}
use Rattle.semantics.proofs.WholeSubmissions.{IsPushed, pushed_cases}

-- the engine after the client submitted a request
abbrev with_request : Engine → ℕ → Client → Request → Engine
with_request E c k request = with_client E (E.queue ++ next_submission c k request ∷ []) E.due c (with_cell k (next_submission c k request))

now_submitted : (E : Engine) (c : ℕ) (k : Client) (request : Request) → slice_get E.clients c ≡ Some k
    → WasSubmitted (with_request E c k request) c (suc (length k.cells)) (next_submission c k request)
now_submitted E c k request there = (
  open_cell (next_submission c k request),
  ap (cell_of (suc (length k.cells))) (get-set_same E.clients c k (with_cell k (next_submission c k request)) there)
      ∙ newest_cell k.cells (open_cell (next_submission c k request)),
  refl,
)

-- ---- a ticket

-- what a ticket is for
abbrev IsTicketed : Client → ℕ → Request → ℕ → Engine → Type 0
IsTicketed k c request serial F = (serial ≡ suc (length k.cells)) × WasSubmitted F c serial (next_submission c k request)

pub ticketed : (E : Engine) (c : ℕ) (request : Request) (serial : ℕ) → (push E c request).reply ≡ Ticket serial
    → (k : Client) × (slice_get E.clients c ≡ Some k) × (serial ≡ suc (length k.cells))
    × WasSubmitted (push E c request).engine c serial (next_submission c k request)
ticketed E c request serial h = at_client (slice_get E.clients c) refl
  where
    at_room : (k : Client) → slice_get E.clients c ≡ Some k → (a b : Bool) → nat_le E.serials (length k.cells) ≡ a
        → nat_le E.capacity (length E.queue) ≡ b
        → (submit E c k (next_submission c k request)).reply ≡ Ticket serial
        → IsTicketed k c request serial (submit E c k (next_submission c k request)).engine
    at_room k there true b e f r = (let z = rw e at r in cc)
    at_room k there false true e f r = (let z = rw (e, f) at r in cc)
    at_room k there false false e f r =
        let given : Ticket (suc (length k.cells)) ≡ Ticket serial = rw (e, f) at r in
        let is : suc (length k.cells) ≡ serial = cc in
        let now = subst (λ n. WasSubmitted (with_request E c k request) c n (next_submission c k request)) is
        (now_submitted E c k request there) in
        rw (e, f) (sym is, now)

    at_found : (k : Client) → slice_get E.clients c ≡ Some k → IsTicketed k c request serial (push E c request).engine
    at_found k e = rw e (at_room k e (nat_le E.serials (length k.cells)) (nat_le E.capacity (length E.queue)) refl refl (rw e at h))

    at_client : (o : Option Client) → slice_get E.clients c ≡ o
        → (k : Client) × (slice_get E.clients c ≡ Some k) × (serial ≡ suc (length k.cells))
        × WasSubmitted (push E c request).engine c serial (next_submission c k request)
    at_client None e = (let z = rw e at h in cc)
    at_client (Some k) e = (let t = at_found k e in (k, e, t.0, t.1))

-- What got a ticket at a step of a run stays under its serial in all that follows.
pub ticket_kept : (cs : List Configuration) (steps more : List WorldStep) (e c : ℕ) (command : Command) (serial : ℕ) (E F : Engine)
    → IsEngineAfter cs steps e E → (push E c (OfCommand command)).reply ≡ Ticket serial
    → IsEngineAfter cs (steps ++ step_by e (Push c command) ∷ more) e F
    → (k : Client) × (slice_get E.clients c ≡ Some k) × WasSubmitted F c serial (next_submission c k (OfCommand command))
ticket_kept cs steps more e c command serial E F there ticket later =
    let W : World = world_after (opened cs) steps in
    let t = ticketed E c (OfCommand command) serial ticket in
    let G : Engine = (push E c (OfCommand command)).engine in
    let after : slice_get (world_step W (step_by e (Push c command))).world.engines e
    ≡ Some G = rw there (get-set_same W.engines e E G there) in
    let sound = sound_step W (step_by e (Push c command)) (sound_after (opened cs) steps (sound_opened cs)) in
    let grown = grown_after (world_step W (step_by e (Push c command))).world more sound e G F after
    (subst (λ (X : World). slice_get X.engines e ≡ Some F) (after_more (opened cs) steps (step_by e (Push c command) ∷ more)) later) in
    (t.0, t.1, grown.submitted c serial (next_submission c t.0 (OfCommand command)) t.3)

-- ---- a receipt

-- operation i of these was submitted under serial i after the first, when the token had seen this many entries
abbrev IsSubmittedAt : Engine → ℕ → ℕ → ℕ → List Stamped → ℕ → Type 0
IsSubmittedAt F c first seen ss i =
    (s : Stamped) × (slice_get ss i ≡ Some s)
    × WasSubmitted F c (first + i) (record { client = c; serial = first + i; request = OfPeer s; floor = seen })

under_serial : (F : Engine) (c m n seen : ℕ) (s : Stamped) → m ≡ n
    → WasSubmitted F c m (record { client = c; serial = m; request = OfPeer s; floor = seen })
    → WasSubmitted F c n (record { client = c; serial = n; request = OfPeer s; floor = seen })
under_serial F c m n seen s e w = subst (λ i. WasSubmitted F c i (record { client = c; serial = i; request = OfPeer s; floor = seen })) e w

module _ (E : Engine) (c : ℕ) (k : Client) (bad : Option Refusal) (n : ℕ) (s : Stamped) (ss : List Stamped)
    (sound : IsSound E) (there : slice_get E.clients c ≡ Some k) where
  abbrev item : Submitted
  item = next_submission c k (OfPeer s)

  abbrev after : Engine
  after = with_request E c k (OfPeer s)

  abbrev rest : Engine → Receipt
  rest F = submit_all c bad (suc n) F ss

  one_more : length (with_cell k item).cells ≡ suc (length k.cells)
  one_more = (let m = length-append k.cells (open_cell item ∷ []) in omega (arith, m))

  -- the rest are submitted after it
  abbrev AreSubmittedAfter : Type 0
  AreSubmittedAfter = (i : ℕ) → IsSound after → slice_get after.clients c ≡ Some (with_cell k item) → suc n + i < (rest after).submitted
      → IsSubmittedAt (rest after).engine c (suc (length (with_cell k item).cells)) k.seen ss i

  at_index : AreSubmittedAfter → IsSound after → (i : ℕ) → n + i < (rest after).submitted
      → IsSubmittedAt (rest after).engine c (suc (length k.cells)) k.seen (s ∷ ss) i
  at_index later sound_after zero l = (
    s,
    refl,
    (let grown = (submitted_all c bad (suc n) after ss sound_after).grown in
        under_serial (rest after).engine c (suc (length k.cells)) (suc (length k.cells) + 0) k.seen s (omega arith)
        (grown.submitted c (suc (length k.cells)) item (now_submitted E c k (OfPeer s) there))),
  )
  at_index later sound_after (suc i) l =
      let x = later i sound_after (get-set_same E.clients c k (with_cell k item) there) (omega (arith, l)) in
      let same : suc (length (with_cell k item).cells) + i ≡ suc (length k.cells) + suc i = omega (arith, one_more) in (
        x.0,
        x.1,
        under_serial (rest after).engine c (suc (length (with_cell k item).cells) + i)
            (suc (length k.cells) + suc i) k.seen x.0 same x.2,
      )

  at_push : AreSubmittedAfter → IsPushed E c k s (push E c (OfPeer s)) → (i : ℕ) → n + i < (submit_all c bad n E (s ∷ ss)).submitted
      → IsSubmittedAt (submit_all c bad n E (s ∷ ss)).engine c (suc (length k.cells)) k.seen (s ∷ ss) i
  at_push later (inl r) i l = (let refused = rw r.1 at l in absurd (omega (arith, refused)))
  at_push later (inr p) i l =
      let same : submit_all c bad n E (s ∷ ss) ≡ rest after =
      ap (λ o. unless_refused E n o (rest (push E c (OfPeer s)).engine)) p.1 ∙ ap rest p.0 in
      subst (λ (q : Receipt). IsSubmittedAt q.engine c (suc (length k.cells)) k.seen (s ∷ ss) i) (sym same)
      (at_index later (subst IsSound p.0 (pushed E c (OfPeer s) sound).sound) i (omega (arith, l, ap (λ (q : Receipt). q.submitted) same)))

submitted_at : (c : ℕ) (bad : Option Refusal) (n : ℕ) (E : Engine) (k : Client) (ss : List Stamped) → IsSound E
    → slice_get E.clients c ≡ Some k → (i : ℕ) → n + i < (submit_all c bad n E ss).submitted
    → IsSubmittedAt (submit_all c bad n E ss).engine c (suc (length k.cells)) k.seen ss i
submitted_at c bad n E k [] sound there = λ i l. absurd (omega (arith, l))
submitted_at c bad n E k (s ∷ ss) sound there =
    at_push E c k bad n s ss sound there
    (λ i after is l. submitted_at c bad (suc n) (with_request E c k (OfPeer s))
    (with_cell k (next_submission c k (OfPeer s))) ss after is i l)
    (pushed_cases E c k s there)

-- it was, where the client had the token
abbrev WasReceivedAt : Engine → Engine → ℕ → ℕ → List Stamped → ℕ → Type 0
WasReceivedAt E F c first ss i =
    (k : Client) × (s : Stamped) × (slice_get E.clients c ≡ Some k) × (slice_get ss i ≡ Some s)
    × WasSubmitted F c (first + i) (record { client = c; serial = first + i; request = OfPeer s; floor = k.seen })

-- What a client received was submitted in order, as many operations as the reply counts.
pub received_submitted : (E : Engine) → IsSound E
    → (c first n : ℕ) (ss : List Stamped) (bad : Option Refusal) (stop : Option (ℕ × Refusal))
    → (receive_lines E c ss bad).reply ≡ Received first n stop → (i : ℕ) → i < n
    → WasReceivedAt E (receive_lines E c ss bad).engine c first ss i
received_submitted E sound c first n ss bad stop h i l = at_client (slice_get E.clients c) refl
  where
    at_client : (o : Option Client) → slice_get E.clients c ≡ o
        → WasReceivedAt E (receive_lines E c ss bad).engine c first ss i
    at_client None e = (let z = rw e at h in cc)
    at_client (Some k) e =
        let r : Receipt = submit_all c bad 0 E ss in
        let reply : Received (cond (r.submitted == 0) 0 (suc (length k.cells))) r.submitted r.stopped ≡ Received first n stop = rw e at h in
        let count : r.submitted ≡ n = cc in
        let start : cond (r.submitted == 0) 0 (suc (length k.cells)) ≡ first = cc in
        let some : (r.submitted == 0) ≡ false = ne_eqb r.submitted 0 (λ z. absurd (omega (arith, z, count, l))) in
        let is : suc (length k.cells) ≡ first = sym (ap (λ b. cond b 0 (suc (length k.cells))) some) ∙ start in
        let x = submitted_at c bad 0 E k ss sound e i (omega (arith, l, count)) in
        (k, x.0, e, x.1, rw e (under_serial r.engine c (suc (length k.cells) + i) (first + i) k.seen x.0 (ap (λ m. m + i) is) x.2))
