-- With the receipt of a bundle the rest of its sender's history is on its way.
use Rattle.std.proofs.Common.{◌≡◌, inl, inr, ℕ, zero, suc, ◌+◌, ◌<◌, ◌≤◌, true, false, cond, ◌&&◌, ◌==◌, nat_le, nat_lt, List, [], ◌∷◌}
use Rattle.std.proofs.Common.{◌++◌, map, reverse, length, Some, refl, sym, ap, ◌∙◌, subst, arith, slice_get}
use Rattle.std.proofs.lemmas.Bool.{and_parts, false_from_ne_true, eqb-true, leb-true}
use Rattle.std.proofs.lemmas.List.{append-nil}
use Rattle.std.proofs.lemmas.Option.{slice_get_cases}
use Rattle.semantics.specs.Operations.{Operation}
use Rattle.semantics.specs.LegalHistory.{IsLegal, IsAmong, has_id}
use Rattle.semantics.specs.NamedIds.{greatest_counter}
use Rattle.semantics.specs.Vectors.{Vector, at, covers}
use Rattle.semantics.specs.Stamped.{Stamped, operations_of, IsLegalStamped}
use Rattle.semantics.specs.Entries.{missing}
use Rattle.semantics.specs.LegalAnswer.{OfPeer, Submitted}
use Rattle.semantics.specs.Replica.{Replica, operations}
use Rattle.semantics.specs.OneWorld.{AreWithin}
use Rattle.semantics.specs.Engine.{Engine}
use Rattle.semantics.specs.WorldHistory.{WasSubmitted}
use Rattle.semantics.proofs.NamedOperations.{meaning_of}
use Rattle.semantics.proofs.UnionExchange.{covered_there}
use Rattle.semantics.proofs.GrowingWorld.{legal_entries}
use Rattle.semantics.proofs.ClientCells.{cell_at-suc, cell_within}
use Rattle.semantics.proofs.MovedTokens.{cell_of}
use Rattle.semantics.proofs.SoundEngines.{IsSound}
use Rattle.semantics.proofs.ItemsInTurn.{queued_waits}
use Rattle.semantics.proofs.TrackedEngines.{IsEngineOf}
use Rattle.semantics.proofs.ComingHistory.{Comes, End, comes_from}
use Rattle.semantics.proofs.ComingItems.{is_of_receipt, awaited, IsComing}
use Rattle.semantics.proofs.ReceivedBundles.{HasReceivedAll}

-- none of these is awaited
pub awaited_after : (c start end : ℕ) (queue more : List Submitted)
    → ((x : Submitted) → IsAmong x queue → is_of_receipt c start end x ≡ false)
    → awaited c start end (queue ++ more) ≡ awaited c start end more
awaited_after c start end [] more none = refl
awaited_after c start end (x ∷ queue) more none =
    ap (λ b. cond b (x.request ∷ awaited c start end (queue ++ more)) (awaited c start end (queue ++ more))) (none x (inl refl))
    ∙ awaited_after c start end queue more (λ y m. none y (inr m))

-- ---- the receipt

module _ (K : List Operation) (lk : IsLegal K) (A G : Engine) (sound : IsSound A) (is : IsEngineOf K A) (v : Vector) (F : List Stamped)
    (l : IsLegalStamped F) (short : length F ≤ 1048576) (w : AreWithin (operations_of F) K) (c serial count : ℕ)
    (r : HasReceivedAll A c (reverse (missing v F)) serial count G)
    (named : (q : ℕ) → at v q ≤ greatest_counter (operations A.replica) q) where
  -- the serials of the receipt
  abbrev pub first_serial : ℕ
  first_serial = suc (length r.client.cells)

  abbrev pub end_serial : ℕ
  end_serial = suc (length r.client.cells) + length (reverse (missing v F))

  same_replica : G.replica ≡ A.replica
  same_replica = sym (ap (λ (X : Engine). X.replica) r.engine) ∙ r.whole.replica

  -- all that was in the queue is of earlier serials
  none_before : (x : Submitted) → IsAmong x A.queue → is_of_receipt c first_serial end_serial x ≡ false
  none_before x m = false_from_ne_true (is_of_receipt c first_serial end_serial x) (λ t.
      let one = and_parts (x.client == c) (nat_le first_serial x.serial && nat_lt x.serial end_serial) t in
      let two = and_parts (nat_le first_serial x.serial) (nat_lt x.serial end_serial) one.1 in
      let there : slice_get A.clients x.client ≡ Some r.client = ap (slice_get A.clients) (eqb-true x.client c one.0) ∙ r.is_client in
      let within : x.serial ≤ length r.client.cells = cell_within r.client.cells x.serial _
      (sym (ap (cell_of x.serial) there) ∙ sound.unanswered x (queued_waits A.due A.handled A.queue x m)) in
      let from : first_serial ≤ x.serial = leb-true first_serial x.serial two.0 in
      absurd (omega arith))

  all_awaited : awaited c first_serial end_serial G.queue ≡ map OfPeer (reverse (missing v F))
  all_awaited =
      ap (awaited c first_serial end_serial) (sym (ap (λ (X : Engine). X.queue) r.engine) ∙ r.whole.queue)
      ∙ awaited_after c first_serial end_serial A.queue r.whole.items none_before
      ∙ r.whole.requests first_serial end_serial (omega arith) (omega arith)

  had : (s : Stamped) → IsAmong s F → covers v s.id ≡ true → has_id (operations A.replica) s.id ≡ true
  had s m e =
      let o = meaning_of F l s m in
      ap (has_id (operations A.replica)) (sym o.1.id)
      ∙ covered_there K lk A.replica v named (legal_entries A.replica is.settled.world.running) is.settled.world.within o.0
      (w o.0 o.1.among) (ap (covers v) o.1.id ∙ e)

  all_come : Comes (operations A.replica) F [] (awaited c first_serial end_serial G.queue)
  all_come = subst (Comes (operations A.replica) F []) (append-nil (map OfPeer (reverse (missing v F))) ∙ sym all_awaited)
      (comes_from (operations A.replica) F v F [] [] had
      (subst (λ (H : List Stamped). Comes (operations A.replica) F H []) (sym (append-nil F)) End))

  used : (n : ℕ) → first_serial ≤ n → n < end_serial → (x : Submitted) × WasSubmitted G c n x
  used zero from below = absurd (omega arith)
  used (suc n) from below = elim (slice_get_cases r.whole.client.cells n).1 [
    | inl x ↦ (x.0.submitted, (x.0, ap (cell_of (suc n)) there ∙ cell_at-suc r.whole.client.cells n ∙ x.2, refl))
    | inr o ↦ (let cells : length r.whole.client.cells ≡ length r.client.cells + length (reverse (missing v F)) = r.whole.cells in
        absurd (omega (arith, o.0)))
  ]
    where
      there : slice_get G.clients c ≡ Some r.whole.client
      there = sym (ap (λ (X : Engine). slice_get X.clients c) r.engine) ∙ r.whole.is_client

  pub receipt_started : IsComing c first_serial end_serial (operations A.replica) F K G
  receipt_started = record {
    legal = l;
    short = short;
    within = w;
    based = λ i t. ap (λ (x : Replica). has_id (operations x) i) same_replica ∙ t;
    there = [];
    came = λ s m. absurd m;
    comes = all_come;
    used = used;
  }
