-- What the delivery of a peer's operation and the drain after it leave.
use Rattle.std.proofs.Common.{◌≡◌, inl, inr, ℕ, ◌≤◌, Bool, true, false, nat_lt, length, Result, Ok, Err, is_err, refl, sym, ap, ◌∙◌}
use Rattle.std.specs.Prelude.{OnOk}
use Rattle.std.proofs.lemmas.Bool.{le-ltb}
use Rattle.semantics.specs.Stamped.{Stamped}
use Rattle.semantics.specs.LegalAnswer.{Request, OfPeer, Submitted, Reply}
use Rattle.semantics.specs.Replica.{Replica}
use Rattle.semantics.specs.Delivery.{Delivered, answer_to, deliver}
use Rattle.semantics.specs.Drain.{counted, drain, drain_for}
use Rattle.semantics.specs.WriteSteps.{after_submission, after_request, reply_to, reply_requested, reply_delivered}
use Rattle.semantics.specs.Handling.{Handler, Handles, still_behind}

within_floor : (r : Replica) (x : Submitted) (q : Request) → nat_lt (length r.entries) x.floor ≡ false → x.request ≡ q
    → (after_submission r x ≡ after_request r x q) × (reply_to r x ≡ reply_requested r q)
within_floor r x q e f = rw (e, f) (refl, refl)

-- a delivery that is handled leaves no drain behind
not_behind : (w : Handler) (x : Submitted) (s : Stamped) → nat_lt (length w.replica.entries) x.floor ≡ false → x.request ≡ OfPeer s
    → still_behind w x ≡ false
not_behind w x s e f = rw (e, f) refl

module _ (w : Handler) (x : Submitted) (s : Stamped) (a : Delivered) (m q : Replica) (y : Reply) (is : x.request ≡ OfPeer s)
    (floor : x.floor ≤ length w.replica.entries) (answer : answer_to w.replica s ≡ a) (kept : m ≡ deliver w.replica s)
    (reply : y ≡ reply_delivered (length q.entries) a) where
  test : nat_lt (length w.replica.entries) x.floor ≡ false
  test = le-ltb (length w.replica.entries) x.floor floor

  done : q ≡ counted (drain m) → (late : Bool) → late ≡ false → Handles w x y (record { replica = q; behind = late })
  done e late l =
      let f = within_floor w.replica x (OfPeer s) test is in
      let whole : q ≡ counted (drain (deliver w.replica s)) = e ∙ ap (λ (r : Replica). counted (drain r)) kept in
      inl (record {
        reply = reply ∙ ap (λ (r : Replica). reply_delivered (length r.entries) a) whole
            ∙ ap (reply_delivered (length (drain (deliver w.replica s)).entries)) (sym answer) ∙ sym f.1;
        replica = whole ∙ sym f.0;
        behind = l ∙ sym (not_behind w x s test is);
      })

  cut : (n : ℕ) → q ≡ counted (drain_for n m) → (late : Bool) → late ≡ true → Handles w x y (record { replica = q; behind = late })
  cut n e late l = inr (inr (record {
    stamped = s;
    request = is;
    floor = floor;
    replica = (n, e ∙ ap (λ (r : Replica). counted (drain_for n r)) kept);
    reply = reply ∙ ap (reply_delivered (length q.entries)) (sym answer);
    behind = l;
  }))

  pub handled_peer : {X E : Type 0} (d : Result X E) → OnOk d (q ≡ counted (drain m)) → ((n : ℕ) × (q ≡ counted (drain_for n m)))
      → (late : Bool) → late ≡ is_err d → Handles w x y (record { replica = q; behind = late })
  handled_peer (Ok u) drained partly late l = done drained late l
  handled_peer (Err why) drained partly late l = cut partly.0 partly.1 late l
