use Rattle.std.proofs.Common.{◌≡◌, ◌≤◌, ℕ, ◌+◌, ◌==◌, cond, length, drop, List, inl, inr, refl, sym, ap, ◌∙◌, subst, arith}
use Rattle.semantics.specs.Vectors.{Vector}
use Rattle.engine.specs.Clients.{Client}
use Rattle.wire.specs.Bundles.{readable}
use Rattle.peer_sync.specs.Receiving.{GoesOn}
use Rattle.peer_sync.specs.declared.receiving.Received.{Received}
use Rattle.peer_sync.proofs.Submissions.{HasSubmitted, first_serial-next, goes_on, kept_after, stops, stops-end, submitted-more}
use Rattle.peer_sync.proofs.Submissions.{submitted-none}
use Rattle.peer_sync.proofs.TakenLines.{HasTaken, left_is, taken-more, taken-none}
use Rattle.peer_sync.proofs.receiving.receive_on.Goals as goal

pub loop-line-preserved : goal.loop-line-preserved
loop-line-preserved g c =
    let before : Client = c.args.client.now in
    let text = c.args.bundle.now in
    let start = c.args.reader.now in
    let d : Client = c.loop-line.client in
    let e : Client = c.submit_line.new.client in
    let n : ℕ = c.loop-line.received.submitted in
    let ok = c.in-Ok.ensures.ok in
    let counted : c.count.new.self.submitted ≡ n + 1 = ap (λ (r : Received). r.submitted) c.count.ensures in
    let first : c.count.new.self.first_serial
    ≡ cond (n == 0) c.in-Ok.ticket.serial c.loop-line.received.first_serial = ap (λ (r : Received). r.first_serial) c.count.ensures in
    let kept : length d.kept
    ≡ length before.kept + n = kept_after before start text d c.loop-line.reader c.loop-line.lines.rest.now n c.loop-line.invariant.sent in
    let serial : c.in-Ok.ticket.serial ≡ length before.kept + n + 1 = omega (arith, ok.4, kept) in
    let base = c.submit_line.new.reader in
    let more : c.count.new.self.bytes ≡ c.loop-line.received.bytes + (length c.in-Some.line.text.now + 1) =
    ap (λ (r : Received). r.bytes) c.count.ensures in
    record {
      taken = omega (arith, c.in-Some.ensures.number.0, c.in-Some.ensures.number.1, c.loop-line.invariant.taken, counted);
      sent = subst (λ m. HasSubmitted before start text e base c.take_line.new.self.rest.now m) (sym counted)
          (subst (λ v. HasSubmitted before start text e v c.take_line.new.self.rest.now (n + 1)) (sym ok.2)
          (submitted-more before start text d e c.loop-line.reader c.loop-line.lines.rest.now c.in-Some.line.text.now
          c.take_line.new.self.rest.now n ok.0 c.loop-line.invariant.sent c.in-Some.ensures.line ok.1 ok.3));
      bytes = subst (λ m. HasTaken text c.take_line.new.self.rest.now m c.count.new.self.bytes) (sym counted)
          (taken-more text c.loop-line.lines.rest.now c.in-Some.line.text.now c.take_line.new.self.rest.now n c.loop-line.received.bytes
          c.count.new.self.bytes c.loop-line.invariant.bytes c.in-Some.ensures.line more);
      first = first
          ∙ first_serial-next n c.count.new.self.submitted c.in-Ok.ticket.serial c.loop-line.received.first_serial
          (length before.kept) c.loop-line.invariant.first serial counted;
      serials = inr ok.5;
    }

pub returns-in-Err-clause-stopped : goal.returns-in-Err-clause-stopped
returns-in-Err-clause-stopped g c =
    let before : Client = c.args.client.now in
    let text = c.args.bundle.now in
    let start = c.args.reader.now in
    let n : ℕ = c.loop-line.received.submitted in (
      omega (arith, c.in-Some.ensures.number.0, c.loop-line.invariant.taken),
      stops before start text c.loop-line.client c.submit_line.new.client c.loop-line.reader c.loop-line.lines.rest.now
          c.in-Some.line.text.now c.take_line.new.self.rest.now n c.in-Err.why c.loop-line.invariant.sent c.in-Some.ensures.line
          c.in-Err.ensures.err.2,
    )

pub returns-clause-stopped : goal.returns-clause-stopped
returns-clause-stopped g c =
    stops-end c.args.client.now c.args.reader.now c.args.bundle.now c.loop-line.client c.loop-line.reader c.loop-line.lines.rest.now
    c.take_line.new.self.rest.now
    c.loop-line.received.submitted c.loop-line.lines.taken c.take_line.new.self.taken c.cut_stop-received.result
    c.loop-line.invariant.sent c.loop-line.invariant.taken c.in_default.ensures.none.0 c.in_default.ensures.none.1
    c.in_default.ensures.none.2 c.cut_stop-received.ensures

pub returns-in-Err-clause-within : goal.returns-in-Err-clause-within
returns-in-Err-clause-within g c = omega (arith, c.loop-line.invariant.bytes.left)

pub returns-clause-within : goal.returns-clause-within
returns-clause-within g c = omega (arith, c.loop-line.invariant.bytes.left)

pub returns-in-Err-clause-goes_on : goal.returns-in-Err-clause-goes_on
returns-in-Err-clause-goes_on g c =
    subst (λ (v : Vector). GoesOn (readable c.args.reader.now c.args.bundle.now) c.loop-line.received.submitted
    (readable v (drop c.loop-line.received.bytes c.args.bundle.now))) (sym c.in-Err.ensures.err.1)
    (goes_on c.args.client.now c.args.reader.now c.args.bundle.now c.loop-line.client c.loop-line.reader c.loop-line.lines.rest.now
    (drop c.loop-line.received.bytes c.args.bundle.now) c.loop-line.received.submitted c.loop-line.invariant.sent
    (left_is _ _ _ _ c.loop-line.invariant.bytes))

pub returns-clause-goes_on : goal.returns-clause-goes_on
returns-clause-goes_on g c =
    goes_on c.args.client.now c.args.reader.now c.args.bundle.now c.loop-line.client c.loop-line.reader c.loop-line.lines.rest.now
    (drop c.loop-line.received.bytes c.args.bundle.now) c.loop-line.received.submitted c.loop-line.invariant.sent
    (left_is _ _ _ _ c.loop-line.invariant.bytes)

pub loop-line-init : goal.loop-line-init
loop-line-init g c =
    let before : Client = c.args.client.now in
    let start : Vector = c.args.reader.now in
    let text : List ℕ = c.args.bundle.now in
    let all : text ≡ c.new-lines.result.rest.now = sym c.new-lines.ensures.all_left in record {
      taken = c.new-lines.ensures.none_taken;
      sent = subst (λ (rest : List ℕ). HasSubmitted before start text before start rest 0) all (submitted-none before start text);
      bytes = subst (λ (rest : List ℕ). HasTaken text rest 0 0) all (taken-none text);
      first = refl;
      serials = inl refl;
    }
