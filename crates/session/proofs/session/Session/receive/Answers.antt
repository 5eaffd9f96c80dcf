use Rattle.std.proofs.Common.{◌≡◌, ◌∙◌, ◌+◌, ℕ, rules, ap, arith}
use Rattle.session.specs.declared.session.receiving.Received.{Received}
use Rattle.session.specs.Receipts.{settled, with_refusal}
use Rattle.session.proofs.Receiving.{counts, ends, line_taken, one_more_fits, received-more, short_drain, short_says, stops}
use Rattle.session.proofs.session.Session.receive.Goals as goal

pub count-requires-clause-fits : goal.count-requires-clause-fits
count-requires-clause-fits c =
    let left = line_taken c.loop-line.lines.rest.now c.in-Some.line.text.now c.take_line.new.self.rest.now c.in-Some.ensures.line in
    one_more_fits c.loop-line.received.taken 18446744073709551616 c.loop-line.received.refused
    (let within = c.loop-line.invariant.within in
    omega (arith, within, left, c.loop-line.invariant.taken, c.if-prove.false))
    (counts c.args.self.now c.args.bundle.now c.loop-line.invariant.all)

pub returns-in-Err-clause-stopped : goal.returns-in-Err-clause-stopped
returns-in-Err-clause-stopped c = (
  omega (arith, c.in-Some.ensures.number.0, c.loop-line.invariant.taken),
  stops c.args.self.now c.args.bundle.now c.loop-line.invariant.all c.in-Some.line.text.now c.take_line.new.self.rest.now c.in-Err.why
      c.in-Some.ensures.line c.in-Err.ensures.err.1,
)

pub overflow_add-received : goal.overflow_add-received
overflow_add-received c =
    let left = line_taken c.loop-line.lines.rest.now c.in-Some.line.text.now c.take_line.new.self.rest.now c.in-Some.ensures.line in
    let within = c.loop-line.invariant.within in
    omega (arith, within, left, c.in-Some.ensures.number.0, c.if-prove.false)

pub returns-then-is_err-2-clause-replica : goal.returns-then-is_err-2-clause-replica
returns-then-is_err-2-clause-replica c =
    let ok = c.in-Ok.ensures.ok in
    let n : ℕ = c.loop-line.received.taken in
    let counted : c.count.new.self.taken ≡ n + 1 = ap (λ (r : Received). r.taken) c.count.ensures in
    short_drain c.args.self.now c.args.bundle.now c.loop-line.invariant.all c.in-Some.line.text.now c.take_line.new.self.rest.now ok.0
    c.take_line-in-Some.new.self c.count.new.self.taken c.in-Some.line.number c.count.new.self.refused c.in-Some.ensures.line ok.1 ok.3
    counted (omega (arith, c.in-Some.ensures.number.0, c.loop-line.invariant.taken))
    (ap (λ (r : Received). r.refused) c.count.ensures
    ∙ ap (with_refusal c.loop-line.received.refused c.in-Some.line.number) ok.4)
    c.settle-in-Some.new.self c.settle-in-Some.ensures.partly

pub returns-then-is_err-2-clause-refused : goal.returns-then-is_err-2-clause-refused
returns-then-is_err-2-clause-refused c =
    let ok = c.in-Ok.ensures.ok in
    let n : ℕ = c.loop-line.received.taken in
    let counted : c.count.new.self.taken ≡ n + 1 = ap (λ (r : Received). r.taken) c.count.ensures in
    short_says c.args.self.now c.args.bundle.now c.loop-line.invariant.all c.in-Some.line.text.now c.take_line.new.self.rest.now ok.0
    c.take_line-in-Some.new.self c.count.new.self.taken c.in-Some.line.number c.count.new.self.refused c.in-Some.ensures.line ok.1 ok.3
    counted (omega (arith, c.in-Some.ensures.number.0, c.loop-line.invariant.taken))
    (ap (λ (r : Received). r.refused) c.count.ensures
    ∙ ap (with_refusal c.loop-line.received.refused c.in-Some.line.number) ok.4)

pub loop-line-preserved : goal.loop-line-preserved
loop-line-preserved c =
    let ok = c.in-Ok.ensures.ok in
    let n : ℕ = c.loop-line.received.taken in
    let counted : c.count.new.self.taken ≡ n + 1 = ap (λ (r : Received). r.taken) c.count.ensures in
    let whole : c.settle-in-Some.new.self ≡ settled c.take_line-in-Some.new.self = search rules in
    let left = line_taken c.loop-line.lines.rest.now c.in-Some.line.text.now c.take_line.new.self.rest.now c.in-Some.ensures.line in
    let within = c.loop-line.invariant.within in
    record {
      taken = omega (arith, c.in-Some.ensures.number.0, c.in-Some.ensures.number.1, c.loop-line.invariant.taken, counted);
      within = omega (arith, c.in-Some.ensures.number.0, c.in-Some.ensures.number.1, within, left);
      all = received-more c.args.self.now c.args.bundle.now c.loop-line.invariant.all c.in-Some.line.text.now
          c.take_line.new.self.rest.now ok.0 c.take_line-in-Some.new.self c.count.new.self.taken c.in-Some.line.number
          c.count.new.self.refused c.in-Some.ensures.line ok.1 ok.3 counted
          (omega (arith, c.in-Some.ensures.number.0, c.loop-line.invariant.taken))
          (ap (λ (r : Received). r.refused) c.count.ensures
          ∙ ap (with_refusal c.loop-line.received.refused c.in-Some.line.number) ok.4)
          c.settle-in-Some.new.self c.take_line-in-Some.new.reader ok.2 whole;
    }

pub returns-clause-stopped : goal.returns-clause-stopped
returns-clause-stopped c =
    ends c.args.self.now c.args.bundle.now c.loop-line.invariant.all c.take_line.new.self.rest.now c.loop-line.lines.taken
    c.take_line.new.self.taken c.cut_stop-received.result c.loop-line.invariant.taken c.in_default.ensures.none.0
    c.in_default.ensures.none.1 c.in_default.ensures.none.2 c.cut_stop-received.ensures
