use Rattle.std.proofs.Common.{◌≡◌, ◌<◌, ◌-◌, ◌+◌, ◌/◌, ℕ, subst, arith}
use Rattle.columns.proofs.Above.{AreAbove, above_from, dropped_above, not_above_to}
use Rattle.columns.proofs.Halves.{halfway}
use Rattle.columns.proofs.numbers.first_above.Goals as goal

pub loop-low-preserved-then-id_at-counter : goal.loop-low-preserved-then-id_at-counter
loop-low-preserved-then-id_at-counter c =
    let inv = c.loop-low.invariant in
    let middle : ℕ = c.loop-low.low + (c.loop-low.high - c.loop-low.low) / 2 in
    let here : middle < c.loop-low.high = halfway c.loop-low.low c.loop-low.high c.loop-low-test.true in
    let most = inv.within in
    record {
      before = not_above_to c.args.counter c.args.entries.now.items middle c.id_at.result c.requires
          (omega arith) c.id_at.ensures c.if-id_at-counter.true;
      from = inv.from;
      ordered = omega arith;
      within = most;
    }

pub loop-low-preserved : goal.loop-low-preserved
loop-low-preserved c =
    let inv = c.loop-low.invariant in
    let middle : ℕ = c.loop-low.low + (c.loop-low.high - c.loop-low.low) / 2 in
    let here : middle < c.loop-low.high = halfway c.loop-low.low c.loop-low.high c.loop-low-test.true in
    let most = inv.within in
    record {
      before = inv.before;
      from = above_from c.args.counter c.args.entries.now.items middle c.id_at.result c.requires (omega arith) c.id_at.ensures
          (omega (arith, c.if-id_at-counter.false));
      ordered = omega arith;
      within = omega arith;
    }

pub returns-clause-above : goal.returns-clause-above
returns-clause-above c =
    let inv = c.loop-low.invariant in
    let least = inv.ordered in
    let same : c.loop-low.high ≡ c.loop-low.low = omega arith in
    dropped_above c.args.counter c.args.entries.now.items c.loop-low.low inv.before
    (subst (AreAbove c.args.counter c.args.entries.now.items) same inv.from)
