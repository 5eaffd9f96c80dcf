use Rattle.std.proofs.Common.{◌∙◌, ap, length, arith}
use Rattle.memchr.specs.Find.{is_byte}
use Rattle.columns.proofs.Raised.{byte_in_run, lowered_more}
use Rattle.columns.proofs.flag_row.next_in.Goals as goal

pub returns-in-Some-clause-passed : goal.returns-in-Some-clause-passed
returns-in-Some-clause-passed c =
    let (first, raised) = c.in-Some.ensures in
    let high = first.high in
    lowered_more c.args.bytes.now.items c.run-run.result.now c.loop-at.at c.run-run.ensures.items c.args.from c.in-Some.index
    c.loop-at.invariant.passed (omega (arith, high)) first.before

pub returns-in-Some-clause-raised : goal.returns-in-Some-clause-raised
returns-in-Some-clause-raised c = λ lt.
    let (first, raised) = c.in-Some.ensures in
    ap (is_byte 1) (byte_in_run c.args.bytes.now.items c.run-run.result.now c.loop-at.at c.run-run.ensures.items c.in-Some.index first.high)
    ∙ raised

pub loop-at-preserved : goal.loop-at-preserved
loop-at-preserved c =
    let inv = c.loop-at.invariant in
    let low = inv.from in
    let run = c.run-run in
    record {
      from = omega (arith, low);
      within = run.ensures.within;
      passed = lowered_more c.args.bytes.now.items run.result.now c.loop-at.at run.ensures.items c.args.from (length run.result.now)
          inv.passed (omega arith) c.in-None.ensures;
    }
