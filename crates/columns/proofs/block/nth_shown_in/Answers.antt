use Rattle.std.proofs.Common.{◌≡◌, ◌∙◌, ◌≤◌, ◌+◌, ◌-◌, arith, sym, length}
use Rattle.columns.proofs.ShownRuns.{found_in_run, past_run}
use Rattle.columns.proofs.block.nth_shown_in.Goals as goal

pub returns-then-left-shown : goal.returns-then-left-shown
returns-then-left-shown c =
    let i = c.loop-at.at in
    c.nth_shown_among.ensures
    ∙ sym (found_in_run c.args.flags.now c.args.ids.now i (i + 16 - i) c.requires c.loop-at.left c.count_shown-shown.result
    c.count_shown-shown.ensures c.if-left-shown.true)
    ∙ sym c.loop-at.invariant.rest

pub loop-at-preserved : goal.loop-at-preserved
loop-at-preserved c =
    let i = c.loop-at.at in
    let within : i + 16 ≤ length c.args.ids.now = (let h = c.loop-at-test.true in let w = c.loop-at.invariant.within in omega arith) in
    let on : i + 16 ≡ i + (i + 16 - i) = omega arith in
    record {
      within = within;
      rest = c.loop-at.invariant.rest
          ∙ past_run c.args.flags.now c.args.ids.now i (i + 16 - i) c.requires (i + 16) c.loop-at.left c.count_shown-shown.result on
          c.count_shown-shown.ensures (let h = c.if-left-shown.false in omega arith);
    }
