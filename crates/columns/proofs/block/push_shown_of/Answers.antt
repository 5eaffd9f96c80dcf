use Rattle.std.proofs.Common.{◌≡◌, ◌≤◌, ◌+◌, ◌-◌, ◌++◌, arith, length}
use Rattle.std.specs.List.{items_where_true}
use Rattle.columns.proofs.ShownRuns.{pushed_run}
use Rattle.columns.proofs.block.push_shown_of.Goals as goal

pub loop-at-preserved : goal.loop-at-preserved
loop-at-preserved c =
    let i = c.loop-at.at in
    let within : i + 16 ≤ length c.args.ids.now = (let h = c.loop-at-test.true in let w = c.loop-at.invariant.within in omega arith) in
    let on : i + 16 ≡ i + (i + 16 - i) = omega arith in
    record {
      within = within;
      rest = pushed_run c.args.flags.now c.args.ids.now i (i + 16 - i) c.requires
          (i + 16) on c.loop-at.items.items c.push_run.new.items.items
          (c.args.items.now.items ++ items_where_true c.args.flags.now c.args.ids.now) c.in_ok-push_run.ensures c.loop-at.invariant.rest;
    }
