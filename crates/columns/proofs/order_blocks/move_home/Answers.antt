use Rattle.std.proofs.Common.{◌∙◌, ◌≤◌, subst, length, take_all}
use Rattle.columns.specs.Blocks.{AreMoved}
use Rattle.columns.proofs.MovedHomes.{next_homed, next_moved}
use Rattle.columns.proofs.order_blocks.move_home.Goals as goal

pub set-requires : goal.set-requires
set-requires c =
    let b = c.args.block.now in
    next_homed b.items b.number c.loop-index.index c.at.result c.args.homes.now.entries c.loop-index.homes.entries c.at.ensures
    c.loop-index.invariant.0 c.requires

pub loop-index-preserved : goal.loop-index-preserved
loop-index-preserved c =
    let b = c.args.block.now in (
      rw (c.set.ensures.entries, c.number.ensures)
          (next_moved b.items b.number c.loop-index.index c.at.result c.args.homes.now.entries c.loop-index.homes.entries c.at.ensures
          c.loop-index.invariant.0),
      c.set.ensures.room ∙ c.loop-index.invariant.1,
    )

pub returns-clause-moved : goal.returns-clause-moved
returns-clause-moved c =
    let b = c.args.block.now in
    let past : length b.items ≤ c.loop-index.index = subst
    (λ n. n ≤ c.loop-index.index) c.len-index-end.ensures.items c.loop-index-test.false in
    subst (λ xs. AreMoved xs b.number c.args.homes.now.entries c.loop-index.homes.entries)
    (take_all c.loop-index.index b.items past) c.loop-index.invariant.0
