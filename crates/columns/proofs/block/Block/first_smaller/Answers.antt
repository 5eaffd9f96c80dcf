use Rattle.std.proofs.Common.{subst, None}
use Rattle.columns.specs.Blocks.{IsFirstSmaller, ListBlock}
use Rattle.columns.proofs.InBlock.{all_greater}
use Rattle.columns.proofs.block.Block.first_smaller.Goals as goal

pub returns-then-is_above : goal.returns-then-is_above
returns-then-is_above c =
    let d = c.self.inside in
    subst (λ (r : ListBlock). IsFirstSmaller c.args.id.now r.items c.args.from None) c.self.view_is
    (all_greater c.args.id.now d.ids.items c.args.from (c.is_above.ensures d.ids.items c.self.invariant.bounded c.if-is_above.true))
