use Rattle.std.proofs.Common.{◌≡◌, sym, subst, ◌≤◌, length, false, rules}
use Rattle.std.specs.List.{insert}
use Rattle.columns.specs.Blocks.{ListBlock}
use Rattle.columns.proofs.InBlock.{block_put}
use Rattle.columns.proofs.block.Block.put.Goals as goal

pub invariant_of-self : goal.invariant_of-self
invariant_of-self c =
    let d = c.self.inside in
    let i = c.args.index in
    let within : i ≤ length d.ids.items = subst (λ (r : ListBlock). i ≤ length r.items) (sym c.self.view_is) c.requires.within in
    let ids : c.insert_reserved.new.items.items ≡ insert d.ids.items i c.args.id = search rules in
    let flags : c.insert_reserved-2.new.items.items ≡ insert d.flags.items i false = search rules in
    rw (ids, flags)
    (block_put d.ids.items d.flags.items d.shown d.floor c.lower-self-inside.result i c.args.id within c.self.invariant
    (c.lower-self-inside.ensures d.ids.items c.self.invariant.bounded))
