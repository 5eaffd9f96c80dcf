use Rattle.std.proofs.Common.{◌≡◌, ◌∙◌, ◌+◌, ◌-◌, ◌≤◌, ◌<◌, ap, refl, cond, length, rules, set, slice_get, Some}
use Rattle.std.proofs.lemmas.Option.{slice_get_read}
use Rattle.columns.specs.Blocks.{IsBlock}
use Rattle.columns.proofs.InBlock.{block_set}
use Rattle.columns.proofs.block.Block.set_shown.Goals.{After-count_of}
use Rattle.columns.proofs.block.Block.set_shown.Goals as goal

-- what the block keeps, once the flag is set
kept : (c : After-count_of)
    → (c.count_of.result ≤ c.self.inside.shown)
    × (c.self.inside.shown - c.count_of.result + cond c.args.is_shown 1 0 ≤ length c.self.inside.ids.items)
    × IsBlock c.self.inside.ids.items (set c.self.inside.flags.items c.args.index c.args.is_shown)
    (c.self.inside.shown - c.count_of.result + cond c.args.is_shown 1 0) c.self.inside.floor
kept c =
    let d = c.self.inside in
    let within : c.args.index < length d.flags.items = search rules in
    let is : slice_get d.flags.items c.args.index
    ≡ Some c.index_mut.result.now = slice_get_read d.flags.items _ c.args.index c.index_mut.result.now refl within
    c.index_mut.ensures.value in
    let was : c.count_of.result ≡ cond c.index_mut.result.now 1 0 = c.count_of.ensures
    ∙ ap (λ b. cond b 1 0) c.replace-was_shown.ensures.value in
    rw was (block_set d.ids.items d.flags.items d.shown d.floor c.args.index c.index_mut.result.now c.args.is_shown is c.self.invariant)

pub overflow_sub-self : goal.overflow_sub-self
overflow_sub-self c = (kept c).0

pub overflow_add-self : goal.overflow_add-self
overflow_add-self c =
    let most = (kept (goal.at.overflow_add-self c).After-count_of).1 in rw c.count_of-2.ensures (search rules)

pub invariant_of-self : goal.invariant_of-self
invariant_of-self c =
    rw (c.count_of-2.ensures, c.replace-was_shown.ensures.after) (kept (goal.at.invariant_of-self c).After-count_of).2
