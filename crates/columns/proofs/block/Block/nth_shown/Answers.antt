use Rattle.std.proofs.Common.{◌≡◌, ◌∙◌, ap, sym, length, slice_get, arith}
use Rattle.std.specs.List.{items_where_true}
use Rattle.columns.proofs.Flags.{all_shown}
use Rattle.columns.proofs.block.Block.nth_shown.Goals as goal

pub returns-then-self-len : goal.returns-then-self-len
returns-then-self-len c =
    let d = c.self.inside in
    let all : length (items_where_true d.flags.items d.ids.items) ≡ length d.ids.items =
    (let counted = c.self.invariant.counted in let long = c.len.ensures in let here = c.if-self-len.true in let ok = d.ids.ok.0 in
    omega arith) in
    rw (← c.self.view_is)
    (c.id_in.ensures ∙ ap (λ xs. slice_get xs c.args.index)
    (c.deref.ensures.value ∙ sym (all_shown d.flags.items d.ids.items c.self.invariant.long all)))
