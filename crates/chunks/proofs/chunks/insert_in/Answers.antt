use Rattle.std.proofs.Common.{◌∙◌, ◌++◌, sym, arith}
use Rattle.std.proofs.lemmas.List.Edits.{insert-append_right}
use Rattle.chunks.proofs.chunks.insert_in.Goals as goal

pub returns-else-position-start-clause-items : goal.returns-else-position-start-clause-items
returns-else-position-start-clause-items g c =
    let xs = c.args.front.now.items in
    let same = c.set_grows.ensures.items in
    let behind = c.if-position-start.false in
    (λ t. same t ++ c.put.ensures.items t)
    ∙ sym (insert-append_right xs c.args.last.now.items c.len-start.result c.args.position c.args.item (sym c.len-start.ensures)
    (omega (arith, behind)))
