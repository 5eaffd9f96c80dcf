use Rattle.std.proofs.Common.{◌∙◌, ℕ, ap}
use Rattle.std.proofs.lemmas.Option.{get_or_from_slice_get}
use Rattle.semantics.specs.Ids.{OpId}
use Rattle.columns.proofs.Columns.{get_or-keys_of}
use Rattle.columns.proofs.numbers.id_at.Goals as goal

pub returns : goal.returns
returns c d =
    let e = c.get.result.now in
    get_or-keys_of c.args.entries.now.items c.args.position (d, e.1)
    ∙ ap (λ (x : OpId × ℕ). x.0) (get_or_from_slice_get c.args.entries.now.items c.args.position e (d, e.1) c.get.ensures)
