use Rattle.std.proofs.Common.{◌≡◌, ◌∙◌, ap, sym, arith, length}
use Rattle.rings.specs.Rings.{Sequence, straight}
use Rattle.rings.specs.Starts.{starts_of}
use Rattle.rings.proofs.Straight.{length-straight}
use Rattle.rings.proofs.rings.Rings.run.Goals as goal

pub run_in-requires-clause-within : goal.run_in-requires-clause-within
run_in-requires-clause-within g c =
    let d = c.self.inside in
    let long = length-straight 2048 (starts_of d.starts) d.slots.items ∙ ap length (sym c.deref.ensures.value) in
    let same : length (straight 2048 (starts_of d.starts) d.slots.items)
    ≡ length c.args.self.now.items = ap (λ (m : Sequence g.row.T.Denot). length m.items) c.self.view_is in
    let h = c.requires in
    omega (arith, long, same, h)
