use Rattle.std.proofs.Common.{◌≡◌, ◌∙◌, ap, sym, arith, length}
use Rattle.std.proofs.lemmas.List.{with_items_is}
use Rattle.rings.specs.Rings.{Sequence}
use Rattle.rings.specs.Starts.{starts_of}
use Rattle.rings.proofs.Straight.{length-straight}
use Rattle.rings.proofs.rings.Rings.remove.Goals as goal

pub remove_in-requires-clause-within : goal.remove_in-requires-clause-within
remove_in-requires-clause-within g c =
    let d = c.self.inside in
    let all : length d.slots.items ≡ length c.args.self.now.items = sym (length-straight 2048 (starts_of d.starts) d.slots.items)
    ∙ ap (λ (m : Sequence g.row.T.Denot). length m.items) c.self.view_is in
    let moved = ap length
    (with_items_is d.slots c.make_all_contiguous.new.slots (c.make_all_contiguous.auto.slots ∙ c.deref_mut.ensures.len))
    ∙ c.make_all_contiguous.ensures.length ∙ ap length c.deref_mut.ensures.value in
    let h = c.requires in
    omega (arith, all, moved, h)
