use Rattle.std.proofs.Common.{◌≡◌, ◌++◌, ◌∙◌, ap, sym, length, arith, length-append}
use Rattle.std.specs.Prelude.{option_map}
use Rattle.std.proofs.lemmas.List.Edits.{length-insert}
use Rattle.chunks.specs.Chunks.{Sequence, items_before}
use Rattle.chunks.proofs.chunks.Chunks.insert.Goals as goal

pub invariant_of-self-in-Some : goal.invariant_of-self-in-Some
invariant_of-self-in-Some g c =
    let l = c.self.inside.last in
    let f = c.deref_mut.result.now in
    let whole : f.items ++ l.items ≡ c.args.self.now.items =
    ap (λ (m : Sequence g.row.T.Denot). m.items ++ l.items) c.deref_mut.ensures.value
    ∙ ap (λ o. items_before (option_map (λ front. front.value) o) ++ l.items) (sym c.in-Some.is)
    ∙ ap (λ (m : Sequence g.row.T.Denot). m.items) c.self.view_is in
    let within = c.requires.within in
    let few = c.requires.few in
    let old = ap length whole in
    let new = ap length c.insert_in.ensures.items
    ∙ length-insert (f.items ++ l.items) c.args.position c.args.item (omega (arith, old, within)) in
    let parts = length-append c.insert_in.new.front.items c.insert_in.new.last.items in
    omega (arith, old, new, parts, few)
