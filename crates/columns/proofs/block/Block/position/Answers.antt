use Rattle.std.proofs.Common.{◌≡◌, ◌∙◌, ◌<◌, ◌&&◌, true, ap, sym, refl, length, nat_eq, Some, slice_get}
use Rattle.std.proofs.lemmas.Bool.{and_parts, eqb-true, ltb-true}
use Rattle.std.proofs.lemmas.Option.{slice_get_read}
use Rattle.semantics.specs.Ids.{OpId}
use Rattle.columns.specs.Blocks.{ListBlock}
use Rattle.columns.proofs.Apart.{stands_once}
use Rattle.columns.proofs.block.Block.position.Goals as goal

-- ids that were compared field by field
same_id : (a b : OpId) → (nat_eq a.counter b.counter && nat_eq a.replica b.replica) ≡ true → a ≡ b
same_id a b e =
    let p = and_parts (nat_eq a.counter b.counter) (nat_eq a.replica b.replica) e in
    λ i. record { counter = eqb-true a.counter b.counter p.0 i; replica = eqb-true a.replica b.replica p.1 i }

pub returns-in-Some : goal.returns-in-Some
returns-in-Some c =
    let xs = c.deref.result.now in
    let there = c.in-Some.ensures.lookup in
    let inside : c.args.hint < length xs = ltb-true c.args.hint (length xs) (sym there.0) in
    let here : slice_get xs c.args.hint ≡ Some c.in-Some.other.now =
    slice_get_read xs _ c.args.hint c.in-Some.other.now refl inside there.1 in
    let same : c.in-Some.other.now ≡ c.args.id.now = same_id c.in-Some.other.now c.args.id.now (sym c.eq.ensures ∙ c.if-eq.true) in
    stands_once c.args.self.now.items c.args.hint c.args.id.now c.requires
    (ap (λ ys. slice_get ys c.args.hint) (sym (ap (λ (r : ListBlock). r.items) c.self.view_is) ∙ sym c.deref.ensures.value) ∙ here
    ∙ ap Some same)
