use Rattle.std.proofs.Common.{◌≡◌, map, sym, ap, ◌∙◌, subst}
use Rattle.semantics.specs.Elements.{At, Field as FieldOf}
use Rattle.operation.specs.cursor.declared.hop.Hop.TheVariants.{Field, Item}
use Rattle.operation.specs.cursor.Places.{is_head, place_at}
use Rattle.operation.specs.cursor.Steps.{hop_of}
use Rattle.tree.specs.declared.spot.Target.{Target}
use Rattle.tree.specs.Spots.{target_from}
use Rattle.tree.specs.Writes.{end_of}
use Rattle.tree.proofs.Walking.{pushed_hop}
use Rattle.tree.proofs.resolve.push_hop.Goals as goal

pub returns-in_ok-push-in-Field : goal.returns-in_ok-push-in-Field
returns-in_ok-push-in-Field c =
    let hops = c.args.hops.now.items in
    let longer = c.push.new.self.items in
    let e = end_of (map hop_of hops) in
    let key = c.in_ok-clone-in-Field.field-0 in
    subst (λ (t : Target). place_at (map hop_of longer) (is_head (target_from e t)) ≡ target_from e t) (sym c.in-Field.is)
    (pushed_hop hops longer (Field key) c.in_ok-push-in-Field.ensures.items
    ∙ ap (λ k. At (FieldOf e k)) c.in_ok-clone-in-Field.ensures.cases)

pub returns-in_ok-push-in-Item : goal.returns-in_ok-push-in-Item
returns-in_ok-push-in-Item c =
    let hops = c.args.hops.now.items in
    let longer = c.push-in-Item.new.self.items in
    let e = end_of (map hop_of hops) in
    subst (λ (t : Target). place_at (map hop_of longer) (is_head (target_from e t)) ≡ target_from e t) (sym c.in-Item.is)
    (pushed_hop hops longer (Item c.in-Item.id) c.in_ok-push-in-Item.ensures.items)
