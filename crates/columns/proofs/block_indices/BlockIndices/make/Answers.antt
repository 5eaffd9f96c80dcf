use Rattle.std.proofs.Common.{◌++◌, ◌∷◌, ◌∙◌, [], ap, subst}
use Rattle.std.proofs.lemmas.List.{with_items_is}
use Rattle.columns.specs.Blocks.{AreMovedOn, Indices}
use Rattle.columns.proofs.block_indices.BlockIndices.make.Goals as goal

pub returns : goal.returns
returns c =
    let d = c.self.inside in
    let new = c.move_on.new.indices in
    record {
      moved = new;
      on = subst (λ xs. AreMovedOn xs c.args.index new) (c.deref_mut.ensures.value ∙ ap (λ (m : Indices). m.by_number) c.self.view_is)
          c.move_on.ensures;
      made = c.push_reserved.ensures.items
          ∙ ap (λ xs. xs ++ c.args.index ∷ []) (with_items_is d.by_number new (c.move_on.auto.indices ∙ c.deref_mut.ensures.len));
    }
