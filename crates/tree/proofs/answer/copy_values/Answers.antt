use Rattle.std.proofs.Common.{ap, sym, ◌∙◌, ◌++◌, ◌∷◌, [], Some}
use Rattle.semantics.specs.Ids.{OpId}
use Rattle.operation.specs.value.declared.value.Scalar.{Scalar}
use Rattle.tree.proofs.Answering.{take_next}
use Rattle.tree.proofs.answer.copy_values.Goals as goal

pub loop-position-preserved : goal.loop-position-preserved
loop-position-preserved c =
    let copied : OpId × Scalar = (c.at-id.result.0, c.in_ok-clone.field-0) in
    c.in_ok-push.ensures.items ∙ ap (λ xs. xs ++ copied ∷ []) c.loop-position.invariant
    ∙ sym
    (take_next c.args.register.now.entries c.loop-position.position copied
    (c.at-id.ensures ∙ ap (λ s. Some (c.at-id.result.0, s)) (sym c.in_ok-clone.ensures.cases)))
