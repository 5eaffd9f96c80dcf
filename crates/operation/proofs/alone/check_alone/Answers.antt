use Rattle.std.proofs.Common.{◌≡◌, ◌∙◌, Some, None, refl, sym, ap, true, false}
use Rattle.std.specs.Prelude.{option_map}
use Rattle.semantics.specs.Operations as operations
use Rattle.semantics.specs.Operations.{misplaced}
use Rattle.operation.specs.Ops.{misplaced_of, mutation_of}
use Rattle.operation.proofs.AloneFaults.{fault-alone}
use Rattle.operation.proofs.alone.check_alone.Goals as goal

pub returns-then-not-has_counter : goal.returns-then-not-has_counter
returns-then-not-has_counter c =
    fault-alone c.args.op.now false _ _
    (sym c.has_counter.ensures ∙ c.if-not-has_counter.true) refl refl

pub returns-in-Some-OutsideList : goal.returns-in-Some-OutsideList
returns-in-Some-OutsideList c =
    let why : misplaced (mutation_of c.args.op.now.mutation) c.args.op.now.place ≡ Some operations.OutsideList =
    sym c.misplaced_at.ensures ∙ ap (option_map misplaced_of) (c.in-Some-OutsideList.is ∙ ap Some c.in-Some-OutsideList.field-0-is) in
    fault-alone c.args.op.now true (Some operations.OutsideList) _
    (sym c.has_counter.ensures ∙ c.if-not-has_counter.false) why refl

pub returns-in-Some-OnHead : goal.returns-in-Some-OnHead
returns-in-Some-OnHead c =
    let why : misplaced (mutation_of c.args.op.now.mutation) c.args.op.now.place ≡ Some operations.OnHead =
    sym c.misplaced_at.ensures ∙ ap (option_map misplaced_of) (c.in-Some-OnHead.is ∙ ap Some c.in-Some-OnHead.field-0-is) in
    fault-alone c.args.op.now true (Some operations.OnHead) _
    (sym c.has_counter.ensures ∙ c.if-not-has_counter.false) why refl

pub returns-then-not-covers_items : goal.returns-then-not-covers_items
returns-then-not-covers_items c =
    fault-alone c.args.op.now true None false
    (sym c.has_counter.ensures ∙ c.if-not-has_counter.false)
    (sym c.misplaced_at.ensures ∙ ap (option_map misplaced_of) c.in-None.is)
    (sym c.covers_items.ensures ∙ c.if-not-covers_items.true)

pub returns : goal.returns
returns c =
    fault-alone c.args.op.now true None true
    (sym c.has_counter.ensures ∙ c.if-not-has_counter.false)
    (sym c.misplaced_at.ensures ∙ ap (option_map misplaced_of) c.in-None.is)
    (sym c.covers_items.ensures ∙ c.if-not-covers_items.false)
