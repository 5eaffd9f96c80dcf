use Rattle.std.proofs.Common.{true, false, refl, sym, ◌∙◌}
use Rattle.semantics.specs.Operations.{element_of}
use Rattle.oplog.specs.operation.Ops.{stamped_of}
use Rattle.document.proofs.ReceivedFaults.{fault-tested, items-tested}
use Rattle.document.proofs.check.check.Goals as goal

pub returns-then-breaks_chain : goal.returns-then-breaks_chain
returns-then-breaks_chain c =
    let s = stamped_of c.args.op.now in
    fault-tested c.args.log.now.entries s true _ _ _
    (sym (c.breaks_chain.ensures _ c.requires.vector) ∙ c.if-breaks_chain.true) refl refl refl

pub returns-then-names_nothing : goal.returns-then-names_nothing
returns-then-names_nothing c =
    let s = stamped_of c.args.op.now in
    fault-tested c.args.log.now.entries s false true _ _
    (sym (c.breaks_chain.ensures _ c.requires.vector) ∙ c.if-breaks_chain.false)
    (sym (c.names_nothing.ensures s refl) ∙ c.if-names_nothing.true)
    refl refl

pub returns-then-is_open : goal.returns-then-is_open
returns-then-is_open c =
    let s = stamped_of c.args.op.now in
    fault-tested c.args.log.now.entries s false false true _
    (sym (c.breaks_chain.ensures _ c.requires.vector) ∙ c.if-breaks_chain.false)
    (sym (c.names_nothing.ensures s refl) ∙ c.if-names_nothing.false)
    (sym c.is_open.ensures ∙ c.if-is_open.true)
    refl

pub returns-then-not-has_items : goal.returns-then-not-has_items
returns-then-not-has_items c =
    let s = stamped_of c.args.op.now in
    fault-tested c.args.log.now.entries s false false false false
    (sym (c.breaks_chain.ensures _ c.requires.vector) ∙ c.if-breaks_chain.false)
    (sym (c.names_nothing.ensures s refl) ∙ c.if-names_nothing.false)
    (sym c.is_open.ensures ∙ c.if-is_open.false)
    (items-tested c.args.log.now.entries c.args.tree.now
    (element_of c.args.op.now.place) false c.requires.legal c.requires.content
    (sym c.has_items.ensures ∙ c.if-not-has_items.true))

pub returns : goal.returns
returns c =
    let s = stamped_of c.args.op.now in
    fault-tested c.args.log.now.entries s false false false true
    (sym (c.breaks_chain.ensures _ c.requires.vector) ∙ c.if-breaks_chain.false)
    (sym (c.names_nothing.ensures s refl) ∙ c.if-names_nothing.false)
    (sym c.is_open.ensures ∙ c.if-is_open.false)
    (items-tested c.args.log.now.entries c.args.tree.now (element_of c.args.op.now.place) true c.requires.legal c.requires.content
    (sym c.has_items.ensures ∙ c.if-not-has_items.false))
