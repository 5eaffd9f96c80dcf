use Rattle.std.proofs.Common.{◌∙◌, sym}
use Rattle.records.specs.wire.Lines.{cut}
use Rattle.store.specs.WholeLines.{first_own}
use Rattle.store.proofs.OwnNumbers.{found_first, found_later, own_next, own_none}
use Rattle.store.proofs.saved.Journal.own.Goals as goal

pub returns : goal.returns
returns g c = sym (own_none c.loop-line.lines.rest.now c.in_default.ensures.none.0) ∙ c.loop-line.invariant

pub returns-then-is_some : goal.returns-then-is_some
returns-then-is_some g c =
    sym (found_first c.in-Ok.own (first_own (cut c.take_line.new.self.rest.now).lines) (sym c.is_some.ensures ∙ c.if-is_some.true))
    ∙ sym (own_next c.loop-line.lines.rest.now c.in-Some.line.text.now c.take_line.new.self.rest.now c.in-Ok.own
    c.in-Some.ensures.line c.in-Ok.ensures)
    ∙ c.loop-line.invariant

pub loop-line-preserved : goal.loop-line-preserved
loop-line-preserved g c =
    sym (found_later c.in-Ok.own (first_own (cut c.take_line.new.self.rest.now).lines) (sym c.is_some.ensures ∙ c.if-is_some.false))
    ∙ sym (own_next c.loop-line.lines.rest.now c.in-Some.line.text.now c.take_line.new.self.rest.now c.in-Ok.own
    c.in-Some.ensures.line c.in-Ok.ensures)
    ∙ c.loop-line.invariant
