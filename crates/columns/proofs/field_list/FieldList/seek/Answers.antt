use Rattle.std.proofs.Common.{◌∙◌, Some, ap, sym}
use Rattle.std.specs.FinMap.{find}
use Rattle.semantics.specs.Elements.{Name, name_cmp}
use Rattle.semantics.proofs.Orders.{name_total}
use Rattle.columns.specs.Keys.{numbered}
use Rattle.columns.specs.Flagged.{Flagged}
use Rattle.columns.proofs.Placed.{value_at, values_long}
use Rattle.columns.proofs.Zipped.{find_there-zip, find_absent-zip}
use Rattle.columns.proofs.field_list.FieldList.seek.Goals as goal

pub returns-in-Ok-clause-number : goal.returns-in-Ok-clause-number
returns-in-Ok-clause-number c =
    let d = c.self.inside in
    let ns = d.numbers.items in
    let at = c.in-Ok.ensures in
    ap Some
    (value_at d.keys ns c.in-Ok.position c.number.result c.index.result.now c.self.invariant.0 c.number.ensures.number c.index.ensures)
    ∙ sym
    (find_there-zip name_cmp d.keys.keys (numbered 0 ns d.keys.numbers)
    (values_long d.keys ns c.self.invariant.0) name_total c.args.key.now c.in-Ok.position c.index.result.now at.0 at.1)
    ∙ ap (λ (m : Flagged Name). find name_cmp c.args.key.now m.entries) c.self.view_is

pub returns-in-Err-clause-number : goal.returns-in-Err-clause-number
returns-in-Err-clause-number c =
    let d = c.self.inside in
    sym (find_absent-zip name_cmp d.keys.keys (numbered 0 d.numbers.items d.keys.numbers)
    (values_long d.keys d.numbers.items c.self.invariant.0) c.args.key.now c.in-Err.position c.in-Err.ensures)
    ∙ ap (λ (m : Flagged Name). find name_cmp c.args.key.now m.entries) c.self.view_is
