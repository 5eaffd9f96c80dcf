use Rattle.std.proofs.Common.{◌≡◌, ◌∙◌, ◌+◌, false, Some, None, ap, sym, length, arith}
use Rattle.std.specs.List.{zip}
use Rattle.std.proofs.lemmas.List.Edits.{length-insert}
use Rattle.std.specs.FinMap.{find, put}
use Rattle.semantics.specs.Elements.{Name, name_cmp}
use Rattle.semantics.proofs.Orders.{name_total}
use Rattle.columns.specs.Keys.{numbered}
use Rattle.columns.specs.Flagged.{Flagged}
use Rattle.columns.proofs.Placed.{entries_more, fields_more, values_long}
use Rattle.columns.proofs.Zipped.{find_absent-zip, find_there-zip, put_new-zip}
use Rattle.columns.proofs.field_list.FieldList.put.Goals as goal

pub unreachable-requires : goal.unreachable-requires
unreachable-requires c =
    let d = c.self.inside in
    let ns = d.numbers.items in
    let at = c.in_default.ensures in
    let there = find_there-zip name_cmp d.keys.keys (numbered 0 ns d.keys.numbers)
    (values_long d.keys ns c.self.invariant.0) name_total c.args.key c.in_default.field-0 0 at.0 at.1 in
    let impossible : Some _ ≡ None = sym there ∙ ap (λ (m : Flagged Name). find name_cmp c.args.key m.entries) c.self.view_is
    ∙ c.requires.new in
    cc

pub invariant_of-self : goal.invariant_of-self
invariant_of-self c =
    let d = c.self.inside in
    let at = c.in-Err.ensures in
    let within = at.within in
    let wide = c.self.invariant.1 in (
      fields_more d.keys c.put.new.self d.numbers.items c.push_reserved.new.self.items c.args.key c.args.number c.in-Err.position
          c.self.invariant.0 at c.put.ensures.keys c.put.ensures.numbers c.push_reserved.ensures.items,
      ap length c.insert_lowered.ensures.flags ∙ length-insert d.flags.flags c.in-Err.position false (omega (arith, within, wide))
          ∙ ap (λ n. n + 1) wide ∙ sym (length-insert d.keys.keys c.in-Err.position c.args.key within) ∙ ap length (sym c.put.ensures.keys),
    )

pub returns-clause-entries : goal.returns-clause-entries
returns-clause-entries c =
    let d = c.self.inside in
    entries_more d.keys c.put.new.self d.numbers.items c.push_reserved.new.self.items c.args.key c.args.number c.in-Err.position
    c.self.invariant.0 c.in-Err.ensures c.put.ensures.keys c.put.ensures.numbers c.push_reserved.ensures.items
    ∙ ap (λ (m : Flagged Name). put name_cmp c.args.key c.args.number m.entries) c.self.view_is

pub returns-clause-flags : goal.returns-clause-flags
returns-clause-flags c =
    let d = c.self.inside in
    (λ t. zip (c.put.ensures.keys t) (c.insert_lowered.ensures.flags t))
    ∙ put_new-zip name_cmp d.keys.keys d.flags.flags c.self.invariant.1 c.args.key false c.in-Err.position c.in-Err.ensures
    ∙ ap (λ (m : Flagged Name). put name_cmp c.args.key false m.flags) c.self.view_is

pub returns-clause-unflagged : goal.returns-clause-unflagged
returns-clause-unflagged c =
    let d = c.self.inside in
    ap (λ (m : Flagged Name). find name_cmp c.args.key m.flags) (sym c.self.view_is)
    ∙ find_absent-zip name_cmp d.keys.keys d.flags.flags c.self.invariant.1 c.args.key c.in-Err.position c.in-Err.ensures
