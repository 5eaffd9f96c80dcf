use Rattle.std.proofs.Common.{◌∙◌, ap, sym, subst}
use Rattle.std.proofs.lemmas.Bool.{false≢true}
use Rattle.std.specs.Prelude.{IsSome}
use Rattle.semantics.specs.Ids.{OpId, id_cmp}
use Rattle.semantics.proofs.Orders.{id_total}
use Rattle.std.specs.FinMap.{find, put}
use Rattle.columns.specs.Numbered.{Numbered}
use Rattle.columns.proofs.Columns.{put_own}
use Rattle.columns.proofs.Puts.{find_absent, rising_put}
use Rattle.columns.proofs.numbers.Numbers.set.Goals as goal

pub unreachable-requires : goal.unreachable-requires
unreachable-requires c =
    let none = find_absent id_cmp c.args.id.now c.self.inside.entries.items c.in_default.field-0 c.in_default.ensures in
    let some = subst (λ (m : Numbered OpId). IsSome (find id_cmp c.args.id.now m.entries)) (sym c.self.view_is) c.requires in
    absurd (false≢true (subst IsSome none some))

pub invariant_of-self : goal.invariant_of-self
invariant_of-self c =
    let es = c.self.inside.entries.items in
    rw (c.replace.ensures.items ∙ put_own es c.args.id.now c.args.number c.in-Ok.position c.in-Ok.ensures)
    (rising_put id_cmp id_total c.args.id.now c.args.number es c.self.invariant)

pub returns-clause-entries : goal.returns-clause-entries
returns-clause-entries c =
    c.replace.ensures.items
    ∙ put_own c.self.inside.entries.items c.args.id.now c.args.number c.in-Ok.position c.in-Ok.ensures
    ∙ ap (λ (m : Numbered OpId). put id_cmp c.args.id.now c.args.number m.entries) c.self.view_is
