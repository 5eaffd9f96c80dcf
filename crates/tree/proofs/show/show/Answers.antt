use Rattle.std.proofs.Common.{◌≡◌, map, sym, ap, ◌∙◌, subst}
use Rattle.semantics.specs.Elements.{is_under}
use Rattle.semantics.specs.Operations.{slot_of, target_in}
use Rattle.operation.specs.cursor.Steps.{hop_of}
use Rattle.operation.specs.Ops.{mutation_of}
use Rattle.tree.specs.Shown.{ShownBut}
use Rattle.tree.specs.Writes.{end_of}
use Rattle.tree.proofs.Applied.{end_is}
use Rattle.tree.proofs.show.show.Goals as goal

pub returns-in-Assign-clause-shown : goal.returns-in-Assign-clause-shown
returns-in-Assign-clause-shown c = λ s.
    let o = c.args.op.now in
    let path = map hop_of c.hops.result.now in
    let t : target_in (slot_of (mutation_of o.mutation) o.place) o.id o.place
    ≡ end_of path = ap (λ m. target_in (slot_of (mutation_of m) o.place) o.id o.place) c.in-Assign.is
    ∙ sym (end_is o.place path c.hops.ensures) in
    c.show_at.ensures.shown (subst (λ e. ShownBut c.args.nodes.now (is_under e)) t s)

pub returns-in-Delete-clause-shown : goal.returns-in-Delete-clause-shown
returns-in-Delete-clause-shown c = λ s.
    let o = c.args.op.now in
    let path = map hop_of c.hops-in-Delete.result.now in
    let t : target_in (slot_of (mutation_of o.mutation) o.place) o.id o.place
    ≡ end_of path = ap (λ m. target_in (slot_of (mutation_of m) o.place) o.id o.place) c.in-Delete.is
    ∙ sym (end_is o.place path c.hops-in-Delete.ensures) in
    c.show_at-in-Delete.ensures.shown (subst (λ e. ShownBut c.args.nodes.now (is_under e)) t s)
