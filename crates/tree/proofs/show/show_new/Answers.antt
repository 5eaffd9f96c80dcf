use Rattle.std.proofs.Common.{◌≡◌, ◌||◌, Some, None, false, map, ap, sym, ◌∙◌}
use Rattle.semantics.specs.Elements.{Element, Item, is_same}
use Rattle.semantics.specs.Paths.{ItemHop}
use Rattle.operation.specs.cursor.Steps.{hop_of}
use Rattle.tree.specs.Nodes.{next_number, number}
use Rattle.tree.specs.Writes.{end_of}
use Rattle.tree.proofs.Showing.{but_lost, but_none, flags_number, flags_trans, new_parts}
use Rattle.tree.proofs.show.show_new.Goals as goal

pub returns-in-Some-clause-same : goal.returns-in-Some-clause-same
returns-in-Some-clause-same c = flags_trans c.args.nodes.now c.show_path.new.nodes c.show_entry-item.new.nodes c.show_path.ensures.same
    c.show_entry-item.ensures.same

pub returns-in-Some-clause-shown : goal.returns-in-Some-clause-shown
returns-in-Some-clause-shown c = λ s.
    let m = end_of (map hop_of c.args.slot.now.list.now) in
    let t : Element = Item m c.args.id.now in
    let mid = c.show_path.new.nodes in
    let at : number mid m ≡ Some c.in-Some.at = sym (flags_number c.args.nodes.now mid c.show_path.ensures.same m)
    ∙ sym c.show_path.ensures.number ∙ c.in-Some.is in
    but_none c.show_entry-item.new.nodes (c.show_entry-item.ensures.shown m (λ x. false) at
    (c.show_path.ensures.shown (λ x. is_same x t || false) (new_parts c.args.nodes.now m c.args.id.now s)))

pub returns-in_default-clause-shown : goal.returns-in_default-clause-shown
returns-in_default-clause-shown c = λ s.
    let m = end_of (map hop_of c.args.slot.now.list.now) in
    let t : Element = Item m c.args.id.now in
    let mid = c.show_path.new.nodes in
    let none : number mid t
    ≡ None = ap (λ o. next_number mid o (ItemHop c.args.id.now))
    (sym (flags_number c.args.nodes.now mid c.show_path.ensures.same m) ∙ sym c.show_path.ensures.number ∙ c.in_default.is) in
    but_none mid (but_lost mid t (λ x. false) none
    (c.show_path.ensures.shown (λ x. is_same x t || false) (new_parts c.args.nodes.now m c.args.id.now s)))
