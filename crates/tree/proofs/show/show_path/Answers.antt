use Rattle.std.proofs.Common.{◌≡◌, ◌+◌, ◌||◌, map, take, Some, None, sym, ap, ◌∙◌}
use Rattle.semantics.specs.Elements.{is_same}
use Rattle.semantics.specs.Paths.{child}
use Rattle.operation.specs.cursor.Steps.{hop_of}
use Rattle.tree.specs.Nodes.{linked_by, number}
use Rattle.tree.specs.Writes.{end_of}
use Rattle.tree.proofs.Shape.{lost_at, number_child, number_inside}
use Rattle.tree.proofs.Hops.{end_more, number_more}
use Rattle.tree.proofs.Showing.{but_hop, but_way, flags_number, flags_trans, flags_tree}
use Rattle.tree.proofs.show.show_path.Goals as goal

pub returns-in-None-clause-same : goal.returns-in-None-clause-same
returns-in-None-clause-same c = flags_trans c.args.nodes.now c.loop-hop.nodes c.show_hop.new.nodes c.loop-hop.invariant.same
    c.show_hop.ensures.same

pub returns-in-None-clause-number : goal.returns-in-None-clause-number
returns-in-None-clause-number c =
    let old = c.args.nodes.now in
    let k = c.loop-hop.hop-index in
    let x = hop_of c.hop-item.result in
    let inv = c.loop-hop.invariant in
    let view = inv.same.view in
    sym (lost_at old (map hop_of c.args.path.now) (k + 1)
    (number_more c.args.path.now k c.hop-item.result c.loop-hop-test.true c.hop-item.is old c.loop-hop.at inv.here
    ∙ ap (λ l. linked_by l x) (view.links c.loop-hop.at) ∙ sym c.show_hop.ensures.number ∙ c.in-None.is))

pub returns-in-None-clause-shown : goal.returns-in-None-clause-shown
returns-in-None-clause-shown c = λ off s.
    let old = c.args.nodes.now in
    let now = c.loop-hop.nodes in
    let k = c.loop-hop.hop-index in
    let path = map hop_of c.args.path.now in
    let x = hop_of c.hop-item.result in
    let e = end_of (take k path) in
    let inv = c.loop-hop.invariant in
    let view = inv.same.view in
    let here : number now e ≡ Some c.loop-hop.at = sym (flags_number old now inv.same e) ∙ inv.here in
    let more : end_of (take (k + 1) path) ≡ child e x = end_more c.args.path.now k c.hop-item.result c.loop-hop-test.true c.hop-item.is in
    let none : number old (child e x) ≡ None = number_child old e c.loop-hop.at x inv.here
    ∙ ap (λ l. linked_by l x) (view.links c.loop-hop.at) ∙ sym c.show_hop.ensures.number ∙ c.in-None.is in
    c.show_hop.ensures.shown e off here
    (inv.rest (λ z. is_same z (child e x) || off z) (but_way old path k e x off more none s))

pub loop-hop-preserved : goal.loop-hop-preserved
loop-hop-preserved c =
    let old = c.args.nodes.now in
    let now = c.loop-hop.nodes in
    let new = c.show_hop.new.nodes in
    let k = c.loop-hop.hop-index in
    let path = map hop_of c.args.path.now in
    let x = hop_of c.hop-item.result in
    let e = end_of (take k path) in
    let inv = c.loop-hop.invariant in
    let here : number now e ≡ Some c.loop-hop.at = sym (flags_number old now inv.same e) ∙ inv.here in
    let more : end_of (take (k + 1) path) ≡ child e x = end_more c.args.path.now k c.hop-item.result c.loop-hop-test.true c.hop-item.is in
    let same = flags_trans old now new inv.same c.show_hop.ensures.same in
    let there : number old (end_of (take (k + 1) path)) ≡ Some c.in-Some.next =
    ap (number old) more ∙ flags_number old now inv.same (child e x) ∙ number_child now e c.loop-hop.at x here
    ∙ sym c.show_hop.ensures.number ∙ c.in-Some.is in
    record {
      same = same;
      here = there;
      inside = number_inside new (flags_tree old new same c.requires) (end_of (take (k + 1) path)) c.in-Some.next
          (sym (flags_number old new same (end_of (take (k + 1) path))) ∙ there);
      rest = λ off s. c.show_hop.ensures.shown e off here
          (inv.rest (λ z. is_same z (child e x) || off z) (but_hop old path k e x off more s));
    }
