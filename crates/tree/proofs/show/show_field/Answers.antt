use Rattle.std.proofs.Common.{◌≡◌, ◌<◌, ◌||◌, ℕ, Some, sym, ap, ◌∙◌, subst, get_or, length}
use Rattle.std.specs.FinMap.{find}
use Rattle.std.proofs.lemmas.Option.{get_or_from_slice_get, slice_get_within}
use Rattle.semantics.specs.Elements.{Field, Name, name_cmp, is_same}
use Rattle.semantics.specs.Paths.{FieldHop}
use Rattle.tree.specs.Nodes.{links, links_of}
use Rattle.tree.specs.Shown.{ShownBut}
use Rattle.tree.proofs.Shape.{number_child}
use Rattle.tree.proofs.Showing.{but_lost}
use Rattle.tree.proofs.show.show_field.Goals as goal

pub returns-in_err-position-clause-shown : goal.returns-in_err-position-clause-shown
returns-in_err-position-clause-shown c = λ e off at s.
    let ns = c.args.nodes.now in
    let k = c.args.key.now in
    but_lost ns (Field e k) off
    (number_child ns e c.args.at (FieldHop k) at ∙ ap (λ o. find name_cmp k (links_of o).0) c.node_at.ensures ∙ c.in_err-position.ensures) s

pub flag_field-requires-clause-within : goal.flag_field-requires-clause-within
flag_field-requires-clause-within c =
    let there = c.in_ok-position.ensures in
    subst (λ o. c.in_ok-position.position < length (links_of o).0) (sym c.node_at.ensures)
    (slice_get_within c.node_at.result.now.fields.entries c.in_ok-position.position (c.args.key.now, c.in_ok-position.number) there.0)

pub flag_field-requires-clause-field : goal.flag_field-requires-clause-field
flag_field-requires-clause-field c = λ d.
    let there = c.in_ok-position.ensures in
    let fs = c.node_at.result.now.fields.entries in
    let e : Name × ℕ = (c.args.key.now, c.in_ok-position.number) in
    ap (λ o. find name_cmp (get_or (links_of o).0 c.in_ok-position.position d).0 (links_of o).0) c.node_at.ensures
    ∙ ap (λ (x : Name × ℕ). find name_cmp x.0 fs) (get_or_from_slice_get fs c.in_ok-position.position e d there.0)
    ∙ there.1 ∙ ap Some (sym c.new-field.ensures)

pub returns-clause-shown : goal.returns-clause-shown
returns-clause-shown c = λ e off at s.
    let there = c.in_ok-position.ensures in
    let ns = c.args.nodes.now in
    let d : Name × ℕ = (c.args.key.now, c.in_ok-position.number) in
    let key : get_or (links ns c.args.at).0 c.in_ok-position.position d ≡ d =
    ap (λ o. get_or (links_of o).0 c.in_ok-position.position d) c.node_at.ensures
    ∙ get_or_from_slice_get c.node_at.result.now.fields.entries c.in_ok-position.position d d there.0 in
    c.flag_field.ensures.shown e off d at
    (subst (λ (x : Name × ℕ). ShownBut ns (λ y. is_same y (Field e x.0) || off y)) (sym key) s)
