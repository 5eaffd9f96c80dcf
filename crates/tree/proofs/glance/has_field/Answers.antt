use Rattle.std.proofs.Common.{◌+◌, ◌<◌, ◌≤◌, ◌++◌, ◌∷◌, [], ℕ, Bool, cond, filter, get_or, length, map, take, ap, sym, ◌∙◌}
use Rattle.std.proofs.Common.{arith, append-nil}
use Rattle.std.proofs.lemmas.List.{take_all}
use Rattle.semantics.specs.Elements.{Field, Name}
use Rattle.semantics.specs.DocumentAnswer.{is_any}
use Rattle.tree.specs.Nodes.{context, links, links_of, names_in, node_in}
use Rattle.tree.proofs.Answering.{any_within, field_shows, wanted_next, wanted_skip}
use Rattle.tree.proofs.glance.has_field.Goals as goal

pub loop-position-init : goal.loop-position-init
loop-position-init c = λ e at.
    let ns = c.args.nodes.now in
    let next = c.next_field-position in
    wanted_skip ns (λ n. is_any ((context ns).presence (Field e n))) (links ns c.args.at).0 ([], 0) 0 next.result next.ensures.from
    next.ensures.within (λ i low high. next.ensures.passed e i ([], 0) at c.requires.empty low high)

pub loop-position-preserved : goal.loop-position-preserved
loop-position-preserved c = λ e at.
    let ns = c.args.nodes.now in
    let fs = (links ns c.args.at).0 in
    let k = c.loop-position.position in
    let d : Name × ℕ = ([], 0) in
    let p : Name → Bool = λ n. is_any ((context ns).presence (Field e n)) in
    let within : k < length fs = let n = c.count_fields-fields.ensures in omega arith in
    let shows = sym (field_shows ns c.requires.tree e c.args.at k c.field_at.result d at within (c.field_at.ensures.number e d at))
    ∙ sym c.is_field.ensures ∙ c.if-is_field.false in
    let later = c.next_field-position-in-loop-position in
    wanted_skip ns p fs d (k + 1) later.result later.ensures.from later.ensures.within
    (λ i low high. later.ensures.passed e i d at c.requires.empty low high)
    ∙ wanted_next ns p fs k d within
    ∙ ap (λ b. filter p (map (λ x. x.0) (names_in ns (take k fs))) ++ cond b ((get_or fs k d).0 ∷ []) []) shows
    ∙ append-nil (filter p (map (λ x. x.0) (names_in ns (take k fs))))
    ∙ c.loop-position.invariant e at

pub returns-then-is_field : goal.returns-then-is_field
returns-then-is_field c = λ e at.
    let ns = c.args.nodes.now in
    let fs = (links ns c.args.at).0 in
    let k = c.loop-position.position in
    let d : Name × ℕ = ([], 0) in
    let p : Name → Bool = λ n. is_any ((context ns).presence (Field e n)) in
    let within : k < length fs = let n = c.count_fields-fields.ensures in omega arith in
    let shows = sym (field_shows ns c.requires.tree e c.args.at k c.field_at.result d at within (c.field_at.ensures.number e d at))
    ∙ sym c.is_field.ensures ∙ c.if-is_field.true in
    let front = wanted_next ns p fs k d within
    ∙ ap (λ b. filter p (map (λ x. x.0) (names_in ns (take k fs))) ++ cond b ((get_or fs k d).0 ∷ []) []) shows
    ∙ ap (λ xs. xs ++ (get_or fs k d).0 ∷ []) (c.loop-position.invariant e at) in
    sym
    (ap (λ o. is_any (filter p (map (λ x. x.0) (names_in ns (links_of (node_in ns o)).0)))) at
    ∙ any_within ns p fs (k + 1) (ap is_any front))

pub returns : goal.returns
returns c = λ e at.
    let ns = c.args.nodes.now in
    let fs = (links ns c.args.at).0 in
    let p : Name → Bool = λ n. is_any ((context ns).presence (Field e n)) in
    let all : length fs ≤ c.loop-position.position = let n = c.count_fields-fields.ensures in omega arith in
    sym
    (ap (λ o. is_any (filter p (map (λ x. x.0) (names_in ns (links_of (node_in ns o)).0)))) at
    ∙ ap (λ gs. is_any (filter p (map (λ x. x.0) (names_in ns gs)))) (sym (take_all c.loop-position.position fs all))
    ∙ ap is_any (c.loop-position.invariant e at))
