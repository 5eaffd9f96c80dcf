use Rattle.std.proofs.Common.{rules, ◌+◌, ◌<◌, ◌≤◌, ◌++◌, List, ◌∷◌, [], ℕ, Bool, cond, filter, get_or, length, map, take, ap, sym, ◌∙◌}
use Rattle.std.proofs.Common.{arith, append-nil}
use Rattle.std.proofs.Common.{Vec}
use Rattle.std.proofs.Common.{Global}
use Rattle.std.proofs.lemmas.List.{take_all}
use Rattle.semantics.specs.Elements.{Field, Name}
use Rattle.semantics.specs.DocumentAnswer.{is_any}
use Rattle.tree.specs.Nodes.{context, links, links_of, names_in, node_in}
use Rattle.tree.proofs.Answering.{field_shows, first_wanted, wanted_next, wanted_skip}
use Rattle.tree.proofs.answer.present_keys.Goals as goal
use Rattle.tree.proofs.answer.present_keys.Goals.{then-is_field+in_ok-key+in_ok-push, else-is_field}

pub loop-position-init : goal.loop-position-init
loop-position-init c = record {
  few = let none = ap (λ (ks : List Name). length ks) c.new-keys.ensures.items in omega (arith, none);
  found = λ e at.
      let ns = c.args.nodes.now in
      let next = c.next_field-position in
      c.new-keys.ensures.items
      ∙ sym
      (wanted_skip ns (λ n. is_any ((context ns).presence (Field e n))) (links ns c.args.at).0 ([], 0) 0 next.result next.ensures.from
      next.ensures.within (λ i low high. next.ensures.passed e i ([], 0) at c.requires.empty low high));
}

-- the keys so far are those of the fields up to here at which something stands: this one is added where it shows, and what lies
-- between it and the next raised flag shows nothing
pub loop-position-preserved : goal.loop-position-preserved
loop-position-preserved c = record {
  few = elim c.if-is_field.branch [
    | then-is_field+in_ok-key+in_ok-push w ↦ let all = ap (λ (v : Vec Name Global). length v.items) w.keys-is in omega (arith, all)
    | else-is_field w ↦ search rules
  ];
  found = λ e at.
      let ns = c.args.nodes.now in
      let fs = (links ns c.args.at).0 in
      let k = c.loop-position.position in
      let d : Name × ℕ = ([], 0) in
      let p : Name → Bool = λ n. is_any ((context ns).presence (Field e n)) in
      let within : k < length fs = let n = c.count_fields-fields.ensures in omega arith in
      let field = c.keyed_field_at-field in
      let shows = sym (field_shows ns c.requires.tree e c.args.at k field.result.1 d at within (field.ensures.number e d at))
      ∙ sym c.is_field.ensures in
      let next = wanted_next ns p fs k d within
      ∙ ap (λ b. filter p (map (λ x. x.0) (names_in ns (take k fs))) ++ cond b ((get_or fs k d).0 ∷ []) []) shows in
      let later = c.next_field-position-in-loop-position in
      let skip = wanted_skip ns p fs d (k + 1) later.result later.ensures.from later.ensures.within
      (λ i low high. later.ensures.passed e i d at c.requires.empty low high) in
      elim c.if-is_field.branch [
        | then-is_field+in_ok-key+in_ok-push w ↦
            let key = c.keyed_field_at-field.ensures.key d ∙ sym w.in_ok-key.ensures.cases in
            ap (λ (v : Vec Name Global). v.items) w.keys-is ∙ w.in_ok-push.ensures.items
            ∙ ap (λ ks. ks ++ w.in_ok-key.key ∷ []) (c.loop-position.invariant.found e at)
            ∙ ap (λ n. filter p (map (λ x. x.0) (names_in ns (take k fs))) ++ n ∷ []) (sym key)
            ∙ sym
            (skip ∙ next ∙ ap
            (λ b. filter p (map (λ x. x.0) (names_in ns (take k fs))) ++ cond b ((get_or fs k d).0 ∷ []) []) w.if-is_field.true)
        | else-is_field w ↦
            ap (λ (v : Vec Name Global). v.items) w.keys-is ∙ c.loop-position.invariant.found e at
            ∙ sym (append-nil (filter p (map (λ x. x.0) (names_in ns (take k fs)))))
            ∙ sym
            (skip ∙ next ∙ ap
            (λ b. filter p (map (λ x. x.0) (names_in ns (take k fs))) ++ cond b ((get_or fs k d).0 ∷ []) []) w.if-is_field.false)
      ];
}

-- the keys so far are the first of all the keys
pub returns-then-len-count-clause-first : goal.returns-then-len-count-clause-first
returns-then-len-count-clause-first c = λ e at.
    let ns = c.args.nodes.now in
    let p : Name → Bool = λ n. is_any ((context ns).presence (Field e n)) in
    first_wanted ns p (links ns c.args.at).0 c.loop-position.position c.args.count c.loop-position.keys.items
    (let n = c.if-len-count.true in let all = c.len.ensures in omega (arith, n, all)) (c.loop-position.invariant.found e at)
    ∙ ap (λ o. take c.args.count (filter p (map (λ x. x.0) (names_in ns (links_of (node_in ns o)).0)))) (sym at)

-- the keys so far are all the keys
pub returns-clause-first : goal.returns-clause-first
returns-clause-first c = λ e at.
    let ns = c.args.nodes.now in
    let fs = (links ns c.args.at).0 in
    let p : Name → Bool = λ n. is_any ((context ns).presence (Field e n)) in
    let all : length fs ≤ c.loop-position.position = let n = c.count_fields-fields.ensures in omega arith in
    sym (take_all c.args.count c.loop-position.keys.items c.loop-position.invariant.few)
    ∙ ap (take c.args.count)
    (c.loop-position.invariant.found e at
    ∙ ap (λ gs. filter p (map (λ x. x.0) (names_in ns gs))) (take_all c.loop-position.position fs all)
    ∙ ap (λ o. filter p (map (λ x. x.0) (names_in ns (links_of (node_in ns o)).0))) (sym at))
