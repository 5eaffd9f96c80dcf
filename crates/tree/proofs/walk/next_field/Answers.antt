use Rattle.std.proofs.Common.{◌<◌, ◌≤◌, sym, ap, ◌∙◌, subst, get_or, length, arith}
use Rattle.std.specs.Prelude.{unwrap_or, false}
use Rattle.std.proofs.lemmas.Option.{slice_get-get_or}
use Rattle.tree.specs.Nodes.{is_flagged, links_of}
use Rattle.tree.proofs.Flagging.{passed_field}
use Rattle.tree.proofs.walk.next_field.Goals as goal

pub next_flagged-requires : goal.next_flagged-requires
next_flagged-requires c = subst (λ o. c.args.from ≤ length (links_of o).0) c.node_at.ensures c.requires.from

pub returns-clause-within : goal.returns-clause-within
returns-clause-within c = subst (λ o. c.next_flagged.result ≤ length (links_of o).0) (sym c.node_at.ensures) c.next_flagged.ensures.within

pub returns-clause-passed : goal.returns-clause-passed
returns-clause-passed c = λ e i d at empty low high.
    let n = c.node_at.result.now in
    let fs = n.fields.entries in
    let within = c.next_flagged.ensures.within in
    let entry = get_or fs i d in
    passed_field c.args.nodes.now e c.args.at n i d at c.node_at.ensures empty
    (c.next_flagged.ensures.passed i entry.0 entry.1 low high (slice_get-get_or fs i d (omega (arith, high, within))))

pub returns-clause-flagged : goal.returns-clause-flagged
returns-clause-flagged c = λ d lt.
    let n = c.node_at.result.now in
    let fs = n.fields.entries in
    let k = c.next_flagged.result in
    let entry = get_or fs k d in
    let inside : k < length fs = subst (λ o. k < length (links_of o).0) c.node_at.ensures lt in
    ap (λ o. is_flagged o (get_or (links_of o).0 k d).0) c.node_at.ensures
    ∙ ap (λ o. unwrap_or o false) (c.next_flagged.ensures.flagged entry.0 entry.1 (slice_get-get_or fs k d inside))
