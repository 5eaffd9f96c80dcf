use Rattle.std.proofs.Common.{rules, sym, ap, ◌∙◌}
use Rattle.std.specs.List.{list_any}
use Rattle.std.proofs.lemmas.Iterator.{YieldsList-from_slice}
use Rattle.std.proofs.lemmas.Iterator.Search.{any_from_yields_List}
use Rattle.semantics.specs.Entries.{stamped_entries}
use Rattle.semantics.specs.Stamped.{operations_of}
use Rattle.oplog.specs.operation.SameOps.{vectors_decide}
use Rattle.document.specs.Checks.{opens}
use Rattle.document.proofs.AllApplied.{all_closed, applied_names_all}
use Rattle.document.proofs.ReceivedFaults.{any_opens}
use Rattle.document.proofs.check.is_open.Goals as goal

pub returns-then-names_all : goal.returns-then-names_all
returns-then-names_all c =
    let G = stamped_entries c.args.log.now.entries in
    let v = c.args.vector.now in
    let same = (vectors_decide v c.args.applied.now.ids).0 (sym c.names_all.ensures ∙ c.if-names_all.true) in
    sym (all_closed G v c.requires.legal (applied_names_all (operations_of G) v (same ∙ c.requires.applied)))

pub returns : goal.returns
returns c =
    let G = c.args.log.now.entries in
    let v = c.args.vector.now in
    any_opens G v c.any.result c.ids.ensures.named.canonical c.requires.legal
    (any_from_yields_List (opens G v) _ _ c.any.result c.any.ensures.ran (YieldsList-from_slice c.ids.result.now cc)
    (λ x b q k. search rules)
    ∙ ap (list_any (opens G v)) c.ids.ensures.ids)
