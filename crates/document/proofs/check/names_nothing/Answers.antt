use Rattle.std.proofs.Common.{rules, not, sym, ap, ◌∙◌}
use Rattle.std.specs.List.{list_any}
use Rattle.std.proofs.lemmas.Iterator.{YieldsList-from_slice}
use Rattle.std.proofs.lemmas.Iterator.Search.{any_from_yields_List}
use Rattle.semantics.specs.Ids.{OpId}
use Rattle.semantics.specs.LegalHistory.{has_id}
use Rattle.semantics.specs.Entries.{applied}
use Rattle.semantics.specs.Faults.{is_of_nobody}
use Rattle.oplog.specs.operation.SameOps.{vectors_decide}
use Rattle.document.proofs.AllApplied.{applied_names_all, none_unknown}
use Rattle.document.proofs.AmongNamed.{any_of_nobody}
use Rattle.document.proofs.check.names_nothing.Goals as goal

pub returns-then-names_all : goal.returns-then-names_all
returns-then-names_all c = λ s is.
    let H = applied c.args.log.now.entries in
    let v = c.args.vector.now in
    let same = (vectors_decide v c.args.applied.now.ids).0 (sym c.names_all.ensures ∙ c.if-names_all.true) in
    sym (none_unknown H v (applied_names_all H v (same ∙ c.requires)))
    ∙ ap (λ w. list_any (λ a. is_of_nobody H w a.replica) w) (sym is)

pub returns : goal.returns
returns c = λ s is.
    let H = applied c.args.log.now.entries in
    any_from_yields_List (λ (a : OpId). not (has_id H a)) _ _ c.any.result c.any.ensures.ran (YieldsList-from_slice c.ids.result.now cc)
    (λ x b q k. search rules)
    ∙ ap (list_any (λ (a : OpId). not (has_id H a))) c.ids.ensures.ids
    ∙ any_of_nobody H c.args.vector.now c.ids.ensures.named.canonical
    ∙ ap (λ w. list_any (λ a. is_of_nobody H w a.replica) w) (sym is)
