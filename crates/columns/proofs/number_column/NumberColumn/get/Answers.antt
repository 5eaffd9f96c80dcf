use Rattle.std.proofs.Common.{◌∙◌, sym, ap, Some, arith}
use Rattle.std.proofs.lemmas.List.{get_or_default}
use Rattle.semantics.specs.Ids.{id_at}
use Rattle.columns.proofs.NumbersByReplica.{run_absent, run_at}
use Rattle.columns.proofs.number_column.NumberColumn.get.Goals as goal

pub returns-in-None : goal.returns-in-None
returns-in-None c =
    let d = c.args.self.now in
    sym (run_absent (id_at c.args.counter d.replica) d.replica d.counters.items d.numbers.items c.in-None.ensures)

pub returns-in-Some : goal.returns-in-Some
returns-in-Some c =
    let d = c.args.self.now in
    let long = c.requires.long in
    let within = c.in-Some.ensures.0 in
    ap Some (c.index.ensures ∙ get_or_default d.numbers.items c.in-Some.position c.index.result.now 0 (omega (arith, long, within)))
    ∙ sym (run_at (id_at c.args.counter d.replica) d.counters.items d.numbers.items c.in-Some.position c.requires.rising c.requires.long
    c.in-Some.ensures.0 (c.in-Some.ensures.1 0))
