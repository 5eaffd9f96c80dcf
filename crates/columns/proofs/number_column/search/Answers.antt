use Rattle.std.proofs.Common.{sym, get_or}
use Rattle.std.specs.FinMap.{nat_cmp-IsAntisymmetric}
use Rattle.columns.proofs.Counters.{absent, answers_rise, elsewhere}
use Rattle.columns.proofs.number_column.search.Goals as goal

pub returns-in-Ok : goal.returns-in-Ok
returns-in-Ok c = (
  c.in-Ok.ensures.bound,
  λ d. nat_cmp-IsAntisymmetric (get_or c.args.counters.now c.in-Ok.position d) c.args.counter (c.in-Ok.ensures.ok d),
)

pub returns-in-Err : goal.returns-in-Err
returns-in-Err c =
    let ks = c.args.counters.now in
    sym (absent c.args.counter ks (elsewhere c.args.counter ks c.in-Err.field-0
    (c.in-Err.ensures.position (answers_rise c.args.counter ks c.requires)))).1
