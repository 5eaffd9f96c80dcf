use Rattle.std.proofs.Common.{sym, get_or}
use Rattle.std.specs.FinMap.{nat_cmp-IsAntisymmetric}
use Rattle.columns.proofs.Counters.{absent, answers_rise, elsewhere, removed, there_at}
use Rattle.columns.proofs.rising_counters.position_in.Goals as goal

pub returns-in-Ok-clause-left : goal.returns-in-Ok-clause-left
returns-in-Ok-clause-left c =
    let ks = c.args.counters.now in
    removed c.args.counter ks c.in-Ok.position c.requires c.in-Ok.ensures.bound
    (λ d. nat_cmp-IsAntisymmetric (get_or ks c.in-Ok.position d) c.args.counter (c.in-Ok.ensures.ok d))

pub returns-in-Ok-clause-there : goal.returns-in-Ok-clause-there
returns-in-Ok-clause-there c =
    let ks = c.args.counters.now in
    sym (there_at c.args.counter ks c.in-Ok.position c.in-Ok.ensures.bound
    (λ d. nat_cmp-IsAntisymmetric (get_or ks c.in-Ok.position d) c.args.counter (c.in-Ok.ensures.ok d)))

pub returns-in-Err-clause-left : goal.returns-in-Err-clause-left
returns-in-Err-clause-left c =
    let ks = c.args.counters.now in
    (absent c.args.counter ks (elsewhere c.args.counter ks c.in-Err.field-0
    (c.in-Err.ensures.position (answers_rise c.args.counter ks c.requires)))).0

pub returns-in-Err-clause-there : goal.returns-in-Err-clause-there
returns-in-Err-clause-there c =
    let ks = c.args.counters.now in
    (absent c.args.counter ks (elsewhere c.args.counter ks c.in-Err.field-0
    (c.in-Err.ensures.position (answers_rise c.args.counter ks c.requires)))).1
