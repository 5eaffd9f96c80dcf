use Rattle.std.proofs.Common.{Result, Ok, Err}
use Rattle.std.specs.Prelude.{OnErr}
use Rattle.replica_tests.proofs.tests.playing.try_turn.Goals as goal

-- what is so of each answer is so of a refusal
on_each : {T E P : Type 0} (r : Result T E) → P → OnErr r P
on_each (Ok x) p = tt
on_each (Err why) p = p

pub returns-in_err-drain-in-Drain-clause-err : goal.returns-in_err-drain-in-Drain-clause-err
returns-in_err-drain-in-Drain-clause-err g c = on_each c.from_residual-in_err-drain-in-Drain.result
    (c.drain.ensures c.args.serial c.requires)

pub returns-in_err-append_next-in-Next-clause-err : goal.returns-in_err-append_next-in-Next-clause-err
returns-in_err-append_next-in-Next-clause-err g c = on_each c.from_residual-in_err-append_next-in-Next.result
    (c.append_next.ensures c.args.serial c.requires)
