use Rattle.std.proofs.Common.{◌≡◌}
use Rattle.crossbeam_queue.specs.Passes.{view}
use Rattle.engine.proofs.Gathering.{Gathering}
use Rattle.engine.proofs.closing.close.Given as goal

abbrev pub invariant-loop-client : goal.invariant-loop-client
invariant-loop-client g l =
    (goal.iterator-loop-client g).can_next l.client-iterator
    × (goal.iterator-loop-client g).is_finite l.client-iterator
    × Gathering l.fn.clients.items l.yielded l.client-iterator.rest.items
    (view l.taker.pass).known l.publisher.published
    × ((view l.taker.pass).got ≡ (view l.initial.taker.pass).got)
    × (l.taker.pass.table_id ≡ l.initial.taker.pass.table_id)
    × ((view l.taker.pass).made ≡ (view l.initial.taker.pass).made)
