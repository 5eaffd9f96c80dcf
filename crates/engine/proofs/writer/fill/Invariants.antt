use Rattle.std.proofs.Common.{◌≡◌, ◌≤◌, vec_capacity, vec_len}
use Rattle.crossbeam_queue.specs.Passes.{view}
use Rattle.semantics.specs.Publication.{Holds}
use Rattle.replica.specs.Replicas.{replica_of}
use Rattle.replica.specs.Handlers.{handler_of}
use Rattle.engine.specs.WriterSteps.{publication_of}
use Rattle.engine.proofs.Filling.{IsFilling}
use Rattle.engine.proofs.writer.fill.Given as goal

abbrev pub invariant-loop : goal.invariant-loop
invariant-loop g l = record {
  filling : IsFilling (handler_of l.fn.handler) (view l.fn.taker.pass).got l.held.items (handler_of l.handler)
      (view l.taker.pass).got;
  taker : (l.taker.pass.table_id ≡ l.fn.taker.pass.table_id) × ((view l.taker.pass).known ≡ (view l.fn.taker.pass).known)
      × ((view l.taker.pass).made ≡ (view l.fn.taker.pass).made);
  holds : Holds (publication_of g.N.EngineName.own g.N.EngineName.table l.publisher) (replica_of l.handler.replica);
  published : l.publisher.published ≡ l.fn.publisher.published;
  room : l.batch ≤ vec_capacity l.held;
  count : vec_len l.held ≡ l.counter;
  empty : l.taker.found_empty ≡ l.fn.taker.found_empty;
}
