-- this many clients were made of the last tokens
use Rattle.std.proofs.Common.{◌≡◌, ◌+◌, ◌≤◌, [], length, vec_capacity}
use Rattle.std.specs.List.{All}
use Rattle.std.specs.Arc.{arc_value}
use Rattle.crossbeam_queue.specs.Passes.{ruled_capacity, view}
use Rattle.command.specs.published.Rules.{IsQueueOf}
use Rattle.engine.specs.Clients.{AreNumbered, IsNewClient}
use Rattle.engine.proofs.opening.new_ends.Given as goal

abbrev pub invariant-loop-number : goal.invariant-loop-number
invariant-loop-number g l = record {
  got : (view l.taker.pass).got ≡ [];
  known : (view l.taker.pass).known ≡ [];
  made : (view l.taker.pass).made ≡ l.number;
  found_empty : l.taker.found_empty ≡ 0;
  capacity : ruled_capacity (arc_value l.taker.queue) ≡ l.fn.config.queue;
  are : AreNumbered 0 l.clients.items;
  named : IsQueueOf l.taker.pass.table_id l.queue_name.seen.log;
  count : length l.clients.items ≡ l.number;
  new : All (IsNewClient l.fn.config) l.clients.items;
  tokens : length l.tokens.items + l.number ≡ l.fn.config.clients + l.fn.config.readers;
  unseen : All (λ s. s.seen ≡ []) l.tokens.items;
  room : l.fn.config.clients ≤ vec_capacity l.clients;
}
