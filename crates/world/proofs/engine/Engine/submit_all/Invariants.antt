-- What is left decides, after some were submitted.
use Rattle.std.proofs.Common.{◌≡◌, ◌+◌, ◌<◌, Option, length, map}
use Rattle.std.specs.Vec.Iter.{into_iter_items, into_iter_len}
use Rattle.ids.specs.declared.refusal.Refusal.{Refusal}
use Rattle.semantics.specs.PeerSteps.{submit_all}
use Rattle.semantics.specs.WorldHistory.{HasGrown}
use Rattle.semantics.proofs.SoundEngines.{IsSound}
use Rattle.replica.specs.operation.Ops.{stamped_of}
use Rattle.world.proofs.engine.Engine.submit_all.Given as goal

abbrev pub invariant-loop-op : goal.invariant-loop-op
invariant-loop-op l = record {
  whole : into_iter_len l.op-iterator ≡ length (into_iter_items l.op-iterator);
  count : l.submitted + length (into_iter_items l.op-iterator) ≡ length l.fn.ops.items;
  there : l.fn.client < length l.self.clients;
  sound : IsSound l.self;
  still : l.self.replica ≡ l.fn.self.replica;
  grown : HasGrown l.fn.self l.self;
  left : (bad : Option Refusal)
      → submit_all l.fn.client bad l.submitted l.self (map stamped_of (into_iter_items l.op-iterator))
      ≡ submit_all l.fn.client bad 0 l.fn.self (map stamped_of l.fn.ops.items);
}
