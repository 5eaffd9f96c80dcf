use Rattle.std.proofs.Common.{◌≡◌, ◌++◌, map, drop, take}
use Rattle.semantics.specs.World.{world_after, replies_of}
use Rattle.world.specs.Engines.{message_of}
use Rattle.world.specs.Acts.{step_of, step_reply_of}
use Rattle.world.specs.Worlds.{world}
use Rattle.world.proofs.world.run_all.Given as goal

-- the replies so far and those to the steps that are left are those to all
abbrev pub invariant-loop-step : goal.invariant-loop-step
invariant-loop-step l = record {
  replies : map step_reply_of l.replies.items
      ++ replies_of (world l.engines.items (map message_of l.messages.items))
      (map step_of (drop l.step-index l.steps))
      ≡ replies_of (world l.fn.engines.items (map message_of l.fn.messages.items)) (map step_of l.steps);
  so_far : world l.engines.items (map message_of l.messages.items)
      ≡ world_after (world l.fn.engines.items (map message_of l.fn.messages.items))
      (take l.step-index (map step_of l.steps));
  world : world_after (world l.engines.items (map message_of l.messages.items))
      (map step_of (drop l.step-index l.steps))
      ≡ world_after (world l.fn.engines.items (map message_of l.fn.messages.items)) (map step_of l.steps);
  whole : l.whole ≡ l.step-index;
}
