-- Some were published, and the others are left.
use Rattle.std.proofs.Common.{◌≡◌, drop}
use Rattle.world.specs.Publishers.{PublishesMore}
use Rattle.world.proofs.publisher.publish_all.Given as goal

abbrev pub invariant-loop : goal.invariant-loop
invariant-loop l = record {
  more : PublishesMore l.fn.published l.fn.pending.items l.published l.pending.items;
  left : l.pending.items ≡ drop l.counter l.fn.pending.items;
}
