use Rattle.std.proofs.Common.{◌∙◌, List, drop, ap}
use Rattle.std.proofs.lemmas.List.{drop-drop}
use Rattle.replica.specs.operation.declared.command.Entry.{Entry}
use Rattle.world.proofs.Publishing.{published_on}
use Rattle.world.proofs.publisher.publish_all.Goals as goal

pub returns-in_err-publish_oldest-clause-more : goal.returns-in_err-publish_oldest-clause-more
returns-in_err-publish_oldest-clause-more c =
    published_on c.args.published.now c.loop.published c.publish_oldest.new.published c.args.pending.now.items c.loop.pending.items
    c.publish_oldest.new.pending.items
    c.loop.invariant.more c.publish_oldest.ensures.more

pub loop-preserved : goal.loop-preserved
loop-preserved c = record {
  more =
      published_on c.args.published.now c.loop.published c.publish_oldest.new.published c.args.pending.now.items c.loop.pending.items
      c.publish_oldest.new.pending.items
      c.loop.invariant.more c.publish_oldest.ensures.more;
  left = c.in_ok-publish_oldest.ensures.one ∙ ap (λ (es : List Entry). drop 1 es) c.loop.invariant.left
      ∙ drop-drop 1 c.loop.counter c.args.pending.now.items;
}
