use Rattle.jdoc_c.proofs.Feeding.{took_more}
use Rattle.jdoc_c.proofs.reader.take_all.Goals as goal

pub loop-preserved : goal.loop-preserved
loop-preserved c = record {
  follows = λ follows. c.take_in.ensures.follows (c.loop.invariant.follows follows);
  grows = took_more c.in-Ok-true.field-0 c.args.follower.now.document.entries c.loop.follower.document.entries
      c.take_in.new.self.document.entries c.in-Ok-true.ensures.took c.loop.invariant.grows;
}
