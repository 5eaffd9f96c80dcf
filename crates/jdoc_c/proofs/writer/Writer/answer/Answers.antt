use Rattle.followers.proofs.Sending.{all_grown}
use Rattle.jdoc_c.proofs.writer.Writer.answer.Goals as goal

pub invariant_of-self : goal.invariant_of-self
invariant_of-self c = record {
  fed = all_grown c.args.self.now.feeds.feeds.items c.args.self.now.desk.replica.entries c.respond.new.desk.replica.entries
      c.respond.ensures.grows c.args.self.now.fed;
}
