use Rattle.jdoc_c.proofs.writer.Writer.follower.Goals as goal

pub invariant_of-self : goal.invariant_of-self
invariant_of-self c = record { fed = c.follower.ensures.fed c.args.self.now.desk.replica.entries c.args.self.now.fed }
