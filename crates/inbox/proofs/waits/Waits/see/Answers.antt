use Rattle.std.proofs.Common.{refl, ap, ◌∙◌}
use Rattle.semantics.specs.Vectors.{raise}
use Rattle.inbox.proofs.KeptAwaits.{seen_more}
use Rattle.inbox.proofs.waits.Waits.see.Goals as goal

pub returns-clause-unseen : goal.returns-clause-unseen
returns-clause-unseen c = seen_more c.args.self.now (record c.args.self.now { seen = c.raise.new.self }) c.args.id.now refl
    (c.raise.ensures.ids ∙ ap (raise c.args.id.now) c.reserve_one.ensures.same) c.requires.passed
