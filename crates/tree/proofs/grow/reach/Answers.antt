use Rattle.tree.proofs.Grown.{kept_trans}
use Rattle.tree.proofs.grow.reach.Goals as goal

pub returns-in-None-clause-kept : goal.returns-in-None-clause-kept
returns-in-None-clause-kept c = kept_trans c.seek_child.ensures.kept c.make_child.ensures.kept
