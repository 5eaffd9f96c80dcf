use Rattle.store.proofs.WholeText.{whole-none, whole-upto}
use Rattle.store.proofs.saved.whole_len.Goals as goal

pub returns-in-Some : goal.returns-in-Some
returns-in-Some c = whole-upto c.args.bytes.now c.in-Some.last c.in-Some.ensures.0 c.in-Some.ensures.1

pub returns-in-None : goal.returns-in-None
returns-in-None c = whole-none c.args.bytes.now c.in-None.ensures
