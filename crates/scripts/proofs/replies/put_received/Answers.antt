use Rattle.scripts.proofs.replies.put_received.Goals as goal

pub returns-in-None : goal.returns-in-None
returns-in-None c = rw c.in-None.is c.put_two.ensures
