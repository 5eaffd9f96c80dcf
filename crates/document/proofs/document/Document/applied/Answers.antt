use Rattle.document.proofs.Consistent.{greatest_applied, is_named, within_length}
use Rattle.document.proofs.document.Document.applied.Goals as goal

pub returns-clause-all : goal.returns-clause-all
returns-clause-all c = rw (← c.self.view_is) c.self.invariant.consistent.vector

pub returns-clause-named : goal.returns-clause-named
returns-clause-named c = is_named _ _ _ _ c.self.invariant.consistent

pub returns-clause-greatest : goal.returns-clause-greatest
returns-clause-greatest c = rw (← c.self.view_is) (greatest_applied _ _ _ _ c.self.invariant.consistent)

pub returns-clause-few : goal.returns-clause-few
returns-clause-few c = rw (← c.self.view_is) (within_length _ _ _ _ c.self.invariant.consistent)
