use Rattle.std.proofs.Common.{rules}
use Rattle.wire.proofs.ReadPlaces.{down_pushed}
use Rattle.wire.proofs.places.enter.Goals as goal

pub returns-in_ok-push-in-Some-Map-Field-clause-element : goal.returns-in_ok-push-in-Some-Map-Field-clause-element
returns-in_ok-push-in-Some-Map-Field-clause-element c = search (rules, down_pushed)

pub returns-in_ok-push-in-Some-List-Item-clause-element : goal.returns-in_ok-push-in-Some-List-Item-clause-element
returns-in_ok-push-in-Some-List-Item-clause-element c = search (rules, down_pushed)
