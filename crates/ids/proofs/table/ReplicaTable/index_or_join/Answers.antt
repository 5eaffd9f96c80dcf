use Rattle.std.proofs.Common.{refl}
use Rattle.ids.proofs.Tables.{has_room}
use Rattle.ids.proofs.table.ReplicaTable.index_or_join.Goals as goal

pub join-requires-clause-new : goal.join-requires-clause-new
join-requires-clause-new c = c.in-None.ensures.none.0 refl

pub join-requires-clause-few : goal.join-requires-clause-few
join-requires-clause-few c = has_room c.args.self.now.numbers c.args.replica (c.in-None.ensures.none.0 refl) c.requires.fits
