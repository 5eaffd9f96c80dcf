use Rattle.std.proofs.Common.{◌≡◌, sym, subst}
use Rattle.semantics.specs.Entries.{stamped_in}
use Rattle.semantics.proofs.JoinedReplicas.{room_after}
use Rattle.inbox.specs.operation.declared.command.Entry.{Entry}
use Rattle.inbox.specs.operation.Ops.{entry_of}
use Rattle.replica.specs.contracts.replica.Replica.{the_view}
use Rattle.replica.specs.Replicas.{Running, IsNextOwn}
use Rattle.replica.proofs.OwnEntries.{own_follows, own_member, own_next, own_room}
use Rattle.replica.proofs.replica.Replica.commit_made.Goals as goal

-- the entry may come next in r, which is q
next : (r q : Running) (e : Entry) → r ≡ q → IsNextOwn q e → IsNextOwn r e
next r q e is = subst (λ (t : Running). IsNextOwn t e) (sym is)

pub commit-requires-clause-room : goal.commit-requires-clause-room
commit-requires-clause-room c = own_room (the_view c.self.inside) c.args.entry (next _ _ c.args.entry c.self.view_is c.requires)

pub commit-requires-clause-lawful : goal.commit-requires-clause-lawful
commit-requires-clause-lawful c =
    own_follows _ c.self.invariant c.args.entry (next _ _ c.args.entry c.self.view_is c.requires)

pub commit-requires-clause-fits : goal.commit-requires-clause-fits
commit-requires-clause-fits c =
    let d = c.self.inside.document in
    room_after d.members (stamped_in (entry_of c.args.entry)).id.replica
    (own_member _ c.self.invariant c.args.entry (next _ _ c.args.entry c.self.view_is c.requires)) d.entries

pub invariant_of-self : goal.invariant_of-self
invariant_of-self c =
    own_next _ c.self.invariant c.args.entry (next _ _ c.args.entry c.self.view_is c.requires) c.commit.new.self
    c.commit.ensures.members c.commit.ensures.entries
