use Rattle.std.proofs.Common.{sym, ◌∙◌, true≢false}
use Rattle.replica.proofs.Leaving.{appended, next_fits, next_may_follow, next_room, next_waits}
use Rattle.replica.proofs.replica.Replica.commit_peer.Goals as goal

pub unreachable-requires : goal.unreachable-requires
unreachable-requires c = true≢false
    (sym (next_waits _ _ c.self.invariant c.self.view_is c.args.id c.requires) ∙ c.in_default.ensures.none)

pub commit-requires-clause-room : goal.commit-requires-clause-room
commit-requires-clause-room c =
    next_room _ _ c.self.invariant c.self.view_is c.args.id c.requires c.in-Some.op c.in-Some.ensures.some

pub commit-requires-clause-lawful : goal.commit-requires-clause-lawful
commit-requires-clause-lawful c =
    next_may_follow _ _ c.self.invariant c.self.view_is c.args.id c.requires c.in-Some.op c.in-Some.ensures.some

pub commit-requires-clause-fits : goal.commit-requires-clause-fits
commit-requires-clause-fits c =
    next_fits _ _ c.self.invariant c.self.view_is c.args.id c.requires c.in-Some.op c.in-Some.ensures.some

pub invariant_of-self : goal.invariant_of-self
invariant_of-self c = (appended _ _ c.self.invariant c.self.view_is c.args.id c.requires c.in-Some.op c.in-Some.ensures.some
    c.commit.new.self c.take.new.self c.take.ensures.left c.take.ensures.among c.commit.ensures.members c.commit.ensures.entries).good

pub returns : goal.returns
returns c = (appended _ _ c.self.invariant c.self.view_is c.args.id c.requires c.in-Some.op c.in-Some.ensures.some
    c.commit.new.self c.take.new.self c.take.ensures.left c.take.ensures.among c.commit.ensures.members c.commit.ensures.entries).after
