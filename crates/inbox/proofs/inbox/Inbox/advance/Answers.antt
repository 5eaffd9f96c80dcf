use Rattle.std.proofs.Common.{sym, subst}
use Rattle.semantics.specs.Vectors.{IsCanonical}
use Rattle.inbox.proofs.KeptOps.{advanced}
use Rattle.inbox.proofs.inbox.Inbox.advance.Goals as goal

pub advance-requires-clause-canonical : goal.advance-requires-clause-canonical
advance-requires-clause-canonical c = subst IsCanonical (sym c.ids.ensures.ids) c.ids.ensures.canonical

pub advance-requires-clause-there : goal.advance-requires-clause-there
advance-requires-clause-there c = (c.self.inside.keys.entries, c.self.invariant.awaiting)

pub invariant_of-self : goal.invariant_of-self
invariant_of-self c =
    let d = c.self.inside in
    (advanced d.ops c.advance.new.ops d.keys.entries c.args.self.now d.waits c.advance.new.self c.self.view_is c.advance.ensures.same
    (c.advance.ensures.kept d.keys.entries) c.self.invariant).0

pub returns : goal.returns
returns c =
    let d = c.self.inside in
    record {
      same = (advanced d.ops c.advance.new.ops d.keys.entries c.args.self.now d.waits c.advance.new.self c.self.view_is
          c.advance.ensures.same (c.advance.ensures.kept d.keys.entries) c.self.invariant).1;
    }
