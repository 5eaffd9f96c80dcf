use Rattle.std.proofs.Common.{◌≡◌, ℕ, List, ◌∷◌, false, inl, refl, sym, ap, ◌∙◌, subst, arith}
use Rattle.ids.specs.Tables.{joined, lacks_room}
use Rattle.semantics.specs.Context.{apply}
use Rattle.semantics.specs.Entries.{applied, stamped_in, stamped_entries}
use Rattle.semantics.specs.Joining.{table_after}
use Rattle.semantics.specs.Stamped.{Stamped, MayFollow, loose_operation, operation_after}
use Rattle.semantics.proofs.AbsentIds.{fresh}
use Rattle.semantics.proofs.JoinedReplicas.{within_room}
use Rattle.semantics.proofs.LegalFacts.{counter_pos}
use Rattle.semantics.proofs.NamedOperations.{legal}
use Rattle.oplog.specs.operation.declared.command.Entry.{Entry}
use Rattle.oplog.specs.operation.Ops.{entry_of, stamped_of}
use Rattle.tree.specs.Trees.{document}
use Rattle.document.specs.Documents.{Contents, MayFollowEntries}
use Rattle.document.proofs.Consistent.{fits, kept_next, names_known_there}
use Rattle.document.proofs.document.Document.commit.Goals as goal
use Rattle.document.proofs.document.Document.commit.Goals.{After-deref-op}

-- what may follow what contracts see may follow the log's entries
lawful : (k l : Contents) (e : Entry) → k ≡ l → MayFollowEntries l.entries (entry_of e)
    → MayFollowEntries k.entries (entry_of e)
lawful k l e is may = subst (λ (k : Contents). MayFollowEntries k.entries (entry_of e)) (sym is) may

-- the operation that is applied is the entry's
is_it : (c : After-deref-op) → stamped_of c.deref-op.result.now ≡ stamped_in (entry_of c.args.entry)
is_it c = ap stamped_of c.deref-op.ensures ∙ c.op.ensures.stamped

-- it may follow the log's entries
may : (c : After-deref-op) (k : Contents) → k ≡ c.args.self.now → MayFollow (applied k.entries) (stamped_of c.deref-op.result.now)
may c k is = subst (MayFollow (applied k.entries)) (sym (is_it c)) (lawful k c.args.self.now c.args.entry is c.requires.lawful)

pub apply-requires-clause-placed : goal.apply-requires-clause-placed
apply-requires-clause-placed c =
    let d = c.self.inside in
    let s : After-deref-op = (goal.at.apply-requires-clause-placed c).After-deref-op in
    fits d.log.table d.applied.ids d.log.entries d.tree (stamped_of c.deref-op.result.now) c.self.invariant.consistent
    (may s _ c.self.view_is)

pub apply-requires-clause-known : goal.apply-requires-clause-known
apply-requires-clause-known c =
    let d = c.self.inside in
    let s : After-deref-op = (goal.at.apply-requires-clause-known c).After-deref-op in
    names_known_there d.log.table d.applied.ids d.log.entries d.tree c.self.invariant.consistent (stamped_of c.deref-op.result.now)
    c.ids.ensures.named.canonical (may s _ c.self.view_is)

pub raise-requires-clause-counted : goal.raise-requires-clause-counted
raise-requires-clause-counted c =
    let G = c.self.inside.log.entries in
    let s : After-deref-op = (goal.at.raise-requires-clause-counted c).After-deref-op in
    let mine = operation_after (applied G) (stamped_of c.deref-op.result.now) in
    counter_pos (mine ∷ applied G) (legal (stamped_entries G) c.self.invariant.consistent.legal, (may s _ c.self.view_is).follows) mine
    (inl refl)

pub raise-requires-clause-room : goal.raise-requires-clause-room
raise-requires-clause-room c =
    let room = ap (λ (k : Contents). k.room) c.self.view_is in omega (arith, room, c.requires.room.room)

pub push-requires-clause-room : goal.push-requires-clause-room
push-requires-clause-room c =
    let room = ap (λ (k : Contents). k.room) c.self.view_is in omega (arith, room, c.requires.room.room)

pub push-requires-clause-new : goal.push-requires-clause-new
push-requires-clause-new c = fresh (lawful _ _ c.args.entry c.self.view_is c.requires.lawful).follows

-- the log's table has room for a replica that fits by what contracts see
room : (k : Contents) (table : List ℕ) (p : ℕ) (l : Contents) → k ≡ l → table ≡ table_after k.members k.entries
    → lacks_room (table_after l.members l.entries) p ≡ false → lacks_room table p ≡ false
room k table p l is grown fits = subst (λ ps. lacks_room ps p ≡ false) (sym grown)
    (subst (λ (k : Contents). lacks_room (table_after k.members k.entries) p ≡ false) (sym is) fits)

pub apply-requires-clause-fits : goal.apply-requires-clause-fits
apply-requires-clause-fits c =
    let d = c.self.inside in
    let s : After-deref-op = (goal.at.apply-requires-clause-fits c).After-deref-op in
    let id = c.deref-op.result.now.id in
    subst (λ ps. lacks_room ps id.replica ≡ false) (sym c.self.invariant.consistent.fits)
    (subst (λ (t : Stamped). lacks_room d.log.table t.id.replica ≡ false) (sym (is_it s))
    (room _ d.log.table (stamped_in (entry_of c.args.entry)).id.replica _ c.self.view_is c.self.invariant.grown c.requires.fits))

pub push-requires-clause-fits : goal.push-requires-clause-fits
push-requires-clause-fits c = room _ c.self.inside.log.table (stamped_in (entry_of c.args.entry)).id.replica _ c.self.view_is
    c.self.invariant.grown c.requires.fits

pub invariant_of-self : goal.invariant_of-self
invariant_of-self c =
    let d = c.self.inside in
    let e = entry_of c.args.entry in
    let s : After-deref-op = (goal.at.invariant_of-self c).After-deref-op in
    let same : stamped_of c.deref-op.result.now ≡ stamped_in e = is_it s in
    rw (c.push.ensures.entries)
    (record {
      grown = c.push.ensures.table ∙ ap (joined (stamped_in e).id.replica) c.self.invariant.grown
          ∙ sym (within_room (stamped_in e).id.replica (table_after d.members.numbers d.log.entries)
          (ap (λ ps. lacks_room ps (stamped_in e).id.replica) (sym c.self.invariant.grown)
          ∙ room _ d.log.table (stamped_in e).id.replica _ c.self.view_is c.self.invariant.grown c.requires.fits));
      consistent = kept_next d.log.table c.push.new.self.table d.applied.ids c.raise.new.self.ids d.log.entries e
          c.deref-op.result.now.id d.tree c.apply.new.self (sym (ap (λ (s : Stamped). s.id) same)) c.self.invariant.consistent
          (lawful _ _ c.args.entry c.self.view_is c.requires.lawful)
          (room _ d.log.table (stamped_in e).id.replica _ c.self.view_is c.self.invariant.grown c.requires.fits)
          c.push.ensures.table
          c.apply.ensures.table
          (c.apply.ensures.applied ∙ ap (λ (s : Stamped). apply (document d.tree) (loose_operation s)) same)
          c.raise.ensures.ids;
    })
