use Rattle.std.proofs.Common.{◌≡◌, ◌∷◌, false, rules, sym, subst}
use Rattle.ids.specs.Tables.{lacks_room}
use Rattle.semantics.specs.Entries.{IsEntryHistory, stamped_in}
use Rattle.semantics.specs.Joining.{table_after}
use Rattle.inbox.specs.operation.declared.command.Entry.{Entry}
use Rattle.inbox.specs.operation.declared.command.Entry.TheVariants.{Own}
use Rattle.inbox.specs.operation.Ops.{entry_of}
use Rattle.replica.proofs.Own.{fits, lawful, made_of, room}
use Rattle.replica.proofs.handler.append_own.Goals as goal

pub add-requires-clause-lawful : goal.add-requires-clause-lawful
add-requires-clause-lawful g c =
    let h = g.P.Publish.publication c.args.publisher.now in
    let command : c.in_ok-clone.field-0 ≡ c.args.command.now = search rules in
    let same : c.in_ok-clone-2.field-0 ≡ Own c.args.client c.args.serial c.in_ok-clone.field-0 c.args.op = search rules in
    let next = made_of c.args.replica.now c.args.client c.args.serial c.args.command.now c.in_ok-clone.field-0 c.args.op command
    c.requires.made c.requires.room c.requires.above in
    subst (λ (e : Entry). IsEntryHistory h.own (entry_of e ∷ h.appended)) (sym same)
    (lawful h c.args.replica.now c.requires.holds c.requires.running
    (Own c.args.client c.args.serial c.in_ok-clone.field-0 c.args.op) next)

pub add-requires-clause-room : goal.add-requires-clause-room
add-requires-clause-room g c =
    let command : c.in_ok-clone.field-0 ≡ c.args.command.now = search rules in
    room (g.P.Publish.publication c.args.publisher.now) c.args.replica.now c.requires.holds
    (Own c.args.client c.args.serial c.in_ok-clone.field-0 c.args.op)
    (made_of c.args.replica.now c.args.client c.args.serial c.args.command.now c.in_ok-clone.field-0 c.args.op command
    c.requires.made c.requires.room c.requires.above)

pub add-requires-clause-fits : goal.add-requires-clause-fits
add-requires-clause-fits g c =
    let h = g.P.Publish.publication c.args.publisher.now in
    let same : c.in_ok-clone-2.field-0 ≡ Own c.args.client c.args.serial c.in_ok-clone.field-0 c.args.op = search rules in
    subst (λ (e : Entry). lacks_room (table_after h.members h.appended) (stamped_in (entry_of e)).id.replica ≡ false) (sym same)
    (fits h c.args.replica.now c.requires.holds c.args.op.id.replica c.requires.member)

pub commit_made-requires : goal.commit_made-requires
commit_made-requires g c =
    let command : c.in_ok-clone.field-0 ≡ c.args.command.now = search rules in
    made_of c.args.replica.now c.args.client c.args.serial c.args.command.now c.in_ok-clone.field-0 c.args.op command
    c.requires.made c.requires.room c.requires.above
