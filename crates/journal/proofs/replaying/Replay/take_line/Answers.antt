use Rattle.std.proofs.Common.{◌≡◌, ◌∷◌, [], List, Ok, map, sym, ap, ◌∙◌, subst}
use Rattle.semantics.specs.Entries.{Entry}
use Rattle.peer_sync.specs.operation.declared.command.Entry.{Entry as AnEntry}
use Rattle.peer_sync.specs.operation.Ops.{entry_of}
use Rattle.semantics.specs.Journals.{entries_from, recorded}
use Rattle.semantics.specs.WorldHistory.{BeginsWith}
use Rattle.semantics.proofs.GrownEngines.{begins_trans}
use Rattle.journal.proofs.replaying.Replay.take_line.Goals as goal

-- what was read after the writer's step begins with what was seen before
grown : (C T S E : List Entry) → T ≡ C → BeginsWith S T → BeginsWith E S → BeginsWith E C
grown C T S E same settled read = begins_trans E S C read (subst (BeginsWith S) same settled)

pub returns-in_err-entries-clause-grows : goal.returns-in_err-entries-clause-grows
returns-in_err-entries-clause-grows g c =
    grown c.args.client.now.seen c.submit.new.client.seen c.settle.new.client.seen c.entries_from.new.self.seen
    c.submit.ensures c.settle.ensures c.entries_from.ensures.grows

pub returns-in_err-counter-clause-grows : goal.returns-in_err-counter-clause-grows
returns-in_err-counter-clause-grows g c =
    grown c.args.client.now.seen c.submit.new.client.seen c.settle.new.client.seen c.entries_from.new.self.seen
    c.submit.ensures c.settle.ensures c.entries_from.ensures.grows

pub returns-clause-grows : goal.returns-clause-grows
returns-clause-grows g c =
    grown c.args.client.now.seen c.submit.new.client.seen c.settle.new.client.seen c.entries_from.new.self.seen
    c.submit.ensures c.settle.ensures c.entries_from.ensures.grows

pub returns-clause-ok : goal.returns-clause-ok
returns-clause-ok g c = record {
  begins = grown c.args.client.now.seen c.submit.new.client.seen c.settle.new.client.seen c.entries_from.new.self.seen
      c.submit.ensures c.settle.ensures c.entries_from.ensures.grows;
  records =
      (λ i. c.in_ok-said.ensures i ∷ [])
      ∙ ap (map (λ x. Ok x))
      (sym c.in_ok-counter.ensures.ok
      ∙ ap (λ (es : List AnEntry). map recorded (map entry_of es)) c.as_slice.ensures.value
      ∙ ap (map recorded) (c.in_ok-entries.ensures.entries
      ∙ ap (λ n. entries_from n c.entries_from.new.self.seen) c.seen_len-position.ensures.length));
}
