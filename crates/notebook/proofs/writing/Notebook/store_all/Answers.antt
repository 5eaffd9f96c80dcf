use Rattle.std.proofs.Common.{◌≡◌, ◌≤◌, ◌∙◌, ℕ, length, max, min, ap, sym, arith}
use Rattle.std.specs.Io.KnownBytes.{append_known}
use Rattle.semantics.specs.Journals.{entries_from}
use Rattle.journal.specs.records.Lines.{journal_text}
use Rattle.journal.specs.Outgoing.{Sending}
use Rattle.notebook.specs.Notebooks.{Notebook}
use Rattle.notebook.proofs.writing.Notebook.store_all.Goals as goal

-- all that was seen is called stored, and nothing less than before
reaches : (old new : Sending) (upto : ℕ) → new ≡ record old { stored = max old.stored (min upto (length old.seen)) }
    → upto ≡ length old.seen
    → length new.seen ≤ new.stored
reaches old new upto is all =
    let seen = ap (λ (o : Sending). length o.seen) is in
    let stored = ap (λ (o : Sending). o.stored) is in
    omega (arith, seen, stored, all)

rises : (old new : Sending) (upto : ℕ) → new ≡ record old { stored = max old.stored (min upto (length old.seen)) } → old.stored ≤ new.stored
rises old new upto is = let stored = ap (λ (o : Sending). o.stored) is in omega (arith, stored)

pub returns-clause-saved : goal.returns-clause-saved
returns-clause-saved g c =
    let old = c.args.self.now in
    let seen : c.unstored.new.self.seen ≡ c.call_stored.new.self.seen = sym (ap (λ (o : Sending). o.seen) c.call_stored.ensures) in
    let held : c.self.inside.shelf.held ≡ old.held = ap (λ (n : Notebook). n.held) c.self.view_is in
    let stored : c.self.inside.outgoing.stored ≡ old.stored = ap (λ (n : Notebook). n.stored) c.self.view_is in
    let upto : ℕ = c.in-Ok.field-0.upto in
    record {
      stored = reaches c.unstored.new.self c.call_stored.new.self upto c.call_stored.ensures c.in-Ok.ensures.upto;
      rises = (let more = rises c.unstored.new.self c.call_stored.new.self upto c.call_stored.ensures in
          let same = c.in-Ok.ensures.same.1 in omega (arith, more, same, stored));
      held = c.in_ok-put.ensures.ok.0
          ∙ (λ i. append_known (held i)
          ((c.deref.ensures.value ∙ c.in-Ok.ensures.lines ∙ (λ j. journal_text (entries_from (stored j) (seen j)))) i));
      synced = c.in_ok-put.ensures.ok.1;
      is_lost = c.in_ok-put.ensures.ok.2;
    }
