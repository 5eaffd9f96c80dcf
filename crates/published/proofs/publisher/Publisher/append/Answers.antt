use Rattle.std.proofs.Common.{◌≡◌, List, ◌∷◌, ◌++◌, [], drop, MatchBool, IsFalse, ap, sym, ◌∙◌, subst}
use Rattle.semantics.specs.Making.{is_full}
use Rattle.ids.specs.Tables.{lacks_room}
use Rattle.semantics.specs.Entries.{Entry as TheEntry, IsEntryHistory, stamped_in}
use Rattle.semantics.specs.Joining.{table_after}
use Rattle.document.specs.operation.Ops.{entry_of}
use Rattle.document.specs.oplog.Logs.{history}
use Rattle.published.specs.Beginnings.{Beginning}
use Rattle.published.specs.Copies.{Pending}
use Rattle.semantics.specs.Publication.{Publication}
use mathlib.Core.List.{IsPrefix}
use Rattle.published.proofs.Shows.{flushed, one_pending}
use Rattle.published.proofs.publisher.Publisher.append.Goals as goal

pub invariant_of-self-2 : goal.invariant_of-self-2
invariant_of-self-2 g c =
    let e = c.args.entry in
    let now : history c.self.inside.all.log ≡ c.args.self.now.appended = ap (λ (z : Publication). z.appended) c.self.view_is in
    let w : Pending = record { entry = e; log = c.again.result.log; book = c.again.result.book } in
    let log : c.extend.new.self.log ≡ c.again-after.result.log ++ e ∷ [] =
    subst (λ b. MatchBool b (c.extend.new.self.log ≡ c.again-after.result.log ++ e ∷ [])
    (IsPrefix c.again-after.result.log c.extend.new.self.log)) c.if-not-extend.false c.extend.ensures.added in
    one_pending _ _ _ _ _ _ _ c.self.invariant w c.extend.new.self (log ∙ ap (λ (p : Beginning). p.log ++ e ∷ []) c.again-after.ensures)
    (c.extend.ensures.book ∙ ap (λ (p : Beginning). p.book) c.again-after.ensures) (ap (λ (p : Beginning). p.log) c.again.ensures)
    (ap (λ (p : Beginning). p.book) c.again.ensures)
    (subst (λ (G : List TheEntry). IsEntryHistory g.N.EngineName.own (entry_of e ∷ G)) (sym now) c.requires.follows)
    (subst (λ (G : List TheEntry). IsFalse (is_full G)) (sym now) c.requires.room)
    (subst (λ (G : List TheEntry). IsFalse (lacks_room (table_after g.N.EngineName.table G) (stamped_in (entry_of e)).id.replica)) (sym now)
    c.requires.fits)
    c.flush.new.writer.desk.shown.value
    (drop c.flush.new.writer.behind c.flush.new.writer.log.items)
    c.put.new.next
    (ap (λ p. p.value) c.flush.ensures.shown)
    (flushed _ _ _ c.flush.ensures.pending (c.flush.ensures.flushed c.if-not-flush.false))
    c.put.ensures
