use Rattle.std.proofs.Common.{◌≡◌, ◌∙◌, [], List, map, nat_lt, ap, refl, subst}
use Rattle.semantics.specs.Entries.{Entry, lacked_of}
use Rattle.semantics.specs.Vectors.{Vector, at}
use Rattle.semantics.specs.WorldHistory.{BeginsWith}
use Rattle.semantics.proofs.GrownEngines.{begins_trans}
use Rattle.peer_sync.specs.operation.declared.op.Op.{Op}
use Rattle.peer_sync.specs.operation.Ops.{stamped_of}
use Rattle.peer_sync.specs.engine.published.Beginnings.{IsHistoryOfEngine}
use Rattle.records.specs.wire.Bundles.{bundle_text}
use Rattle.peer_sync.specs.Sending.{without_end}
use Rattle.peer_sync.proofs.SentBack.{answer_back, same_vector}
use Rattle.peer_sync.proofs.SentHistories.{lacked_sent}
use Rattle.journal.specs.Outgoing.{Sending, stored_of}
use Rattle.journal.proofs.StoredEntries.{same_stored, stored_history}
use Rattle.journal.proofs.outgoing.Outgoing.answer.Given.{Over}
use Rattle.journal.proofs.outgoing.Outgoing.answer.Goals.{After-drop-vector-inside-2}
use Rattle.journal.proofs.outgoing.Outgoing.answer.Goals as goal

-- what was read last begins with all that was seen
grown : (F G H : List Entry) (o : Sending) → F ≡ o.seen → BeginsWith G F → BeginsWith H G → BeginsWith H o.seen
grown F G H o is first second = subst (BeginsWith H) is (begins_trans H G F second first)

-- the operations that are sent are those of the stored entries
lacked : (g : Over) (c : After-drop-vector-inside-2 g) (v : Vector) → c.in_ok-vector.vector ≡ v
    → map stamped_of c.in_ok-ops.ops.items ≡ lacked_of (stored_of c.args.self.now) v
lacked g c v is =
    c.in_ok-ops.ensures.ops
    ∙ (λ i. lacked_of ((same_stored c.self.inside.stored c.missing_before.new.self.seen c.self.inside.token.seen c.in_ok-ops.ensures.grows
    c.self.invariant ∙ ap stored_of c.self.view_is) i) (is i))

pub returns-in_err-known-clause-grows : goal.returns-in_err-known-clause-grows
returns-in_err-known-clause-grows g c =
    grown c.self.inside.token.seen c.missing_before.new.self.seen c.vector-2.new.self.seen c.args.self.now
    (ap (λ (o : Sending). o.seen) c.self.view_is) c.in_ok-ops.ensures.grows c.in_err-known.ensures.grows

pub returns-clause-grows : goal.returns-clause-grows
returns-clause-grows g c =
    grown c.self.inside.token.seen c.missing_before.new.self.seen c.vector-2.new.self.seen c.args.self.now
    (ap (λ (o : Sending). o.seen) c.self.view_is) c.in_ok-ops.ensures.grows c.in_ok-known.ensures.grows

pub returns-clause-lines : goal.returns-clause-lines
returns-clause-lines g c =
    let d = (goal.at.returns-clause-lines g c).After-drop-vector-inside-2 in
    let v : Vector = c.in_ok-vector.vector in
    let own = ap (λ (o : Sending). o.own) c.self.view_is in (
      v,
      c.in_ok-vector.ensures,
      c.in_ok-lines.ensures.text
          ∙ ap (λ (xs : List Op). bundle_text [] (map stamped_of xs)) c.as_slice.ensures.value
          ∙ ap (bundle_text []) (lacked g d v refl),
      λ i. nat_lt ((c.at.ensures ∙ (λ j. at (c.in_ok-known.ensures.vector j) (own j))) i) ((c.at-2.ensures ∙ ap (at v) own) i),
    )

pub returns-clause-reads_back : goal.returns-clause-reads_back
returns-clause-reads_back g c v form =
    let d = (goal.at.returns-clause-reads_back g c).After-drop-vector-inside-2 in
    let hello = without_end c.args.hello.now in
    let named : c.in_ok-vector.vector ≡ v = same_vector c.in_ok-vector.vector v hello hello refl c.in_ok-vector.ensures form in
    let out = lacked g d v named in
    let history : IsHistoryOfEngine g.N.EngineName.own g.N.EngineName.table c.args.self.now.seen =
    subst (λ (o : Sending). IsHistoryOfEngine g.N.EngineName.own g.N.EngineName.table o.seen) c.self.view_is c.seen_len.ensures.engine in
    answer_back c.in_ok-ops.ops.items c.as_slice.result.now _ c.in_ok-lines.lines.items c.as_slice.ensures.value out
    c.in_ok-lines.ensures.reads_back
    (lacked_sent g.N.EngineName.own g.N.EngineName.table (stored_of c.args.self.now) v c.in_ok-ops.ops.items
    (stored_history g.N.EngineName.own g.N.EngineName.table c.args.self.now.stored c.args.self.now.seen history)
    c.in_ok-ops.ensures.named out)
