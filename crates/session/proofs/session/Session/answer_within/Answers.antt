use Rattle.std.proofs.Common.{◌≡◌, ◌≤◌, ◌∙◌, ℕ, List, Ok, length, map, nat_lt, take, sym, ap, rules, subst}
use Rattle.std.specs.List.{All}
use Rattle.std.proofs.lemmas.List.{length-map}
use Rattle.semantics.specs.Entries.{Entry, first_entries, lacked_of}
use Rattle.semantics.specs.Limits.{most_entries}
use Rattle.semantics.specs.Replica.{Replica}
use Rattle.semantics.specs.Stamped.{Stamped}
use Rattle.semantics.specs.Vectors.{Vector}
use Rattle.replica.specs.operation.declared.op.Op.{Op}
use Rattle.replica.specs.operation.Ops.{stamped_of}
use Rattle.records.specs.wire.Sent.{CanBeSent}
use Rattle.records.specs.Lost.{is_beyond}
use Rattle.session.specs.Answers.{IsCutAt}
use Rattle.session.proofs.Answering.{stored_sent}
use Rattle.session.proofs.session.Session.answer_within.Goals as goal

pub returns-clause-ok : goal.returns-clause-ok
returns-clause-ok c =
    let r : Replica = c.args.self.now in
    let v : Vector = c.in_ok-vector.vector in
    let G : List Entry = r.entries in
    let shown : List Entry = c.document-document.result.now.entries in
    let same : shown ≡ G = c.document-document.ensures.entries in
    let ss : List Stamped = lacked_of (first_entries c.args.stored G) v in
    let ops : List Op = c.in_ok-ops.ops.items in
    let slice : List Op = c.as_slice.result.now in
    let are : map stamped_of ops ≡ ss = c.in_ok-ops.ensures.ops
    ∙ ap (λ (F : List Entry). lacked_of (first_entries c.args.stored F) v) same in
    let given : map stamped_of slice ≡ ss = ap (map stamped_of) c.as_slice.ensures.value ∙ are in
    let few : length G ≤ most_entries = subst (λ (x : Replica). length x.entries ≤ most_entries) c.self.view_is c.self.invariant.few in
    let sent = stored_sent r.own G c.args.stored v ops c.document-document.ensures.running.history few c.in_ok-ops.ensures.named are in
    let long : c.len.result ≡ length ss = (let counted : c.len.result ≡ length ops = search rules in
    counted ∙ sym (length-map ops stamped_of) ∙ ap length are) in
    let n : ℕ = c.in_ok-text.field-0.count in (
      v,
      c.in_ok-vector.ensures,
      record {
        count = n;
        cut = subst (λ (xs : List Stamped). IsCutAt c.args.most xs n c.in_ok-text.field-0.text.items) given c.in_ok-text.ensures.cut;
        more = ap (nat_lt n) long;
        reads_back = c.in_ok-text.ensures.reads_back
            (subst (λ (xs : List Op). All (λ (o : Op). CanBeSent (stamped_of o)) xs) (sym c.as_slice.ensures.value) sent)
            ∙ ap (λ (xs : List Stamped). Ok (take n xs)) given;
        beyond = c.is_beyond.ensures
            ∙ (λ i. is_beyond (sym c.self.invariant.own_number i) (same i) v)
            ∙ ap (λ (x : Replica). is_beyond x.own G v) c.self.view_is;
      },
    )
