-- What a session answers is read back.
use Rattle.std.proofs.Common.{◌≡◌, ◌≤◌, ℕ, List, [], ◌∷◌, length, map, arith}
use Rattle.std.specs.List.{All}
use Rattle.std.proofs.lemmas.List.Elements.{All-nil, All-cons, All-head, All-tail}
use Rattle.ids.specs.Vectors.{IsNamed}
use Rattle.semantics.specs.Entries.{Entry, IsEntryHistory, first_entries, lacked_of}
use Rattle.semantics.specs.Limits.{most_entries}
use Rattle.semantics.specs.Vectors.{Vector}
use Rattle.semantics.proofs.Beginnings.{begins_first, no_shorter}
use Rattle.semantics.proofs.EntryBeginnings.{history_begun}
use Rattle.replica.specs.operation.declared.op.Op.{Op}
use Rattle.replica.specs.operation.Ops.{stamped_of}
use Rattle.records.specs.wire.Sent.{CanBeSent}
use Rattle.session.proofs.SentHistories.{lacked_sent}

unmapped : {X Y : Type 0} (P : X → Type 0) (f : Y → X) (ys : List Y) → All P (map f ys) → All (λ y. P (f y)) ys
unmapped P f [] h = All-nil (λ y. P (f y))
unmapped P f (y ∷ ys) h = All-cons (λ x. P (f x)) y ys (All-head P (f y) (map f ys) h) (unmapped P f ys (All-tail P (f y) (map f ys) h))

-- each operation that a vector lacks of the first entries can be sent
pub stored_sent : (p : ℕ) (G : List Entry) (n : ℕ) (v : Vector) (ops : List Op) → IsEntryHistory p G → length G ≤ most_entries
    → All (λ (o : Op). IsNamed o.deps) ops → map stamped_of ops ≡ lacked_of (first_entries n G) v
    → All (λ (o : Op). CanBeSent (stamped_of o)) ops
stored_sent p G n v ops history few named is =
    let F : List Entry = first_entries n G in
    let b = begins_first n G in
    let shorter = no_shorter G F b in
    unmapped CanBeSent stamped_of ops
    (lacked_sent p F v ops (history_begun p G F b history) (omega (arith, few, shorter)) named is)
