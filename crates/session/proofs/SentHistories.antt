-- A line can carry everything in a history of few operations: its counters are small.
use Rattle.std.proofs.Common.{◌≡◌, inl, inr, ℕ, ◌<◌, ◌≤◌, true, nat_le, List, [], ◌∷◌, ◌++◌, length, map, refl, sym}
use Rattle.std.proofs.Common.{subst, arith}
use Rattle.std.specs.List.{All, list_all}
use Rattle.std.proofs.lemmas.Bool.{and_from, and_parts, le-leb}
use Rattle.std.proofs.lemmas.List.Elements.{All-nil, All-cons, All-head, All-tail}
use Rattle.ids.specs.Vectors.{IsNamed}
use Rattle.semantics.specs.Ids.{OpId, IdSet}
use Rattle.semantics.specs.Elements.{Element, Doc, Field, Item}
use Rattle.semantics.specs.Operations.{Operation, element_of}
use Rattle.semantics.specs.LegalHistory.{IsAmong, IsLegal, ItemsStand, has_id}
use Rattle.semantics.specs.Limits.{most_counter}
use Rattle.semantics.specs.NamedIds.{names}
use Rattle.semantics.specs.Vectors.{Vector, IsCanonical}
use Rattle.semantics.specs.Paths.{Hop, FieldHop, ItemHop, hops_from_root}
use Rattle.semantics.specs.Stamped.{Stamped, MayFollow, operation_after}
use Rattle.semantics.specs.Entries.{Entry, IsEntryHistory, applied, lacked_of, missing, stamped_entries}
use Rattle.semantics.proofs.AmongLists.{in_filter, in_reverse}
use Rattle.semantics.proofs.EntryHistories.{entries_legal, length-applied}
use Rattle.semantics.proofs.LegalFacts.{among_from, counter_pos, counter_within}
use Rattle.semantics.proofs.NamedOperations.{legal}
use Rattle.semantics.proofs.Replies.{before}
use Rattle.replica.specs.operation.declared.op.Op.{Op}
use Rattle.replica.specs.operation.Ops.{stamped_of}
use Rattle.replica.proofs.oplog.KnownMembers.{attained_all}
use Rattle.records.specs.wire.Sent.{CanBeSent, are_counters, is_counter, key_counted}

counter_from : (c : ℕ) → 0 < c → c ≤ most_counter → is_counter c ≡ true
counter_from c low high = and_from (nat_le 1 c) (nat_le c most_counter) (le-leb 1 c (omega (arith, low))) (le-leb c most_counter high)

all_snoc : (ks : List Hop) (k : Hop) → list_all key_counted ks ≡ true → key_counted k ≡ true → list_all key_counted (ks ++ k ∷ []) ≡ true
all_snoc [] k h t = and_from (key_counted k) true t refl
all_snoc (j ∷ ks) k h t =
    let parts = and_parts (key_counted j) (list_all key_counted ks) h in
    and_from (key_counted j) (list_all key_counted (ks ++ k ∷ [])) parts.0 (all_snoc ks k parts.1 t)

-- ---- of a legal history that isn't too long

module _ (H : List Operation) (l : IsLegal H) (few : length H ≤ most_counter) where
  few_id : (a : OpId) → has_id H a ≡ true → is_counter a.counter ≡ true
  few_id a h =
      let x = among_from H a h in
      let within = counter_within H l x.0 x.1 in
      subst (λ (b : OpId). is_counter b.counter ≡ true) x.2
      (counter_from x.0.id.counter (counter_pos H l x.0 x.1) (omega (arith, within, few)))

  all_few : (v : Vector) → ((a : OpId) → IsAmong a v → has_id H a ≡ true) → are_counters v ≡ true
  all_few [] there = refl
  all_few (a ∷ v) there = and_from (is_counter a.counter) (are_counters v) (few_id a (there a (inl refl)))
      (all_few v (λ b m. there b (inr m)))

  -- the items on the way to an element
  few_items : (S : IdSet) (e : Element) → ItemsStand H S e → list_all key_counted (hops_from_root e) ≡ true
  few_items S Doc h = refl
  few_items S (Field e n) h = all_snoc (hops_from_root e) (FieldHop n) (few_items S e h) refl
  few_items S (Item e a) h =
      let x = h.1 in
      let within = counter_within H l x.0 x.1 in
      all_snoc (hops_from_root e) (ItemHop a) (few_items S e h.2)
      (subst (λ (b : OpId). is_counter b.counter ≡ true) x.2
      (counter_from x.0.id.counter (counter_pos H l x.0 x.1) (omega (arith, within, few))))

-- ---- what is sent

one_sent : (G : List Entry) (o : Op) → IsLegal (applied G) → length G < most_counter → IsCanonical o.deps
    → MayFollow (applied G) (stamped_of o) → CanBeSent (stamped_of o)
one_sent G o l few canonical may =
    let same = length-applied G in
    let short : length (applied G) ≤ most_counter = omega (arith, same, few) in
    let longer : IsLegal (operation_after (applied G) (stamped_of o) ∷ applied G) = (l, may.follows) in
    let mine = operation_after (applied G) (stamped_of o) in
    let within = counter_within (mine ∷ applied G) longer mine (inl refl) in
    let some = counter_pos (mine ∷ applied G) longer mine (inl refl) in record {
      id = counter_from o.id.counter some (omega (arith, within, same, few));
      vector = all_few (applied G) l short (stamped_of o).vector
          (attained_all (applied G) (stamped_of o).vector canonical may.attained);
      items = few_items (applied G) l short (names (applied G) (stamped_of o).vector) (element_of o.place) may.follows.items;
    }

stands : (p : ℕ) (G : List Entry) → IsEntryHistory p G → length G ≤ most_counter → (o : Op) → IsCanonical o.deps
    → IsAmong (stamped_of o) (stamped_entries G) → CanBeSent (stamped_of o)
stands p [] h few o canonical m = absurd m
stands p (e ∷ G) h few o canonical (inl is) =
    let all = entries_legal p (e ∷ G) h in
    one_sent G o (legal (stamped_entries G) all.0) (omega (arith, few)) canonical (subst (MayFollow (applied G)) (sym is) all.1)
stands p (e ∷ G) h few o canonical (inr m) = stands p G (before p e G h) (omega (arith, few)) o canonical m

all_of : (ops : List Op) → All (λ (o : Op). IsNamed o.deps) ops
    → ((o : Op) → IsCanonical o.deps → IsAmong (stamped_of o) (map stamped_of ops) → CanBeSent (stamped_of o))
    → All CanBeSent (map stamped_of ops)
all_of [] named each = All-nil CanBeSent
all_of (o ∷ ops) named each =
    let P : Op → Type 0 = λ x. IsNamed x.deps in
    All-cons CanBeSent (stamped_of o) (map stamped_of ops) (each o (All-head P o ops named).canonical (inl refl))
    (all_of ops (All-tail P o ops named) (λ x canonical m. each x canonical (inr m)))

-- each operation that a vector lacks of a history
pub lacked_sent : (p : ℕ) (G : List Entry) (v : Vector) (ops : List Op) → IsEntryHistory p G → length G ≤ most_counter
    → All (λ (o : Op). IsNamed o.deps) ops → map stamped_of ops ≡ lacked_of G v → All CanBeSent (map stamped_of ops)
lacked_sent p G v ops h few named is =
    all_of ops named (λ o canonical m. stands p G h few o canonical
    (in_filter _ (stamped_entries G) (stamped_of o)
    (in_reverse (missing v (stamped_entries G)) (stamped_of o)
    (subst (λ (ss : List Stamped). IsAmong (stamped_of o) ss) is m))))
