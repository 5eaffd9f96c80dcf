-- Prefixes of one list, and the histories that they represent.
use Rattle.std.proofs.Common.{◌≡◌, ◌≤◌, ℕ, Bool, true, false, MatchBool, List, [], ◌∷◌, ◌++◌, length, refl, ap, ◌∙◌, sym, subst, arith}
use mathlib.Core.List.{IsPrefix}
use Rattle.semantics.specs.Entries.{Entry as TheEntry}
use Rattle.semantics.specs.WorldHistory.{BeginsWith}
use Rattle.document.specs.operation.declared.command.Entry.{Entry}
use Rattle.document.specs.oplog.Logs.{history}
use Rattle.document.proofs.oplog.LongerHistories.{begins_of}
use Rattle.atomic_table.specs.Seated.{TableId}
use Rattle.published.specs.declared.written.Written.{Written}
use Rattle.published.specs.declared.written.Written.TheVariants.{Entry as OfEntry, Queue}
use Rattle.published.specs.Rules.{IsQueueOf, entries_in, queues_in}

-- of two prefixes of one list, the shorter is a prefix of the longer
pub prefix_shorter : {A : Type 0} (xs ys zs : List A) → IsPrefix xs zs → IsPrefix ys zs → length xs ≤ length ys → IsPrefix xs ys
prefix_shorter [] ys zs p q le = (ys, refl)
prefix_shorter (x ∷ xs) [] zs p q le = absurd (omega arith)
prefix_shorter (x ∷ xs) (y ∷ ys) [] p q le = absurd (cc (p.1))
prefix_shorter (x ∷ xs) (y ∷ ys) (z ∷ zs) p q le =
    let heads : x ≡ y = cc (p.1, q.1) in
    let rest = prefix_shorter xs ys zs (p.0, cc (p.1)) (q.0, cc (q.1)) (omega arith) in
    (rest.0, cc (heads, rest.1))

-- a prefix as long as the whole is the whole
pub prefix_whole : {A : Type 0} (xs ys : List A) → IsPrefix xs ys → length ys ≤ length xs → xs ≡ ys
prefix_whole [] [] p le = refl
prefix_whole [] (y ∷ ys) p le = absurd (omega arith)
prefix_whole (x ∷ xs) [] p le = absurd (cc (p.1))
prefix_whole (x ∷ xs) (y ∷ ys) p le =
    let rest = prefix_whole xs ys (p.0, cc (p.1)) (omega arith) in cc (p.1, rest)

-- what was seen, and what has grown since
pub grown : (xs ys zs : List Entry) (G : List TheEntry) → IsPrefix xs ys → zs ≡ ys → history xs ≡ G
    → BeginsWith (history zs) G
grown xs ys zs G p same is =
    subst (λ (F : List TheEntry). BeginsWith (history zs) F) is
    (subst (λ (l : List Entry). BeginsWith (history l) (history xs)) (sym same) (begins_of xs ys p))

pub entries-append : (xs ys : List Written) → entries_in (xs ++ ys) ≡ entries_in xs ++ entries_in ys
entries-append [] ys = refl
entries-append (OfEntry e ∷ xs) ys = ap (λ (l : List Entry). e ∷ l) (entries-append xs ys)
entries-append (Queue q ∷ xs) ys = entries-append xs ys

pub queues-append : (xs ys : List Written) → queues_in (xs ++ ys) ≡ queues_in xs ++ queues_in ys
queues-append [] ys = refl
queues-append (OfEntry e ∷ xs) ys = queues-append xs ys
queues-append (Queue q ∷ xs) ys = ap (λ (l : List TableId). q ∷ l) (queues-append xs ys)

-- of what is written first, the entries are the first entries
pub entries_prefix : (xs ys : List Written) → IsPrefix xs ys → IsPrefix (entries_in xs) (entries_in ys)
entries_prefix xs ys p = (entries_in p.0, sym (entries-append xs p.0) ∙ ap entries_in p.1)

-- the queue that was named first stays the first
pub queue_stays : (q : TableId) (xs ys : List Written) → IsPrefix xs ys → IsQueueOf q xs → IsQueueOf q ys
queue_stays q xs ys p h = (
  h.0 ++ queues_in p.0,
  sym (ap queues_in p.1) ∙ (queues-append xs p.0 ∙ ap (λ (l : List TableId). l ++ queues_in p.0) h.1),
)

-- two values that know from one logbook which queue it names know the same one
pub one_queue : (q r : TableId) (log : List Written) → IsQueueOf q log → IsQueueOf r log → q ≡ r
one_queue q r log h k = let e : q ∷ h.0 ≡ r ∷ k.0 = sym h.1 ∙ k.1 in cc

-- what an exchange that adds an entry implies for the entries alone
pub added_to : (b : Bool) (v w : List Written) (log : List Entry) (asked : Written) (e : Entry) (n : ℕ) → entries_in v ≡ log
    → asked ≡ OfEntry e → IsPrefix v w
    → MatchBool b (entries_in w ≡ entries_in v ++ entries_in (asked ∷ [])) (length (entries_in w) ≡ n)
    → MatchBool b (entries_in w ≡ log ++ e ∷ []) (IsPrefix log (entries_in w))
added_to true v w log asked e n is ask p h = h ∙ λ i. is i ++ entries_in (ask i ∷ [])
added_to false v w log asked e n is ask p h = subst (λ (l : List Entry). IsPrefix l (entries_in w)) is (entries_prefix v w p)
