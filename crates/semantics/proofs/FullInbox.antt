-- An inbox that is full: 4,096 operations wait, and there is one more slot for a ready one.
use Rattle.std.specs.Prelude.{◌≡◌, ℕ, zero, suc, ◌-◌, List, [], ◌∷◌, length, codes, refl}
use Rattle.ids.specs.declared.refusal.Refusal.TheVariants.{InboxFull}
use Rattle.semantics.specs.Ids.{id_at}
use Rattle.semantics.specs.Elements.{At}
use Rattle.semantics.specs.Operations.{Delete}
use Rattle.semantics.specs.Vectors.{Vector}
use Rattle.semantics.specs.Stamped.{Stamped}
use Rattle.semantics.specs.Replica.{Replica}
use Rattle.semantics.specs.Delivery.{Kept, Known, NotKept, answer_to}
use Rattle.semantics.specs.Drain.{receive}
use Rattle.semantics.proofs.ExampleWords.{field, sent, new, history}

abbrev deletes_a : ℕ → ℕ → Vector → Stamped
deletes_a c p v = sent c p v (At (field (codes "a"))) Delete

-- this many operations of replica 2, from this counter on, each of which waits for one of replica 3
abbrev waiting_from : ℕ → ℕ → List Stamped
waiting_from zero c = []
waiting_from (suc n) c = deletes_a c 2 (id_at (c - 1) 3 ∷ []) ∷ waiting_from n (suc c)

abbrev full : Replica
full = record (new 1) { waiting = waiting_from 4096 2 }

abbrev last : Stamped
last = deletes_a 4098 2 (id_at 4097 3 ∷ [])

one_more : answer_to full last ≡ NotKept InboxFull
one_more = refl

-- each that comes is kept; here the first twenty
abbrev kept : ℕ → ℕ → Replica → Replica
kept zero c r = r
kept (suc n) c r = kept n (suc c) (receive r (deletes_a c 2 (id_at (c - 1) 3 ∷ [])))

twenty_kept : kept 20 2 (new 1) ≡ record (new 1) { waiting = waiting_from 20 2 }
twenty_kept = refl

-- what waits is known
first_again : answer_to full (deletes_a 2 2 (id_at 1 3 ∷ [])) ≡ Known
first_again = refl

-- what is ready is kept and applied at once
abbrev ready : Stamped
ready = deletes_a 1 2 []

ready_answer : answer_to full ready ≡ Kept
ready_answer = refl

abbrev after_ready : Replica
after_ready = receive full ready

after_ready_history : history after_ready ≡ id_at 1 2 ∷ []
after_ready_history = refl

-- the first of replica 3 makes the first that waits ready, which is dropped: its vector doesn't name the one of replica 2
abbrev enabling : Stamped
enabling = deletes_a 1 3 []

enabling_answer : answer_to after_ready enabling ≡ Kept
enabling_answer = refl

abbrev after_enabling : Replica
after_enabling = receive after_ready enabling

after_enabling_history : history after_enabling ≡ id_at 1 2 ∷ id_at 1 3 ∷ []
after_enabling_history = refl

after_enabling_dropped : after_enabling.dropped ≡ 1
after_enabling_dropped = refl

-- so there is room again
last_again : answer_to after_enabling last ≡ Kept
last_again = refl

last_waits : length (receive after_enabling last).waiting ≡ 4096
last_waits = refl
