-- What a request leaves in an engine whose clients and queue the code holds.
use Rattle.std.proofs.Common.{◌≡◌, ℕ, ◌<◌, ◌≤◌, true, false, nat_le, List, get_or, Some, length, map, sym, ap, ◌∙◌, slice_get, arith}
use Rattle.std.proofs.Common.{suc, [], ◌∷◌, ◌++◌, slice_set, Option}
use Rattle.std.proofs.lemmas.List.{length-map}
use Rattle.std.proofs.lemmas.Bool.{lt-leb, le-leb}
use Rattle.ids.specs.declared.refusal.Refusal.{Refusal}
use Rattle.ids.specs.declared.refusal.Refusal.TheVariants.{QueueFull, SerialEnd}
use Rattle.semantics.specs.Stamped.{Stamped}
use Rattle.semantics.specs.Engine.{Engine, Client, Outcome, Ticket, Denied}
use Rattle.semantics.specs.PeerSteps.{as_received, receive_lines, submit_all}
use Rattle.semantics.specs.WriteSteps.{next_submission, with_cell, push}
use Rattle.replica.specs.operation.declared.submission.Request.{Request}
use Rattle.replica.specs.operation.Submissions.{request_of, submitted_of}
use Rattle.world.specs.declared.engine.Engine.TheInside.{Inside}
use Rattle.world.specs.declared.client.Client.{Client as AnyClient}
use Rattle.world.specs.Engines.{cell_of, client_of}
use Rattle.world.specs.contracts.engine.Engine.{the_view}
use Rattle.world.proofs.SingleSteps.{read_mapped, push-there, push-last, push-full}
use Rattle.world.proofs.SubmittedRequests.{found, receive-there}

-- a client that exists
pub client_there : (e : Inside) (A : Engine) (at : ℕ) → the_view e ≡ A → at < length e.clients.items
    → (k : Client) × (slice_get A.clients at ≡ Some k)
client_there e A at is lt =
    let long = ap (λ (F : Engine). length F.clients) is in
    found A.clients at (omega (arith, long, lt, length-map e.clients.items client_of))

-- and what it receives
pub receives : (e : Inside) (A : Engine) (at : ℕ) (ss : List Stamped) (bad : Option Refusal) → the_view e ≡ A
    → at < length e.clients.items → (k : Client) × (slice_get A.clients at ≡ Some k)
    × (receive_lines A at ss bad ≡ as_received (suc (length k.cells)) (submit_all at bad 0 A ss))
receives e A at ss bad is lt =
    let k = client_there e A at is lt in (k.0, k.1, receive-there A at ss bad k.0 k.1)

-- the client that the code reads is that of the definitions
pub stands : (e : Inside) (A : Engine) (at : ℕ) (k : AnyClient) → the_view e ≡ A → at < length A.clients → k ≡ get_or e.clients.items at k
    → slice_get (map client_of e.clients.items) at ≡ Some (client_of k)
stands e A at k is there read =
    let client = client_of in
    let long = ap (λ (F : Engine). length F.clients) is in
    read_mapped client e.clients.items at k (omega (arith, there, long, length-map e.clients.items client)) read

-- if a list of the code is shorter than a bound, so is its meaning
below : {A B : Type 0} (f : A → B) (xs : List A) (n : ℕ) → length xs < n → nat_le n (length (map f xs)) ≡ false
below f xs n l = lt-leb n (length (map f xs)) (omega (arith, l, length-map xs f))

-- and if it is as long as the bound, so is its meaning
full : {A B : Type 0} (f : A → B) (xs : List A) (n : ℕ) → n ≤ length xs → nat_le n (length (map f xs)) ≡ true
full f xs n l = le-leb n (length (map f xs)) (omega (arith, l, length-map xs f))

-- a request of the client k, as the engine takes it
module _ (e : Inside) (A : Engine) (at : ℕ) (q : Request) (k : AnyClient) (is : the_view e ≡ A) (there : at < length A.clients)
    (read : k ≡ get_or e.clients.items at k) where
  turn : {T : Type 0} (f : Outcome → T) (t : Outcome) → push (the_view e) at (request_of q) ≡ t
      → f (push A at (request_of q)) ≡ f t
  turn f t pushed = sym (ap (λ (F : Engine). f (push F at (request_of q))) is) ∙ ap f pushed

  -- no serial is left for it
  pub serials_end : e.serials ≤ length k.cells.items → (push A at (request_of q)).reply ≡ Denied SerialEnd
  serials_end l = turn (λ t. t.reply) _ (push-last (the_view e) at (request_of q) (client_of k) (stands e A at k is there read)
      (full cell_of k.cells.items e.serials l))

  -- the queue has no room for it
  pub queue_full : length k.cells.items < e.serials → e.capacity ≤ length e.queue.items
      → (push A at (request_of q)).reply ≡ Denied QueueFull
  queue_full serials l = turn (λ t. t.reply) _ (push-full (the_view e) at (request_of q) (client_of k)
      (stands e A at k is there read)
      (below cell_of k.cells.items e.serials serials) (full submitted_of e.queue.items e.capacity l))

  -- it is queued and kept
  pub queued : length k.cells.items < e.serials → length e.queue.items < e.capacity
      → push A at (request_of q)
      ≡ record {
        engine = record (the_view e) {
          queue = map submitted_of e.queue.items ++ next_submission at (client_of k) (request_of q) ∷ [];
          clients = slice_set (map client_of e.clients.items) at
              (with_cell (client_of k) (next_submission at (client_of k) (request_of q)));
        };
        reply = Ticket (suc (length (client_of k).cells));
      }
  queued serials capacity = turn (λ t. t) _ (push-there (the_view e) at (request_of q) (client_of k)
      (stands e A at k is there read)
      (below cell_of k.cells.items e.serials serials) (below submitted_of e.queue.items e.capacity capacity))
