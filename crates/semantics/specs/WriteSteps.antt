-- The steps of one engine by which a request is submitted, handled, published and answered. A step that can do nothing leaves the
-- engine as it was and replies so.
use Rattle.std.specs.Prelude.{ℕ, zero, suc, cond, not, ◌||◌, ◌-◌, nat_le, nat_lt, List, [], ◌∷◌, ◌++◌, length, Option, Some, None, Result}
use Rattle.std.specs.Prelude.{Ok, Err, slice_get, slice_set}
use Rattle.ids.specs.declared.refusal.Refusal.{Refusal}
use Rattle.ids.specs.declared.refusal.Refusal.TheVariants.{QueueFull, SerialEnd, BadFloor}
use Rattle.semantics.specs.Operations.{Operation}
use Rattle.semantics.specs.NamedIds.{vector_of}
use Rattle.semantics.specs.DocumentAnswer.{is_any}
use Rattle.semantics.specs.Stamped.{Stamped}
use Rattle.semantics.specs.Making.{Command, make}
use Rattle.semantics.specs.LegalAnswer.{Request, OfCommand, OfPeer, Submitted, Reply, Made, RefusedAt, KeptAt, KnownAt}
use Rattle.semantics.specs.Replica.{Replica, operations, commit_own}
use Rattle.semantics.specs.Delivery.{Delivered, Kept, Known, NotKept, answer_to}
use Rattle.semantics.specs.Drain.{counted, receive}
use Rattle.semantics.specs.Engine.{Given, Cell, Client, Handled, Engine, StepReply, Ticket, Denied, Took, Published, Gave, Idle, Outcome}

-- ---- submitting

-- what is submitted next
abbrev pub next_submission : (client : ℕ) → Client → Request → Submitted
next_submission c k request = record { client = c; serial = suc (length k.cells); request = request; floor = k.seen }

-- the client with one more cell
abbrev pub with_cell : Client → Submitted → Client
with_cell k x = record k { cells = k.cells ++ (record { submitted = x; answer = None }) ∷ [] }

-- the client's submission goes to the queue, unless its serials are used up or the queue is full
abbrev pub submit : Engine → (client : ℕ) → Client → Submitted → Outcome
submit e c k x =
    cond (nat_le e.serials (length k.cells)) (record { engine = e; reply = Denied SerialEnd })
    (cond (nat_le e.capacity (length e.queue)) (record { engine = e; reply = Denied QueueFull })
    (record { engine = record e { queue = e.queue ++ x ∷ []; clients = slice_set e.clients c (with_cell k x) }; reply = Ticket x.serial }))

-- a client submits a request; its floor is what the client's token has seen
abbrev pub push : Engine → (client : ℕ) → Request → Outcome
push e c request = at_client (slice_get e.clients c)
  where
    at_client : Option Client → Outcome
    at_client None = record { engine = e; reply = Idle }
    at_client (Some k) = submit e c k (next_submission c k request)

-- ---- handling

-- an operation made after H as it is kept, with the vector of all that was applied
abbrev pub stamp : List Operation → Operation → Stamped
stamp H o = record { id = o.id; vector = vector_of H; place = o.place; mutation = o.mutation }

-- the replica after what its rules make of a command
abbrev pub after_made : Replica → Submitted → Command → Result Operation Refusal → Replica
after_made r x c (Err why) = r
after_made r x c (Ok o) = commit_own r x.client x.serial c (stamp (operations r) o)

-- the reply to what its rules make of a command
abbrev pub reply_made : Replica → Result Operation Refusal → Reply
reply_made r (Err why) = RefusedAt why (length r.entries)
reply_made r (Ok o) = Made o.id (length r.entries)

-- the reply to a delivery, after which the history has length m
abbrev pub reply_delivered : (length : ℕ) → Delivered → Reply
reply_delivered m Kept = KeptAt m
reply_delivered m Known = KnownAt m
reply_delivered m (NotKept why) = RefusedAt why m

-- the replica after a request: it makes of a command what its rules make, and a delivery is followed by a drain
abbrev pub after_request : Replica → Submitted → Request → Replica
after_request r x (OfCommand c) = after_made r x c (make (operations r) r.own c)
after_request r x (OfPeer s) = counted (receive r s)

-- the reply to a request
abbrev pub reply_requested : Replica → Request → Reply
reply_requested r (OfCommand c) = reply_made r (make (operations r) r.own c)
reply_requested r (OfPeer s) = reply_delivered (length (receive r s).entries) (answer_to r s)

-- the replica after a submission: one whose floor is above the history changes nothing
abbrev pub after_submission : Replica → Submitted → Replica
after_submission r x = cond (nat_lt (length r.entries) x.floor) r (after_request r x x.request)

-- the reply to a submission
abbrev pub reply_to : Replica → Submitted → Reply
reply_to r x = cond (nat_lt (length r.entries) x.floor) (RefusedAt BadFloor (length r.entries)) (reply_requested r x.request)

-- the writer takes the oldest submission and handles it, while fewer than a batch are handled and none is due
abbrev pub take_oldest : Engine → List Submitted → Outcome
take_oldest e [] = record { engine = e; reply = Idle }
take_oldest e (x ∷ queue) =
    cond (is_any e.due || nat_le e.batch (length e.handled)) (record { engine = e; reply = Idle })
    (record {
      engine = record e {
        queue = queue;
        replica = after_submission e.replica x;
        handled = e.handled ++ (record { submitted = x; reply = reply_to e.replica x }) ∷ [];
      };
      reply = Took;
    })

-- the writer takes and handles the next submission, if it may
abbrev pub take_submission : Engine → Outcome
take_submission e = take_oldest e e.queue

-- the writer publishes all that it handled
abbrev pub publish : Engine → Outcome
publish e =
    cond (is_any e.due || not (is_any e.handled)) (record { engine = e; reply = Idle })
    (record {
      engine = record e { published = length e.replica.entries; handled = []; due = e.handled };
      reply = Published (length e.handled);
    })

-- ---- answering

-- with the answer in the cell of the serial
abbrev pub with_answer : Client → (serial : ℕ) → Given → Client
with_answer k serial g = record k { cells = answered (slice_get k.cells (serial - 1)) }
  where
    answered : Option Cell → List Cell
    answered None = k.cells
    answered (Some cell) = slice_set k.cells (serial - 1) (record cell { answer = Some g })

-- the clients after the answer to client c's serial is set
abbrev pub give_to : List Client → (client serial : ℕ) → Given → List Client
give_to clients c serial g = at_client (slice_get clients c)
  where
    at_client : Option Client → List Client
    at_client None = clients
    at_client (Some k) = slice_set clients c (with_answer k serial g)

-- the writer sets the answer to the oldest published submission
abbrev pub give_oldest : Engine → List Handled → Outcome
give_oldest e [] = record { engine = e; reply = Idle }
give_oldest e (h ∷ due) =
    record {
      engine = record e {
        due = due;
        clients = give_to e.clients h.submitted.client h.submitted.serial
            (record { reply = h.reply; published = e.published });
      };
      reply = Gave h.submitted.client h.submitted.serial;
    }

-- the writer sets the next answer that is due, if one is
abbrev pub give : Engine → Outcome
give e = give_oldest e e.due

-- ---- a whole step of the writer

-- n takes
abbrev pub take_for : ℕ → Engine → Engine
take_for zero e = e
take_for (suc n) e = take_for n (take_submission e).engine

-- n gives
abbrev pub give_for : ℕ → Engine → Engine
give_for zero e = e
give_for (suc n) e = give_for n (give e).engine

-- all that is handled after the takes of a whole step, published
abbrev pub handle_all : Engine → Engine
handle_all e = (publish (take_for e.batch e)).engine

-- the reply of a whole step that set n answers
abbrev pub answered_or_idle : ℕ → StepReply
answered_or_idle zero = Idle
answered_or_idle (suc n) = Published (suc n)

-- the writer takes while it may, publishes if it may, and then sets all answers
abbrev pub whole_step : Engine → Outcome
whole_step e = give_all (handle_all e)
  where
    give_all : Engine → Outcome
    give_all f = record { engine = give_for (length f.due) f; reply = answered_or_idle (length f.due) }
