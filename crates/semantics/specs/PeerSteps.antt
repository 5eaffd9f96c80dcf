-- The steps of one engine by which it says what it has, sends what a peer lacks, and receives what a peer sent.
use Rattle.std.specs.Prelude.{ℕ, suc, cond, ◌==◌, List, [], ◌∷◌, length, Option, Some, None, option_map, slice_get}
use Rattle.ids.specs.declared.refusal.Refusal.{Refusal}
use Rattle.semantics.specs.Vectors.{Vector}
use Rattle.semantics.specs.NamedIds.{vector_of}
use Rattle.semantics.specs.Stamped.{Stamped}
use Rattle.semantics.specs.Entries.{applied, lacked_of}
use Rattle.semantics.specs.LegalAnswer.{OfPeer}
use Rattle.semantics.specs.Engine.{Engine, Client, Message, Hello, Bundle, published_entries, StepReply, Denied, Idle, SentHello}
use Rattle.semantics.specs.Engine.{SentBundle, NoMessage, Received, Outcome}
use Rattle.semantics.specs.WriteSteps.{push}
use Rattle.semantics.specs.ReadSteps.{see_published}

-- ---- sending

-- the vector of all that is published
abbrev pub published_vector : Engine → Vector
published_vector e = vector_of (applied (published_entries e))

-- the published operations that the vector doesn't cover, the oldest first
abbrev pub lacked : Engine → Vector → List Stamped
lacked e v = lacked_of (published_entries e) v

-- a token says hello, in message k; it then has seen all that is published
abbrev pub say_hello : Engine → (token message : ℕ) → Outcome
say_hello e t k = record { engine = see_published e t; reply = SentHello k (published_vector e) }

-- a token answers a hello, in message k; it then has seen all that is published
abbrev pub answer_hello : Engine → (token message : ℕ) → Option Message → Outcome
answer_hello e t k (Some (Hello v)) = record { engine = see_published e t; reply = SentBundle k (length (lacked e v)) }
answer_hello e t k (Some (Bundle ss)) = record { engine = e; reply = NoMessage }
answer_hello e t k None = record { engine = e; reply = NoMessage }

-- what is sent in answer to a message
abbrev pub answer_sent : Engine → Option Message → List Message
answer_sent e (Some (Hello v)) = Bundle (lacked e v) ∷ []
answer_sent e (Some (Bundle ss)) = []
answer_sent e None = []

-- ---- receiving

-- the engine after a client received, how many operations it submitted, and the line where it stopped, with the refusal
pub record Receipt : Type 0 where
  pub engine : Engine
  pub submitted : ℕ
  pub stopped : Option (ℕ × Refusal)

-- why a step was refused
abbrev pub refusal_in : StepReply → Option Refusal
refusal_in (Denied why) = Some why
refusal_in _ = None

-- it stops at the line after n where that is refused, else it goes on
abbrev pub unless_refused : Engine → (submitted : ℕ) → Option Refusal → Receipt → Receipt
unless_refused e n None rest = rest
unless_refused e n (Some why) rest = record { engine = e; submitted = n; stopped = Some (suc n, why) }

-- client c submits the operations after n others, up to the first that is refused; behind the last may stand a bad line
abbrev pub submit_all : (client : ℕ) → Option Refusal → (submitted : ℕ) → Engine → List Stamped → Receipt
submit_all c bad n e [] = record { engine = e; submitted = n; stopped = option_map (λ why. (suc n, why)) bad }
submit_all c bad n e (s ∷ ss) = unless_refused e n (refusal_in (push e c (OfPeer s)).reply)
    (submit_all c bad (suc n) (push e c (OfPeer s)).engine ss)

-- what is replied, where the client's next serial was this
abbrev pub as_received : (serial : ℕ) → Receipt → Outcome
as_received serial r = record { engine = r.engine; reply = Received (cond (r.submitted == 0) 0 serial) r.submitted r.stopped }

-- a client receives lines: these operations, and then a bad line, if there is one
abbrev pub receive_lines : Engine → ℕ → List Stamped → Option Refusal → Outcome
receive_lines e c ss bad = at_client (slice_get e.clients c)
  where
    at_client : Option Client → Outcome
    at_client None = record { engine = e; reply = Idle }
    at_client (Some k) = as_received (suc (length k.cells)) (submit_all c bad 0 e ss)

-- a client receives a message, each operation as a line
abbrev pub receive_message : Engine → ℕ → Option Message → Outcome
receive_message e c (Some (Bundle ss)) = receive_lines e c ss None
receive_message e c (Some (Hello v)) = record { engine = e; reply = NoMessage }
receive_message e c None = record { engine = e; reply = NoMessage }
