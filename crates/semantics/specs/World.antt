-- A world: engines on one thread and the messages between them, as a list of steps moves them.
use Rattle.std.specs.Prelude.{ℕ, List, [], ◌∷◌, ◌++◌, length, map, replicate, Option, Some, None, slice_get, slice_set}
use Rattle.ids.specs.Members.{in_order}
use Rattle.ids.specs.Configurations.{Configuration}
use Rattle.ids.specs.declared.refusal.Refusal.{Refusal}
use Rattle.semantics.specs.Stamped.{Stamped}
use Rattle.semantics.specs.Making.{Command}
use Rattle.semantics.specs.LegalAnswer.{OfCommand, Asked}
use Rattle.semantics.specs.Engine.{Engine, Message, Hello, StepReply, Idle, Dropped, Outcome}
use Rattle.semantics.specs.WriteSteps.{push, take_submission, publish, give, whole_step}
use Rattle.semantics.specs.ReadSteps.{poll, ask, learn}
use Rattle.semantics.specs.PeerSteps.{published_vector, say_hello, answer_hello, answer_sent, receive_lines, receive_message}

-- a new engine
abbrev pub opened_engine : Configuration → Engine
opened_engine c = record {
  capacity = c.queue;
  batch = c.batch;
  serials = c.serials;
  replica = record { own = c.own; members = in_order c.members; entries = []; waiting = []; dropped = 0 };
  queue = [];
  handled = [];
  due = [];
  published = 0;
  clients = replicate c.clients (record { seen = 0; cells = [] });
  readers = replicate c.readers 0;
}

-- the engines, and all messages that were ever sent, the oldest first
pub record World : Type 0 where
  pub engines : List Engine
  pub messages : List Message

-- a new world
abbrev pub opened : List Configuration → World
opened cs = record { engines = map opened_engine cs; messages = [] }

-- What an engine does in a step. Clients, tokens and messages are named by their numbers.
pub data WorldAct : Type 0 where
  -- the client submits a command
  Push : (client : ℕ) (command : Command) → WorldAct
  -- the writer takes one submission and handles it
  Take : WorldAct
  -- the writer publishes what it handled
  Publish : WorldAct
  -- the writer sets one answer
  Give : WorldAct
  -- the writer does all of that, for a batch
  WholeStep : WorldAct
  -- the client polls a serial
  Poll : (client serial : ℕ) → WorldAct
  -- the token asks
  Ask : (token : ℕ) (asked : Asked) → WorldAct
  -- the token learns of the answer to the client's serial
  Learn : (token client serial : ℕ) → WorldAct
  -- the token says hello
  SayHello : (token : ℕ) → WorldAct
  -- the token answers a hello, which is this message
  AnswerHello : (token message : ℕ) → WorldAct
  -- the client receives a copy of a bundle, which is this message
  Deliver : (client message : ℕ) → WorldAct
  -- the client receives lines of any origin: these operations, and then a bad line, if there is one
  Lines : (client : ℕ) (operations : List Stamped) (stopped : Option Refusal) → WorldAct
  -- how many operations were dropped
  CountDropped : WorldAct

-- a step of a world: what the engine with this number does
pub record WorldStep : Type 0 where
  pub engine : ℕ
  pub act : WorldAct

-- the step in which engine e does this
abbrev pub step_by : (engine : ℕ) → WorldAct → WorldStep
step_by e act = record { engine = e; act = act }

-- what an act does to its engine, after these messages
abbrev pub engine_step : List Message → WorldAct → Engine → Outcome
engine_step ms (Push c command) E = push E c (OfCommand command)
engine_step ms Take E = take_submission E
engine_step ms Publish E = publish E
engine_step ms Give E = give E
engine_step ms WholeStep E = whole_step E
engine_step ms (Poll c serial) E = poll E c serial
engine_step ms (Ask t q) E = ask E t q
engine_step ms (Learn t c serial) E = learn E t c serial
engine_step ms (SayHello t) E = say_hello E t (length ms)
engine_step ms (AnswerHello t k) E = answer_hello E t (length ms) (slice_get ms k)
engine_step ms (Deliver c k) E = receive_message E c (slice_get ms k)
engine_step ms (Lines c ss bad) E = receive_lines E c ss bad
engine_step ms CountDropped E = record { engine = E; reply = Dropped E.replica.dropped }

-- what an act sends, after these messages
abbrev pub sent_by : List Message → WorldAct → Engine → List Message
sent_by ms (SayHello t) E = Hello (published_vector E) ∷ []
sent_by ms (AnswerHello t k) E = answer_sent E (slice_get ms k)
sent_by ms _ E = []

-- the world after a step, and the reply
pub record WorldOutcome : Type 0 where
  pub world : World
  pub reply : StepReply

-- one step: its engine moves, and the others stay
abbrev pub world_step : World → WorldStep → WorldOutcome
world_step W s = at_engine (slice_get W.engines s.engine)
  where
    at_engine : Option Engine → WorldOutcome
    at_engine None = record { world = W; reply = Idle }
    at_engine (Some E) = record {
      world = record {
        engines = slice_set W.engines s.engine (engine_step W.messages s.act E).engine;
        messages = W.messages ++ sent_by W.messages s.act E;
      };
      reply = (engine_step W.messages s.act E).reply;
    }

-- the world after these steps
abbrev pub world_after : World → List WorldStep → World
world_after W [] = W
world_after W (s ∷ steps) = world_after (world_step W s).world steps

-- the reply to each step
abbrev pub replies_of : World → List WorldStep → List StepReply
replies_of W [] = []
replies_of W (s ∷ steps) = (world_step W s).reply ∷ replies_of (world_step W s).world steps
