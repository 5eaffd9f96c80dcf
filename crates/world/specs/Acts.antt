-- Steps, replies, clients and messages of the program as those of the definitions.
use Rattle.std.specs.Prelude.{[]}
use Rattle.semantics.specs.Questions.{Refused as NotAnswered}
use Rattle.semantics.specs.LegalAnswer.{Answered}
use Rattle.semantics.specs.Engine as engine
use Rattle.semantics.specs.World as world
use Rattle.replica.specs.operation.Ops.{command_of}
use Rattle.replica.specs.document.Documents.{asked_of, said_by}
use Rattle.replica.specs.operation.Submissions.{reply_of}
use Rattle.wire.specs.Bundles.{readable}
use Rattle.world.specs.declared.step.WorldStep.{WorldStep}
use Rattle.world.specs.declared.step.WorldAct.{WorldAct}
use Rattle.world.specs.declared.step.WorldAct.TheVariants as act
use Rattle.world.specs.declared.step.WorldReply.{WorldReply}
use Rattle.world.specs.declared.step.WorldReply.TheVariants as said

-- what an engine does
abbrev pub act_of : WorldAct → world.WorldAct
act_of (act.Push c command) = world.Push c (command_of command)
act_of act.Take = world.Take
act_of act.Publish = world.Publish
act_of act.Give = world.Give
act_of act.WholeStep = world.WholeStep
act_of (act.Poll c serial) = world.Poll c serial
act_of (act.Ask t q) = world.Ask t (asked_of q)
act_of (act.Learn t c serial) = world.Learn t c serial
act_of (act.SayHello t) = world.SayHello t
act_of (act.AnswerHello t k) = world.AnswerHello t k
act_of (act.Deliver c k) = world.Deliver c k
act_of (act.Line c text) = world.Lines c (readable [] text.items).operations (readable [] text.items).stopped
act_of act.Dropped = world.CountDropped

-- a step
abbrev pub step_of : WorldStep → world.WorldStep
step_of s = record { engine = s.engine; act = act_of s.act }

-- what a step replies
abbrev pub step_reply_of : WorldReply → engine.StepReply
step_reply_of (said.Ticket serial) = engine.Ticket serial
step_reply_of (said.Denied why) = engine.Denied why
step_reply_of said.Took = engine.Took
step_reply_of (said.Published n) = engine.Published n
step_reply_of (said.Gave c serial) = engine.Gave c serial
step_reply_of said.Idle = engine.Idle
step_reply_of said.Unanswered = engine.Unanswered
step_reply_of (said.Replied r) = engine.Replied (reply_of r)
step_reply_of (said.Read n reading) = engine.Read n (said_by reading)
step_reply_of (said.NotRead n why) = engine.Read n (Answered (NotAnswered why))
step_reply_of (said.Seen n) = engine.Seen n
step_reply_of (said.Hello k vector) = engine.SentHello k vector
step_reply_of (said.Bundle k n) = engine.SentBundle k n
step_reply_of said.NoMessage = engine.NoMessage
step_reply_of (said.Received first n stopped) = engine.Received first n stopped
step_reply_of (said.Dropped n) = engine.Dropped n
