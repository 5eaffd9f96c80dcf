use Rattle.std.proofs.Common.{sym, subst}
use Rattle.std.specs.Prelude.{OnOk}
use Rattle.world.specs.Acts.{step_reply_of}
use Rattle.world.specs.declared.step.WorldReply.{WorldReply}
use Rattle.world.specs.wire.Writing.{IsWritten, tokens_of}
use Rattle.scripts.specs.Replies.{step_reply_json}
use Rattle.scripts.proofs.replies.put_reply.Goals as goal

pub returns-in-Published : goal.returns-in-Published
returns-in-Published c =
    subst (λ (r : WorldReply). OnOk c.put_one-in-Published.result
    (IsWritten (tokens_of (step_reply_json (step_reply_of r))) c.args.out.now c.put_one-in-Published.new.out)) (sym c.in-Published.is)
    c.put_one-in-Published.ensures
