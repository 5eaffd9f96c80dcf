use Rattle.std.proofs.Common.{◌≡◌, ◌++◌, List, IsUtf8, ap, ◌∙◌, subst}
use Rattle.json.specs.Print.{print}
use Rattle.json.specs.Token.{Token}
use Rattle.serde_json.proofs.Texts.{print-outline}
use Rattle.world.specs.Acts.{step_reply_of}
use Rattle.world.specs.wire.Writing.{tokens_of}
use Rattle.scripts.specs.Replies.{step_reply_json}
use Rattle.scripts.proofs.replies.with_reply.Goals as goal

pub returns-clause-line : goal.returns-clause-line
returns-clause-line c =
    let reply = step_reply_json (step_reply_of c.args.reply.now) in
    let wrote = c.in_ok-put_reply.ensures in
    let all : c.put_reply.new.out.tokens ≡ tokens_of reply = wrote.tokens
    ∙ ap (λ (ts : List Token). ts ++ tokens_of reply) c.new-out.ensures.tokens in
    c.into_inner.ensures.items ∙ (λ i. (wrote.before ∙ c.new-out.ensures.before) i ++ (ap print all ∙ print-outline reply) i)

pub returns-clause-utf8 : goal.returns-clause-utf8
returns-clause-utf8 c =
    let reply = step_reply_json (step_reply_of c.args.reply.now) in
    let all : c.put_reply.new.out.tokens ≡ tokens_of reply = c.in_ok-put_reply.ensures.tokens
    ∙ ap (λ (ts : List Token). ts ++ tokens_of reply) c.new-out.ensures.tokens in
    subst IsUtf8 (ap print all ∙ print-outline reply) c.into_inner.ensures.utf8
