use Rattle.std.proofs.Common.{◌≡◌, Ok, List, ℕ, [], subst, sym}
use Rattle.semantics.specs.Vectors.{Vector}
use Rattle.session.specs.wire.Messages.{hello_form}
use Rattle.session.specs.Answers.{IsAnswer}
use Rattle.session.specs.declared.session.answering.Answered.{Answered}
use Rattle.calls.specs.declared.response.Response.{Response}
use Rattle.calls.specs.declared.response.Response.TheVariants as said
use Rattle.serving.specs.Desks.{Desk, IsBundle, Sends}
use Rattle.serving.proofs.Utf8Bundles.{bundle_utf8}
use Rattle.serving.proofs.desk.Desk.answer_hello.Goals as goal

-- the response with an answer is a bundle
sends : (m : Desk) (hello : List ℕ) (a : Answered) (r : Response) → IsBundle a r
    → (v : Vector) × (hello_form hello ≡ Ok v) × IsAnswer 4194304 m.replica m.stored v a → Sends m hello r
sends m hello a (said.Bundle lines has_more is_beyond) is answer = (a, is, answer)
sends m hello a (said.Made id position) is answer = absurd is
sends m hello a (said.Refused why length) is answer = absurd is
sends m hello a (said.Denied why) is answer = absurd is
sends m hello a (said.Read length reading) is answer = absurd is
sends m hello a (said.Glance length g) is answer = absurd is
sends m hello a (said.Hello v) is answer = absurd is
sends m hello a (said.Received taken refused stopped) is answer = absurd is
sends m hello a (said.Saved length) is answer = absurd is
sends m hello a (said.Status number length saved) is answer = absurd is
sends m hello a (said.Ready number length) is answer = absurd is
sends m hello a (said.Unsaved length saved) is answer = absurd is
sends m hello a said.Lost is answer = absurd is

pub bundle_of-requires : goal.bundle_of-requires
bundle_of-requires g c =
    let (v, hello, answer) = c.in-Ok.ensures.ok in
    bundle_utf8 [] c.in-Ok.answered.lines.items _ answer.reads_back

pub returns-in-Ok : goal.returns-in-Ok
returns-in-Ok g c = sends c.args.self.now c.args.hello.now c.in-Ok.answered c.bundle_of.result c.bundle_of.ensures
    (subst (λ (m : Desk). (v : Vector) × (hello_form c.args.hello.now ≡ Ok v) × IsAnswer 4194304 m.replica m.stored v c.in-Ok.answered)
    c.self.view_is c.in-Ok.ensures.ok)
