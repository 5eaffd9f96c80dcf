use Rattle.std.proofs.Common.{◌≡◌, ℕ, max, Some, map, refl, sym, ap, ◌∙◌, subst, option_and_then}
use Rattle.semantics.specs.Engine.{Engine as TheEngine, Cell as TheCell, Outcome, Seen, Unanswered}
use Rattle.semantics.specs.ReadSteps.{cell_under, learn, see, seen_by}
use Rattle.world.specs.Engines.{client_of, given_of}
use Rattle.world.specs.contracts.engine.Engine.{the_view}
use Rattle.world.proofs.LearnedAnswers.{learn-unset, learn-set}
use Rattle.world.proofs.engine.Engine.learn.Goals as goal

-- a serial without an answer leaves everything as it is
unset : (c : goal.In_default)
    → record { engine = the_view c.self.inside; reply = Unanswered }
    ≡ learn (the_view c.self.inside) c.args.token c.args.client c.args.serial
unset c =
    let E : TheEngine = the_view c.self.inside in
    learn-unset E c.args.token c.args.client c.args.serial
    (c.in_default.ensures E (ap (map client_of) (sym c.deref.ensures.value)))

pub returns-in_default-clause-engine : goal.returns-in_default-clause-engine
returns-in_default-clause-engine c = rw (← c.self.view_is) (ap (λ (t : Outcome). t.engine) (unset c))

pub returns-in_default-clause-reply : goal.returns-in_default-clause-reply
returns-in_default-clause-reply c = rw (← c.self.view_is) (ap (λ (t : Outcome). t.reply) (unset c))

-- for a serial with an answer, the token has seen what the code computes
answered : (c : goal.After-see)
    → record { engine = see (the_view c.self.inside) c.args.token c.max-seen.result; reply = Seen c.max-seen.result }
    ≡ learn (the_view c.self.inside) c.args.token c.args.client c.args.serial
answered c =
    let E : TheEngine = the_view c.self.inside in
    let token = c.args.token in
    let g = given_of c.in-Some.given in
    let found : Some g ≡ option_and_then (λ (cell : TheCell). cell.answer) (cell_under E c.args.client c.args.serial) =
    c.in-Some.ensures E (ap (map client_of) (sym c.deref.ensures.value)) in
    let before : c.seen_by.result
    ≡ seen_by E token = c.seen_by.ensures E (ap (map client_of) (sym c.deref-2.ensures.value))
    (sym c.deref-3.ensures.value) in
    let after : c.max-seen.result ≡ max (seen_by E token) g.published = c.max-seen.ensures ∙ ap (λ (n : ℕ). max n g.published) before in
    subst (λ (n : ℕ). record { engine = see E token n; reply = Seen n } ≡ learn E token c.args.client c.args.serial) (sym after)
    (learn-set E token c.args.client c.args.serial g found)

pub returns-clause-engine : goal.returns-clause-engine
returns-clause-engine c =
    let E : TheEngine = the_view c.self.inside in
    rw (← c.self.view_is)
    (sym (c.see.ensures E refl refl) ∙ ap (λ (t : Outcome). t.engine) (answered c))

pub returns-clause-reply : goal.returns-clause-reply
returns-clause-reply c = rw (← c.self.view_is) (ap (λ (t : Outcome). t.reply) (answered c))
