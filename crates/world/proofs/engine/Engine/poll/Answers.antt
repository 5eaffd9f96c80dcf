use Rattle.std.proofs.Common.{◌≡◌, ◌<◌, Some, length, map, max, set, sym, ap, ◌∙◌, arith, option_map}
use Rattle.std.proofs.lemmas.List.{map-set}
use Rattle.std.proofs.lemmas.Option.{same_Some}
use Rattle.semantics.specs.Engine.{Engine as TheEngine, Client as TheClient, Replied, Outcome}
use Rattle.semantics.specs.ReadSteps.{cell_at, poll}
use Rattle.world.specs.Engines.{client_of, cell_of, given_of}
use Rattle.world.specs.contracts.engine.Engine.{the_view}
use Rattle.world.proofs.SingleSteps.{read_mapped, poll-there}
use Rattle.world.proofs.engine.Engine.poll.Goals as goal

-- the client that exists reads the answer, and has seen what was published with it
polled : (c : goal.After-self-1) →
    let E : TheEngine = the_view c.self.inside in
    let k : TheClient = client_of c.index_mut-k.result.now in
    let g = given_of c.in-Some-answer.given in
    poll E c.args.client c.args.serial
    ≡ record {
      engine = record E { clients = set E.clients c.args.client (record k { seen = max k.seen g.published }) };
      reply = Replied g.reply;
    }
polled c =
    let E : TheEngine = the_view c.self.inside in
    let ks = c.self.inside.clients.items in
    let at = c.args.client in
    let k = c.index.result.now in
    let m = c.index_mut-k.result.now in
    let cell = c.in-Some.cell.now in
    let within : at < length ks = omega arith in
    let again = read_mapped client_of ks at m within c.index_mut-k.ensures.value in
    let there = read_mapped client_of ks at k within c.index.ensures in
    let same = same_Some (client_of k) (client_of m) (sym there ∙ again) in
    let found : cell_at (client_of m).cells c.args.serial
    ≡ Some (cell_of cell) = ap (λ (x : TheClient). cell_at x.cells c.args.serial) (sym same)
    ∙ sym c.in-Some.ensures in
    let given = ap (option_map given_of) c.in-Some-answer.is in
    poll-there E at c.args.serial (client_of m) (cell_of cell) (given_of c.in-Some-answer.given) again found given

pub returns-clause-engine : goal.returns-clause-engine
returns-clause-engine c =
    let E : TheEngine = the_view c.self.inside in
    let client = client_of in
    let ks = c.self.inside.clients.items in
    let at = c.args.client in
    let m = c.index_mut-k.result.now in
    rw (← c.self.view_is)
    ((λ i. record E { clients = map-set client ks at (record { seen = c.max-k.result; cells = m.cells }) i })
    ∙ (λ i. record E { clients = set (map client ks) at (record (client m) { seen = c.max-k.ensures i }) })
    ∙ sym (ap (λ (t : Outcome). t.engine) (polled c)))

pub returns-clause-reply : goal.returns-clause-reply
returns-clause-reply c = rw (← c.self.view_is) (sym (ap (λ (t : Outcome). t.reply) (polled c)))
