use Rattle.std.proofs.Common.{◌≡◌, ◌∙◌, length, map, sym, ap}
use Rattle.semantics.specs.World.{opened_engine}
use Rattle.ids.specs.Configurations.{Configuration}
use Rattle.ids.specs.contracts.config.Config.{the_view}
use Rattle.replica.specs.Replicas.{replica_of}
use Rattle.replica.specs.operation.Submissions.{submitted_of}
use Rattle.world.specs.Engines.{client_of, handled_of}
use Rattle.world.proofs.engine.Engine.open.Goals as goal

pub returns : goal.returns
returns c =
    let E = opened_engine (the_view c.config.inside) in
    let replica : replica_of c.in_ok-handler.handler.replica ≡ E.replica = c.in_ok-handler.ensures.new.0
    ∙ ap (λ (g : Configuration). (opened_engine g).replica) (sym c.config.view_is) in
    let serials : c.from.result ≡ E.serials = c.from.ensures in
    let queue : map submitted_of c.new.result.items ≡ E.queue = (λ i. map submitted_of (c.new.ensures.items i)) in
    let handled : map handled_of c.new-2.result.items ≡ E.handled = (λ i. map handled_of (c.new-2.ensures.items i)) in
    let due : map handled_of c.new-3.result.items ≡ E.due = (λ i. map handled_of (c.new-3.ensures.items i)) in
    let published : length c.in_ok-handler.publisher.published ≡ E.published = (λ i. length (c.in_ok-handler.ensures.new.2 i)) in
    let clients : map client_of c.in_ok-clients.clients.items ≡ E.clients = c.in_ok-clients.ensures.clients in
    let readers : c.in_ok-readers.readers.items ≡ E.readers = c.in_ok-readers.ensures.readers in
    record {
      engine =
          (λ i. record {
            capacity = E.capacity;
            batch = E.batch;
            serials = serials i;
            replica = replica i;
            queue = queue i;
            handled = handled i;
            due = due i;
            published = published i;
            clients = clients i;
            readers = readers i;
          })
          ∙ ap opened_engine c.config.view_is;
    }
