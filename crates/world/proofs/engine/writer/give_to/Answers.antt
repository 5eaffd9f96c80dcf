use Rattle.std.proofs.Common.{◌≡◌, ◌<◌, Some, length, map, set, sym, ap, ◌∙◌, slice_get, arith}
use Rattle.std.proofs.lemmas.List.{map-set}
use Rattle.world.specs.Engines.{client_of, given_of}
use Rattle.world.proofs.SingleSteps.{read_mapped, give_to-there}
use Rattle.world.proofs.engine.writer.give_to.Goals as goal

pub returns-then-client-len : goal.returns-then-client-len
returns-then-client-len c =
    let ks = c.args.clients.now.items in
    let at = c.args.client in
    let within : at < length ks = omega arith in
    let there : slice_get (map client_of ks) at ≡ Some (client_of c.index_mut-client.result.now) =
    read_mapped client_of ks at c.index_mut-client.result.now within c.index_mut-client.ensures.value in
    map-set client_of ks at c.answer.new.self
    ∙ ap (set (map client_of ks) at) c.answer.ensures
    ∙ sym
    (give_to-there (map client_of ks) at c.args.serial (given_of c.args.given)
    (client_of c.index_mut-client.result.now) there)
