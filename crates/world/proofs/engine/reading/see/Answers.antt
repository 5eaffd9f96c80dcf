use Rattle.std.proofs.Common.{◌≡◌, ◌<◌, ◌-◌, Some, None, List, length, map, set, sym, ap, ◌∙◌, slice_get, arith}
use Rattle.std.proofs.lemmas.List.{map-set, length-map}
use Rattle.std.proofs.lemmas.Option.{slice_get_past}
use Rattle.semantics.specs.Engine.{Client as TheClient}
use Rattle.world.specs.Engines.{client_of, cell_of}
use Rattle.world.proofs.SingleSteps.{read_mapped, see-client, see-reader}
use Rattle.world.proofs.engine.reading.see.Goals as goal

pub returns-then-token-len : goal.returns-then-token-len
returns-then-token-len c = λ E clients readers.
    (let ks = c.args.clients.now.items in
    let at = c.args.token in
    let m = c.index_mut-k.result.now in
    let within : at < length ks = omega arith in
    let there : slice_get E.clients at ≡ Some (client_of m) = ap (λ (xs : List TheClient). slice_get xs at) clients
    ∙ read_mapped client_of ks at m within c.index_mut-k.ensures.value in
    see-client E at c.args.seen (client_of m) there
    ∙ (λ i. record E {
      clients = set (clients i) at (record { seen = c.args.seen; cells = map cell_of m.cells.items });
      readers = readers i;
    })
    ∙ (λ i. record E {
      clients = sym (map-set client_of ks at (record { seen = c.args.seen; cells = m.cells })) i;
      readers = c.args.readers.now.items;
    }))

pub returns-then-reader-len : goal.returns-then-reader-len
returns-then-reader-len c = λ E clients readers.
    (let ks = c.args.clients.now.items in
    let at = c.args.token in
    let len = length-map ks client_of in
    let none : slice_get E.clients at ≡ None = ap (λ (xs : List TheClient). slice_get xs at) clients
    ∙ slice_get_past (map client_of ks) at (omega (arith, len)) in
    let index : at - length E.clients ≡ at - c.len-2.result = (let n = ap length clients in omega (arith, n, len)) in
    see-reader E at c.args.seen none
    ∙ (λ i. record E { clients = clients i; readers = set (readers i) (index i) c.args.seen }))
