use Rattle.std.proofs.Common.{◌≡◌, [], map, replicate}
use Rattle.world.specs.Engines.{client_of}
use Rattle.world.proofs.engine.new_clients.Given as goal

abbrev pub invariant-loop : goal.invariant-loop
invariant-loop l = map client_of l.clients.items ≡ replicate l.counter (record { seen = 0; cells = [] })
