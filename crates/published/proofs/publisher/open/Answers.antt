-- Both copies represent the empty beginning of the engine's history.
use Rattle.std.proofs.Common.{◌≡◌, [], ap, ◌∙◌}
use Rattle.published.specs.Beginnings.{Beginning}
use Rattle.published.specs.Copies.{Snapshot}
use Rattle.published.proofs.Shows.{begins}
use Rattle.published.proofs.publisher.open.Goals as goal

pub new-requires-2-clause-rule : goal.new-requires-2-clause-rule
new-requires-2-clause-rule g c =
    let point : c.again.result ≡ record { log = []; book = c.args.opened.seen.book } = c.again.ensures ∙ c.start-head.ensures.point in
    let first : Snapshot = record {
      table = c.args.first.members;
      entries = c.args.first.entries;
      log = c.again.result.log;
      book = c.again.result.book;
    } in
    begins g.N.EngineName.book g.N.EngineName.own g.N.EngineName.table first (λ i. record {
      table = c.requires.tables.0 i;
      entries = c.requires.new.0 i;
      log = (point i).log;
      book = (ap (λ (p : Beginning). p.book) point ∙ c.requires.name) i;
    })
