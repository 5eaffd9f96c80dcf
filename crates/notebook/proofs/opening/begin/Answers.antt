use Rattle.std.proofs.Common.{List, subst}
use Rattle.semantics.specs.Entries.{Entry}
use Rattle.journal.specs.wire.Lines.{cut}
use Rattle.journal.specs.records.Replays.{BringsBackLines}
use Rattle.notebook.proofs.ClientSteps.{new_seen}
use Rattle.notebook.proofs.opening.begin.Goals as goal

pub returns-in-Ok-clause-brought : goal.returns-in-Ok-clause-brought
returns-in-Ok-clause-brought g c =
    subst (λ (F : List Entry). BringsBackLines F (cut c.args.bytes.now).lines c.go_on.new.client.seen)
    (new_seen c.args.parts.config c.in_ok-writer.others.items c.pop.new.self.items c.in-Some.client c.in-Some.ensures.items
    c.in_ok-writer.ensures.clients.2)
    c.in-Ok.ensures.brought
