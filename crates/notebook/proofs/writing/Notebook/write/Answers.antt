use Rattle.std.proofs.Common.{List, ap, subst, sym}
use Rattle.engine.specs.command.declared.ticket.Ticket.{Ticket}
use Rattle.engine.specs.operation.Ops.{command_of}
use Rattle.semantics.specs.Entries.{Entry}
use Rattle.notebook.specs.Notebooks.{IsMadeOf, Notebook}
use Rattle.notebook.proofs.ClientSteps.{under_last}
use Rattle.notebook.proofs.writing.Notebook.write.Goals as goal

pub returns-clause-made : goal.returns-clause-made
returns-clause-made g c =
    subst (λ (G : List Entry). IsMadeOf G (command_of c.args.command) c.in_ok-id.id)
    (sym (ap (λ (n : Notebook). n.client.seen) c.in_ok-store_all.ensures.same))
    (c.in_ok-id.ensures.made (command_of c.args.command)
    (under_last c.self.inside.client c.submit.new.self c.in_ok-ticket.ticket c.args.command c.in_ok-ticket.ensures.kept
    (ap (λ (t : Ticket). t.serial) c.in_ok-ticket.ensures.ticket)))
