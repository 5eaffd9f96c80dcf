use Rattle.semantics.proofs.SoundWorlds.{sound_engine}
use Rattle.semantics.proofs.KeptTickets.{ticketed, ticket_kept, received_submitted}
use Rattle.semantics.proofs.world.tickets_are_for_what_was_submitted.Goals as goal

pub returns-clause-ticket : goal.returns-clause-ticket
returns-clause-ticket c = ticketed

pub returns-clause-kept : goal.returns-clause-kept
returns-clause-kept c = ticket_kept

pub returns-clause-received : goal.returns-clause-received
returns-clause-received c cs steps e E h = received_submitted E (sound_engine cs steps e E h)
