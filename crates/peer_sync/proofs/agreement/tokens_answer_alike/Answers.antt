use Rattle.semantics.specs.Entries.{stamped_entries}
use Rattle.peer_sync.proofs.AlikeReadings.{document_alike, missing_alike}
use Rattle.peer_sync.proofs.agreement.tokens_answer_alike.Goals as goal

pub returns-clause-document : goal.returns-clause-document
returns-clause-document c = document_alike

pub returns-clause-missing : goal.returns-clause-missing
returns-clause-missing c = λ G F same v. missing_alike v (stamped_entries G) (stamped_entries F) same
