use Rattle.semantics.proofs.PublishedMessages.{hello_published, bundle_published}
use Rattle.semantics.proofs.world.what_is_sent_is_published.Goals as goal

pub returns-clause-hello : goal.returns-clause-hello
returns-clause-hello c = hello_published

pub returns-clause-bundle : goal.returns-clause-bundle
returns-clause-bundle c = bundle_published
