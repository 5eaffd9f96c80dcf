use Rattle.published.proofs.Shows.{admits}
use Rattle.published.proofs.publisher.tokens.Goals as goal

pub reader-requires : goal.reader-requires
reader-requires g c = admits _ _ _
