use Rattle.std.proofs.Common.{[], ◌∷◌, Some, None, sym, ap, ◌∙◌}
use Rattle.std.proofs.lemmas.Bool.Decides.{Decides-eqb}
use Rattle.std.proofs.lemmas.Slice.Eq.{strip_suffix_is}
use Rattle.peer_sync.specs.Sending.{without_end}
use Rattle.peer_sync.proofs.EndedLines.{without_end-ended, without_end-whole}
use Rattle.peer_sync.proofs.sending.without_end.Goals as goal

pub returns-in-Some : goal.returns-in-Some
returns-in-Some c =
    let ended = strip_suffix_is Decides-eqb c.args.line.now (10 ∷ []) (Some c.in-Some.text) c.in-Some.ensures.cases in
    sym (ap without_end ended ∙ without_end-ended c.in-Some.text.now)

pub returns-in-None : goal.returns-in-None
returns-in-None c = without_end-whole c.args.line.now (strip_suffix_is Decides-eqb c.args.line.now (10 ∷ []) None c.in-None.ensures.cases)
