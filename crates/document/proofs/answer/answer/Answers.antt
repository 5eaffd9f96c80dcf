use Rattle.std.proofs.Common.{sym, ap, subst, ◌∙◌}
use Rattle.ids.specs.Vectors.{IsNamed}
use Rattle.semantics.specs.Questions.{VectorIs}
use Rattle.semantics.specs.LegalAnswer.{Answered, reading_of}
use Rattle.document.specs.Documents.{asked_of}
use Rattle.document.proofs.Consistent.{is_named}
use Rattle.document.proofs.answer.answer.Goals as goal

pub of-requires : goal.of-requires
of-requires c = subst IsNamed (sym c.ids.ensures.ids) (is_named _ _ _ _ c.requires)

pub returns-in_ok-of-in-Vector-clause-answer : goal.returns-in_ok-of-in-Vector-clause-answer
returns-in_ok-of-in-Vector-clause-answer c =
    let G = c.args.log.now.entries in
    ap (λ v. Answered (VectorIs v)) (c.in_ok-of-in-Vector.ensures ∙ c.ids.ensures.ids ∙ c.requires.vector)
    ∙ ap (λ q. reading_of G (asked_of q)) (sym c.in-Vector.is)
