use Rattle.jdoc_c.proofs.Growing.{answered_grew}
use Rattle.jdoc_c.proofs.writer.respond.Goals as goal

pub returns-clause-grows : goal.returns-clause-grows
returns-clause-grows c =
    answered_grew c.answer.result c.args.line.now c.args.desk.now c.answer.new.self c.answer.ensures.answer c.answer.ensures.same
