use Rattle.requests.proofs.WrittenBack.{question_text_in}
use Rattle.requests.proofs.questions.questions_are_written_alike.Goals as goal

pub returns : goal.returns
returns c = question_text_in
