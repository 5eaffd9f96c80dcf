use Rattle.std.proofs.Common.{◌≡◌, [], ap, ◌∙◌, subst, rules}
use Rattle.json.specs.Lex.{tokens}
use Rattle.requests.specs.Taken.{IsTakenAs}
use Rattle.records.specs.Lines.{record_of}
use Rattle.records.specs.Replays.{record_meant}
use Rattle.records.proofs.OwnLines.{line_is_record}
use Rattle.records.proofs.record.own_on.Goals as goal

pub returns : goal.returns
returns c =
    let line = c.args.line.now in
    let said = record_meant c.in_ok-said.said in
    let text = c.in-Ok.ensures.cases in
    let begun : c.in-Ok-new.reader ≡ tokens line = c.in-Ok-new.ensures.ok ∙ ap tokens text.0 in
    let over : c.take_own.new.reader ≡ [] = search rules in
    line_is_record line said text.1
    (subst (λ ts. IsTakenAs 4 record_of ts said []) begun
    (subst (λ ts. IsTakenAs 4 record_of c.in-Ok-new.reader said ts) over c.in_ok-said.ensures))
