use Rattle.std.proofs.Common.{◌≡◌, Bool, true, false, not, is_some, sym, ap, ◌∙◌}
use Rattle.oplog.proofs.PlacedIds.{placed}
use Rattle.document.proofs.check.is_of_nobody.Goals as goal

turned : (b c : Bool) → c ≡ not b → b ≡ not c
turned true c e = ap not (sym e)
turned false c e = ap not (sym e)

pub returns : goal.returns
returns c =
    turned c.is_none.result (is_some c.find.result) c.is_none.ensures
    ∙ ap (λ o. not (is_some o)) c.find.ensures
    ∙ ap not (placed c.args.log.now.entries c.args.id)
