use Rattle.std.proofs.Common.{refl, ◌∙◌, arith}
use Rattle.document.proofs.Consistent.{kept_first}
use Rattle.document.proofs.document.Document.new.Goals as goal

pub invariant_of-result : goal.invariant_of-result
invariant_of-result c =
    rw (c.in_ok-log.ensures.entries, c.in_ok-log.ensures.table ∙ c.in_ok-clone.ensures.cases)
    (record {
      grown = refl;
      consistent = kept_first _ _ _ c.len.ensures.distinct (omega (arith, c.len.ensures.few, c.len.ensures.length)) c.new-4.ensures
          c.in_ok-tree.ensures.table c.in_ok-tree.ensures.empty;
    })
