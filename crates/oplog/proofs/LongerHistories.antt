-- The history of more entries begins with that of the first ones.
use Rattle.std.proofs.Common.{List, map, reverse, ap, sym, ◌∙◌}
use Rattle.std.proofs.lemmas.List.{map-append, reverse-append}
use mathlib.Core.List.{IsPrefix}
use Rattle.semantics.specs.WorldHistory.{BeginsWith}
use Rattle.operation.specs.declared.command.Entry.{Entry}
use Rattle.operation.specs.Ops.{entry_of}
use Rattle.oplog.specs.Logs.{history}

pub begins_of : (xs ys : List Entry) → IsPrefix xs ys → BeginsWith (history ys) (history xs)
begins_of xs ys p = (
  history p.0,
  ap history (sym p.1) ∙ ap reverse (map-append entry_of xs p.0)
      ∙ reverse-append (map entry_of xs) (map entry_of p.0),
)
