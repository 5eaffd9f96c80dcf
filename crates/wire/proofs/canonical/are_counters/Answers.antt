use Rattle.std.proofs.Common.{rules, tests}
use Rattle.std.proofs.lemmas.Iterator.{YieldsList-from_slice}
use Rattle.std.proofs.lemmas.Iterator.Search.{all_from_yields_List}
use Rattle.semantics.specs.Ids.{OpId}
use Rattle.wire.specs.Sent.{is_counter}
use Rattle.wire.proofs.canonical.are_counters.Goals as goal

pub returns : goal.returns
returns c =
    all_from_yields_List (λ (a : OpId). is_counter a.counter) _ _ c.all.result c.all.ensures.ran (YieldsList-from_slice c.args.ids.now cc)
    (λ x b q k. search (rules, tests))
