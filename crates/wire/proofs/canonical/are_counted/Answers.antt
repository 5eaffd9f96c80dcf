use Rattle.std.proofs.Common.{rules, tests, ◌≡◌, sym, ◌∙◌}
use Rattle.std.specs.List.{list_all}
use Rattle.std.proofs.lemmas.List.Folds.{list_all-map}
use Rattle.std.proofs.lemmas.Iterator.{YieldsList-from_slice}
use Rattle.std.proofs.lemmas.Iterator.Search.{all_from_yields_List}
use Rattle.operation.specs.cursor.Steps.{hop_of}
use Rattle.wire.specs.Sent.{key_counted}
use Rattle.wire.proofs.canonical.are_counted.Goals as goal

pub returns : goal.returns
returns c =
    let all : c.all.result ≡ list_all (λ h. key_counted (hop_of h)) c.args.hops.now =
    all_from_yields_List (λ h. key_counted (hop_of h)) _ _ c.all.result c.all.ensures.ran (YieldsList-from_slice c.args.hops.now cc)
    (λ x b q k. search (rules, tests)) in
    all ∙ sym (list_all-map key_counted hop_of c.args.hops.now)
