use Rattle.std.proofs.Common.{◌<◌, Ok, Err, List, length, sym, rules}
use Rattle.std.specs.List.Sorted.{IsBinarySearchResult}
use Rattle.std.specs.Ordering.{nat_cmp}
use Rattle.std.proofs.lemmas.Fn.{always_returns_same}
use Rattle.ids.specs.Ids.{OpId}
use Rattle.ids.proofs.SearchedVectors.{searched_vector}
use Rattle.ids.proofs.named_vector.counter_of.Goals as goal

pub returns-in-Ok : goal.returns-in-Ok
returns-in-Ok c =
    let ids : List OpId = c.args.ids.now in
    let there : IsBinarySearchResult (λ (a : OpId). nat_cmp a.replica c.args.replica) ids (Ok c.in-Ok.index)
    = c.in-Ok.ensures.position (λ (a : OpId). a.replica) (always_returns_same _ _ _ (λ a r f k. search rules)) in
    let inside : c.in-Ok.index < length ids = search rules in
    sym (searched_vector ids c.args.replica c.requires (Ok c.in-Ok.index) there inside c.index-ids-index.result)

pub returns-in-Err : goal.returns-in-Err
returns-in-Err c =
    let ids : List OpId = c.args.ids.now in
    let there : IsBinarySearchResult (λ (a : OpId). nat_cmp a.replica c.args.replica) ids (Err c.in-Err.field-0)
    = c.in-Err.ensures.position (λ (a : OpId). a.replica) (always_returns_same _ _ _ (λ a r f k. search rules)) in
    sym (searched_vector ids c.args.replica c.requires (Err c.in-Err.field-0) there)
