-- A search finds where the replica stands or would stand, and there it is raised.
use Rattle.std.proofs.Common.{rules, ◌≡◌, ◌<◌, ◌≤◌, Ok, Err, length, sym, ap, ◌∙◌, subst, arith}
use Rattle.std.specs.List.{insert}
use Rattle.std.specs.List.Sorted.{IsBinarySearchResult}
use Rattle.std.specs.Ordering.{nat_cmp}
use Rattle.std.proofs.lemmas.Fn.{always_returns_same}
use Rattle.ids.proofs.RaisedVectors.{canonical_raise, raise_in_place, raise_searched}
use Rattle.ids.specs.Ids.{OpId}
use Rattle.ids.specs.Vectors.{IsCanonical, Vector, raise}
use Rattle.ids.specs.Growing.{Growing}
use Rattle.ids.proofs.growing.GrowingVector.raise.Goals as goal
use Rattle.ids.proofs.growing.GrowingVector.raise.Goals.{After-binary_search_by_key, Else-is_err}

raised : (c : After-binary_search_by_key) → IsCanonical (raise c.args.id c.self.inside.ids.items)
raised c = canonical_raise c.args.id c.self.inside.ids.items (λ e. omega (arith, e, c.requires.counted)) c.self.invariant

put_in : (c : Else-is_err) → c.insert.new.self.items ≡ raise c.args.id c.self.inside.ids.items
put_in c =
    let ids : Vector = c.self.inside.ids.items in
    let found = c.in-Err.ensures.position (λ (a : OpId). a.replica) (always_returns_same _ _ _ (λ a r f k. search rules)) in
    let there : IsBinarySearchResult (λ (a : OpId). nat_cmp a.replica c.args.id.replica) ids (Err c.in-Err.position)
    = subst
    (λ l. IsBinarySearchResult (λ (a : OpId). nat_cmp a.replica c.args.id.replica) l
    (Err c.in-Err.position)) c.deref.ensures.value found in
    let inside : c.in-Err.position ≤ length ids = search rules in
    let inserted : c.insert.new.self.items ≡ insert ids c.in-Err.position c.args.id = search rules in
    inserted ∙ sym (raise_searched c.args.id ids c.self.invariant (Err c.in-Err.position) there inside)

pub invariant_of-self : goal.invariant_of-self
invariant_of-self c =
    let ids : Vector = c.self.inside.ids.items in
    let found = c.in-Ok.ensures.position (λ (a : OpId). a.replica) (always_returns_same _ _ _ (λ a r f k. search rules)) in
    let there : IsBinarySearchResult (λ (a : OpId). nat_cmp a.replica c.args.id.replica) ids (Ok c.in-Ok.position)
    = subst
    (λ l. IsBinarySearchResult (λ (a : OpId). nat_cmp a.replica c.args.id.replica) l
    (Ok c.in-Ok.position)) c.deref.ensures.value found in
    let inside : c.in-Ok.position < length ids = search rules in
    subst IsCanonical
    (sym
    (raise_in_place c.args.id ids c.in-Ok.position c.index_mut-other.result.now c.max-other.result c.self.invariant there inside
    c.index_mut-other.ensures.value c.max-other.ensures)) (raised (goal.at.invariant_of-self c).After-binary_search_by_key)

pub invariant_of-self-else-is_err : goal.invariant_of-self-else-is_err
invariant_of-self-else-is_err c = subst IsCanonical (sym (put_in c))
    (raised (goal.at.invariant_of-self-else-is_err c).After-binary_search_by_key)

pub returns-in-Ok-clause-ids : goal.returns-in-Ok-clause-ids
returns-in-Ok-clause-ids c =
    let ids : Vector = c.self.inside.ids.items in
    let found = c.in-Ok.ensures.position (λ (a : OpId). a.replica) (always_returns_same _ _ _ (λ a r f k. search rules)) in
    let there : IsBinarySearchResult (λ (a : OpId). nat_cmp a.replica c.args.id.replica) ids (Ok c.in-Ok.position)
    = subst
    (λ l. IsBinarySearchResult (λ (a : OpId). nat_cmp a.replica c.args.id.replica) l
    (Ok c.in-Ok.position)) c.deref.ensures.value found in
    let inside : c.in-Ok.position < length ids = search rules in
    raise_in_place c.args.id ids c.in-Ok.position c.index_mut-other.result.now c.max-other.result c.self.invariant there inside
    c.index_mut-other.ensures.value c.max-other.ensures ∙ ap (λ (v : Growing). raise c.args.id v.ids) c.self.view_is

pub returns-else-is_err-clause-ids : goal.returns-else-is_err-clause-ids
returns-else-is_err-clause-ids c = put_in c ∙ ap (λ (v : Growing). raise c.args.id v.ids) c.self.view_is
