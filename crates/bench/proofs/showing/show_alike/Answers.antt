use Rattle.std.proofs.Common.{rules, ◌≡◌, None, slice_get, sym}
use Rattle.std.proofs.lemmas.Iterator.{YieldsList-from_slice}
use Rattle.std.proofs.lemmas.Iterator.Search.{all_from_yields_List}
use Rattle.bench.specs.declared.showing.Shown.{Shown}
use Rattle.bench.specs.Showing.{is_same_view, view_of}
use Rattle.bench.proofs.Views.{alike_by_first, none_differs}
use Rattle.bench.proofs.showing.show_alike.Goals as goal

pub returns-then-first-length : goal.returns-then-first-length
returns-then-first-length c =
    let first : Shown = c.in-Some.first.now in
    let tested = all_from_yields_List
    (λ (s : Shown). is_same_view (view_of s) (view_of first)) c.all.new.self _ c.all.result c.all.ensures.ran
    (YieldsList-from_slice c.args.shown.now (search rules)) (λ x b q k. search rules) in
    alike_by_first c.args.length c.args.shown.now first c.all.result (sym c.in-Some.ensures.value) (search rules) tested

pub returns-in-None : goal.returns-in-None
returns-in-None c =
    let gone : slice_get c.args.shown.now 0 ≡ None = search rules in
    (λ t. none_differs c.args.length c.args.shown.now gone, λ s. search rules)
