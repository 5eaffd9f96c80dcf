use Rattle.std.proofs.Common.{◌≡◌, ◌∙◌, ◌+◌, sym, ap, refl, drop, not, ◌==◌}
use Rattle.std.specs.List.{filter, remove}
use Rattle.columns.specs.RisingCounters.{Risen}
use Rattle.columns.proofs.Counters.{drop-remove}
use Rattle.columns.proofs.rising_counters.RisingCounters.remove.Goals as goal

pub returns-in-Some-clause-counters : goal.returns-in-Some-clause-counters
returns-in-Some-clause-counters c =
    let ks = c.self.inside.counters.items in
    let n = c.self.inside.gone in
    let i = c.in-Some.position in
    let here : c.split_at.result.1.now ≡ drop n ks = c.split_at.ensures.back ∙ ap (drop n) c.deref.ensures.value in
    ap (drop n) c.remove.ensures.items
    ∙ drop-remove n ks i (n + i) refl
    ∙ ap (λ xs. remove xs i) (sym here)
    ∙ c.in-Some.ensures.left
    ∙ ap (filter (λ k. not (k == c.args.counter))) (here ∙ ap (λ (x : Risen). x.items) c.self.view_is)
