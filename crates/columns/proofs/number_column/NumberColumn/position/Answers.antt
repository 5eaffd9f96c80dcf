use Rattle.std.proofs.Common.{◌≡◌, ◌<◌, ◌-◌, ◌∙◌, sym, ap, length, ℕ, get_or, Some, arith, Greater}
use Rattle.std.proofs.lemmas.Cmp.{ranked}
use Rattle.std.proofs.lemmas.Option.{slice_get-get_or}
use Rattle.columns.proofs.Counters.{rising_push}
use Rattle.columns.proofs.StandingPuts.{behind_absent}
use Rattle.columns.proofs.number_column.NumberColumn.position.Goals as goal

pub returns-in-Greater : goal.returns-in-Greater
returns-in-Greater c =
    let ks = c.args.self.now.counters.items in
    let last : ℕ = c.index.result.now in
    let i : ℕ = length ks - 1 in
    let count = c.len-count.ensures in
    let long = c.args.self.now.counters.ok.0 in
    let some = c.if-count-eq0.false in
    let position : c.len-count.result - 1 ≡ i = ap (λ n. n - 1) (count ∙ long) in
    let inside : i < length ks = omega (arith, count, long, some) in
    let above = ranked c.args.counter last Greater (sym c.in-Greater.is ∙ c.cmp.ensures) in
    behind_absent c.args.counter ks
    (rising_push ks c.args.counter i last c.requires
    (slice_get-get_or ks i last inside ∙ ap Some (sym (c.index.ensures ∙ ap (λ n. get_or ks n last) position))) (omega arith)
    (omega (arith, above)))
