use Rattle.std.proofs.Common.{◌∙◌, sym, ap, length, ◌-◌, slice_get, List, ℕ, arith}
use Rattle.std.proofs.lemmas.Bool.{ltb-true}
use Rattle.columns.proofs.Counters.{rising_push}
use Rattle.columns.proofs.number_column.NumberColumn.is_behind.Goals as goal

pub returns-in-Some : goal.returns-in-Some
returns-in-Some c less =
    let ks = c.args.self.now.counters.items in
    rising_push ks c.args.counter (length ks - 1) c.in-Some.last.now c.requires
    (ap (λ (xs : List ℕ). slice_get xs (length xs - 1)) (sym c.deref.ensures.value) ∙ sym c.in-Some.ensures.value)
    (omega arith) (ltb-true _ _ less)
