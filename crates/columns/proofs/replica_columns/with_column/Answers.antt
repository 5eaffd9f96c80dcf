use Rattle.std.proofs.Common.{◌≡◌, ◌||◌, ◌∙◌, ◌<◌, ◌==◌, ℕ, sym, ap, false, length, arith, tests}
use Rattle.std.proofs.Math.Bool.{or_comm}
use Rattle.std.proofs.lemmas.Bool.{eqb-true}
use Rattle.columns.specs.Kinds.{has_kind}
use Rattle.columns.proofs.KindsInColumns.{stands-column, stands-none}
use Rattle.columns.proofs.replica_columns.with_column.Goals as goal

any : (n : ℕ) → (n == 0) ≡ false → 0 < n
any n h = grind (arith, tests, h)

pub returns-then-is_empty : goal.returns-then-is_empty
returns-then-is_empty c = λ t.
    let none : length c.args.column.now.counters.items ≡ 0 =
    eqb-true _ _ (sym c.is_empty.ensures ∙ c.if-is_empty.true) in
    sym (ap (λ b. has_kind c.args.kinds t || b) (stands-none t c.args.column.now none) ∙ or_comm (has_kind c.args.kinds t) false)

pub returns : goal.returns
returns c = λ t.
    let some : 0 < length c.args.column.now.counters.items =
    any _ (sym c.is_empty.ensures ∙ c.if-is_empty.false) in
    c.with.ensures t ∙ ap (λ b. has_kind c.args.kinds t || b) (sym (stands-column t c.args.column.now some))
