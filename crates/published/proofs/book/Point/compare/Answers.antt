use Rattle.std.proofs.Common.{◌≡◌, ◌≤◌, ap, subst, arith, length, List}
use mathlib.Core.List.{IsPrefix}
use Rattle.document.specs.operation.declared.command.Entry.{Entry}
use Rattle.published.specs.Beginnings.{Beginning}
use Rattle.published.specs.Rules.{entries_in}
use Rattle.published.proofs.Prefixes.{entries_prefix, prefix_shorter}
use Rattle.published.proofs.book.Point.compare.Goals as goal

pub returns-clause-shorter : goal.returns-clause-shorter
returns-clause-shorter c le =
    let both = entries_in c.learn.new.self.log in
    let this : IsPrefix (entries_in c.self.inside.seen.log) both = subst (λ (l : List Entry). IsPrefix l both)
    (ap (λ s. entries_in s.log) c.again-both.ensures) (entries_prefix _ _ c.learn.ensures.2) in
    let other : IsPrefix (entries_in c.other.inside.seen.log) both = entries_prefix _ _ c.learn.ensures.3 in
    let s : entries_in c.self.inside.seen.log ≡ c.args.self.now.log = ap (λ (p : Beginning). p.log) c.self.view_is in
    let o : entries_in c.other.inside.seen.log ≡ c.args.other.now.log = ap (λ (p : Beginning). p.log) c.other.view_is in
    let less : length (entries_in c.self.inside.seen.log) ≤ length (entries_in c.other.inside.seen.log) =
    omega (arith, ap length s, ap length o, le) in
    rw (← s, ← o) (prefix_shorter (entries_in c.self.inside.seen.log) (entries_in c.other.inside.seen.log) both this other less)

pub returns-clause-longer : goal.returns-clause-longer
returns-clause-longer c le =
    let both = entries_in c.learn.new.self.log in
    let this : IsPrefix (entries_in c.self.inside.seen.log) both = subst (λ (l : List Entry). IsPrefix l both)
    (ap (λ s. entries_in s.log) c.again-both.ensures) (entries_prefix _ _ c.learn.ensures.2) in
    let other : IsPrefix (entries_in c.other.inside.seen.log) both = entries_prefix _ _ c.learn.ensures.3 in
    let s : entries_in c.self.inside.seen.log ≡ c.args.self.now.log = ap (λ (p : Beginning). p.log) c.self.view_is in
    let o : entries_in c.other.inside.seen.log ≡ c.args.other.now.log = ap (λ (p : Beginning). p.log) c.other.view_is in
    let less : length (entries_in c.other.inside.seen.log) ≤ length (entries_in c.self.inside.seen.log) =
    omega (arith, ap length s, ap length o, le) in
    rw (← s, ← o) (prefix_shorter (entries_in c.other.inside.seen.log) (entries_in c.self.inside.seen.log) both other this less)
