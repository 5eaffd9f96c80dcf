use Rattle.std.proofs.Common.{rules, ◌≡◌, true, nat_eq, refl, sym, ◌∙◌}
use Rattle.std.specs.Cmp.Lexicographic.{pointwise}
use Rattle.bench.proofs.Views.{same_by_values}
use Rattle.bench.proofs.showing.Shown.is_same.Goals as goal
use Rattle.bench.proofs.showing.Shown.is_same.Goals.{then-self-other, else-self-other}

pub returns-then-eq : goal.returns-then-eq
returns-then-eq c = elim c.if-self-other.branch [
  | then-self-other w ↦
      let long : c.args.self.now.length ≡ c.args.other.now.length = search rules in
      let keys : pointwise (pointwise nat_eq) c.args.self.now.keys.items c.args.other.now.keys.items ≡ true = sym w.eq.ensures
      ∙ sym w.value-is ∙ c.if-eq.true in
      same_by_values _ (λ p q. refl) c.args.self.now c.args.other.now c.eq-then-eq.result long keys c.eq-then-eq.ensures
  | else-self-other w ↦ search rules
]
