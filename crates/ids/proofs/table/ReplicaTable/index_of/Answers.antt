use Rattle.std.proofs.Common.{◌≡◌, ◌-◌, suc, true, true≢false, IsTrue, IsFalse, refl, sym, ap, ◌∙◌, arith}
use Rattle.ids.specs.Members.{is_member}
use Rattle.ids.specs.Vectors.{Vector, at}
use Rattle.ids.proofs.Tables.{placed_nowhere, placed_there}
use Rattle.ids.proofs.table.ReplicaTable.index_of.Goals as goal

pub returns-in-0-clause-none : goal.returns-in-0-clause-none
returns-in-0-clause-none c =
    let v : Vector = c.self.inside.places.ids in
    let z : at v c.args.replica ≡ 0 = ap (λ (w : Vector). at w c.args.replica) (sym c.ids.ensures.ids) ∙ sym c.counter_of.ensures
    ∙ c.in-0.is in
    let none : IsFalse (is_member c.self.inside.replicas.items c.args.replica) =
    placed_nowhere c.self.inside.replicas.items v c.args.replica c.self.invariant z in
    rw (← c.self.view_is) (λ e. none, λ e. refl)

pub returns-in_default-clause-none : goal.returns-in_default-clause-none
returns-in_default-clause-none c =
    let v : Vector = c.self.inside.places.ids in
    let n = c.counter_of.result in
    let is : at v c.args.replica ≡ n = ap (λ (w : Vector). at w c.args.replica) (sym c.ids.ensures.ids) ∙ sym c.counter_of.ensures in
    let k : at v c.args.replica ≡ suc (n - 1) = omega (arith, is, c.in_default) in
    let there : IsTrue (is_member c.self.inside.replicas.items c.args.replica) =
    placed_there c.self.inside.replicas.items v c.args.replica (n - 1) c.self.invariant k in
    rw (← c.self.view_is) (λ e. absurd (true≢false e), λ e. absurd (true≢false (sym there ∙ e)))
