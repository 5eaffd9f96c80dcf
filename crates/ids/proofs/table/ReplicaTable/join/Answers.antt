use Rattle.std.proofs.Common.{◌≡◌, ◌<◌, ◌+◌, ◌∷◌, ◌++◌, [], ℕ, List, false, length, sym, ap, ◌∙◌, subst, arith}
use Rattle.ids.specs.Ids.{id_at}
use Rattle.ids.specs.Members.{is_member}
use Rattle.ids.specs.Tables.{IsTable, Table}
use Rattle.ids.specs.Vectors.{Vector, most_named, raise}
use Rattle.ids.proofs.Tables.{table_joined}
use Rattle.ids.proofs.table.ReplicaTable.join.Goals as goal

pub invariant_of-self : goal.invariant_of-self
invariant_of-self c =
    let ps : List ℕ = c.self.inside.replicas.items in
    let v : Vector = c.self.inside.places.ids in
    let p : ℕ = c.args.replica in
    let new : is_member ps p ≡ false = subst (λ (t : Table). is_member t.numbers p ≡ false) (sym c.self.view_is) c.requires.new in
    let few : length ps < most_named = subst (λ (t : Table). length t.numbers < most_named) (sym c.self.view_is) c.requires.few in
    let counter : c.len-index.result + 1 ≡ length ps + 1 = (let n = c.len-index.ensures in omega (arith, n)) in
    let raised : c.raise.new.self.ids ≡ raise (id_at (length ps + 1) p) v = c.raise.ensures.ids ∙ ap (λ n. raise (id_at n p) v) counter in
    subst (λ (qs : List ℕ). IsTable qs c.raise.new.self.ids) (sym c.push_reserved.ensures.items)
    (subst (λ (w : Vector). IsTable (ps ++ p ∷ []) w) (sym raised) (table_joined ps v p c.self.invariant new few))
