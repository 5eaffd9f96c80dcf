-- A replica that joins a table leaves the indices of the others.
use Rattle.std.proofs.Common.{◌≡◌, ℕ, ◌<◌, ◌≤◌, List, [], ◌∷◌, length, Option, Some, None, slice_get, refl, sym, ap, subst, arith}
use Rattle.ids.specs.Tables.{Table, joined}
use Rattle.ids.proofs.Tables.{joined_place, length_joined}
use Rattle.semantics.specs.Ids.{OpId}
use Rattle.columns.specs.Entries.{AreIndicesIn}
use Rattle.operation.specs.value.declared.value.Scalar.{Scalar}
use Rattle.tree.specs.declared.node.Node.{Node}
use Rattle.tree.specs.Nodes.{AreIndexedNodes, IsIndexedNode}
use Rattle.tree.specs.Trees.{Planted, planted_of}

module _ (p : ℕ) (ps : List ℕ) where
  indices_joined : {X : Type 0} (es : List (OpId × X)) (indices : List ℕ) → AreIndicesIn ps es indices
      → AreIndicesIn (joined p ps) es indices
  indices_joined [] [] h = refl
  indices_joined [] (i ∷ is) h = absurd (cc)
  indices_joined (e ∷ es) [] h = absurd (cc)
  indices_joined (e ∷ es) (i ∷ is) h =
      let first : slice_get ps i ≡ Some e.0.replica = cc in
      let rest : AreIndicesIn ps es is = cc in
      λ t. joined_place p ps i e.0.replica first t ∷ indices_joined es is rest t

  node_joined : (o : Option Node) → IsIndexedNode ps o → IsIndexedNode (joined p ps) o
  node_joined None h = tt
  node_joined (Some n) h = (
    indices_joined n.presence.entries n.presence.indices h.0,
    indices_joined n.register.entries n.register.indices h.1,
  )

  pub nodes_joined : (ns : List Node) → AreIndexedNodes ps ns → AreIndexedNodes (joined p ps) ns
  nodes_joined ns h = λ i. node_joined (slice_get ns i) (h i)

-- a tree with room for another replica has a column that is wide enough for it
pub column_joined : (table : Table) (ns : List Node) (copy : Option Scalar) (column : List ℕ) (p : ℕ) (t : Planted)
    → planted_of table ns copy column ≡ t → 0 < t.room → (numbers : List ℕ) → numbers ≡ joined p table.numbers
    → length numbers ≤ length column
column_joined table ns copy column p t is room numbers after =
    let more = length_joined p table.numbers in
    let here : 0 < (planted_of table ns copy column).room = subst (λ u. 0 < u.room) (sym is) room in
    let count = ap length after in
    omega (arith, more, here, count)
