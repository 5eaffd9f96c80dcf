-- A node that is lent.
use Rattle.std.specs.Prelude.{ℕ, List, slice_set}
use Rattle.std.specs.Borrow.{Lends, MutBor, Fml, Array}
use Rattle.std.specs.Vec.{with_item}
use Rattle.std.specs.contracts.alloc.Global as global
use Rattle.std.specs.contracts.vec.Vec as vec
use Rattle.std.specs.contracts.impls.GlobalAllocator.TheImpl.{ghosts}
use Rattle.tree.specs.declared.node.Node.{Node}
use Rattle.tree.specs.contracts.node.Node.{the_row}

-- r lends the node at i: what is last written through r ends up there, and the others stay
abbrev pub LendsNode : MutBor (List Node) → ℕ → MutBor Node → Fml
LendsNode nodes i r = Lends (Array the_row 0) the_row nodes r (slice_set nodes.now i)

-- the same out of a vector
abbrev pub LendsNodeIn : MutBor (vec.the_row the_row global.the_row ghosts).Denot → ℕ → MutBor Node → Fml
LendsNodeIn nodes i r = Lends (vec.the_row the_row global.the_row ghosts) the_row nodes r (with_item nodes.now i)
