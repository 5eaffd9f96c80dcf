use Rattle.std.proofs.Common.{◌≡◌, ◌≤◌, ◌++◌, ◌∷◌, [], ℕ, length, sym, subst, arith}
use Rattle.std.specs.Prelude.{slice_get}
use Rattle.tree.specs.Nodes.{IsOrphan, Kept, child_room, links}
use Rattle.tree.proofs.Pushed.{push_kept, push_orphan, push_rooms, push_view}
use Rattle.tree.proofs.grow.push_node.Goals as goal

pub returns-clause-kept : goal.returns-clause-kept
returns-clause-kept c = subst (Kept c.args.nodes.now.items) (sym c.in_ok-push.ensures.items)
    (push_kept c.args.nodes.now.items c.args.fresh c.requires.empty c.requires.tree)

pub returns-clause-orphan : goal.returns-clause-orphan
returns-clause-orphan c =
    let ns = c.args.nodes.now.items in
    let count : c.new-number.result ≡ length ns = omega arith in (
      subst (λ ms. IsOrphan ms c.new-number.result) (sym c.in_ok-push.ensures.items)
          (subst (IsOrphan (ns ++ c.args.fresh ∷ [])) (sym count) (push_orphan ns c.args.fresh c.requires.empty c.requires.tree)),
      count,
    )

pub returns-clause-rooms : goal.returns-clause-rooms
returns-clause-rooms c = λ i k. subst (λ ms. child_room (slice_get c.args.nodes.now.items i) k ≤ child_room (slice_get ms i) k)
    (sym c.in_ok-push.ensures.items) (push_rooms c.args.nodes.now.items c.args.fresh i k)

pub returns-clause-shape : goal.returns-clause-shape
returns-clause-shape c = subst (λ ms. (i : ℕ) → links c.args.nodes.now.items i ≡ links ms i) (sym c.in_ok-push.ensures.items)
    ((push_view c.args.nodes.now.items c.args.fresh c.requires.empty).links)
