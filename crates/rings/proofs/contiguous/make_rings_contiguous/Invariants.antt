use Rattle.std.proofs.Common.{◌≡◌, ◌<◌, ℕ, length, get_or}
use Rattle.std.specs.List.{All}
use Rattle.rings.specs.Rings.{straight}
use Rattle.rings.proofs.contiguous.make_rings_contiguous.Given as goal

abbrev pub invariant-loop-ring : goal.invariant-loop-ring
invariant-loop-ring g l =
    (straight 2048 l.starts l.slots ≡ straight 2048 l.fn.starts l.fn.slots)
    × ((i d : ℕ) → i < l.ring → get_or l.starts i d ≡ 0)
    × All (λ s. s < 2048) l.starts
    × (length l.starts ≡ length l.fn.starts)
    × (length l.slots ≡ length l.fn.slots)
