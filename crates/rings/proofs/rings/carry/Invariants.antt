use Rattle.std.proofs.Common.{◌≡◌, ◌<◌, ◌*◌, length}
use Rattle.std.specs.List.{All, insert}
use Rattle.rings.specs.Rings.{straight}
use Rattle.rings.proofs.rings.carry.Given as goal

abbrev pub invariant-loop-ring : goal.invariant-loop-ring
invariant-loop-ring g l = (insert (straight 2048 l.starts l.slots) (l.ring * 2048) l.carried
    ≡ insert (straight 2048 l.fn.starts l.fn.slots) l.fn.position l.fn.value)
    × (length l.slots ≡ length l.fn.slots) × All (λ s. s < 2048) l.starts × (length l.starts ≡ length l.fn.starts)
