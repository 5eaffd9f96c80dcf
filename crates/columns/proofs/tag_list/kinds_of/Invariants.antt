-- What stood so far, and what is left, decide.
use Rattle.std.proofs.Common.{◌≡◌, ◌||◌, drop}
use Rattle.semantics.specs.Elements.{Tag as TheTag}
use Rattle.columns.specs.Kinds.{has_kind, stands_as}
use Rattle.columns.proofs.tag_list.kinds_of.Given as goal

abbrev pub invariant-loop-position : goal.invariant-loop-position
invariant-loop-position l = (t : TheTag) → (has_kind l.kinds t || stands_as t (drop l.position l.entries.entries))
    ≡ stands_as t l.entries.entries
