-- What is left decides.
use Rattle.std.proofs.Common.{◌≡◌, drop}
use Rattle.ids.specs.Members.{is_member}
use Rattle.columns.specs.NumberColumns.{numbering}
use Rattle.columns.proofs.homes.search.Given as goal

abbrev pub invariant-loop-place : goal.invariant-loop-place
invariant-loop-place l = is_member (drop l.place (numbering l.columns)) l.replica ≡ is_member (numbering l.columns) l.replica
