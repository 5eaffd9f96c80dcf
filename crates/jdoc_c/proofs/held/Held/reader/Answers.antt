use Rattle.std.proofs.Common.{◌∙◌, ap}
use Rattle.followers.specs.declared.follower.Follower.{Follower}
use Rattle.jdoc_c.proofs.held.Held.reader.Goals as goal

pub returns-in_ok-follower-in-Writes-clause-reader : goal.returns-in_ok-follower-in-Writes-clause-reader
returns-in_ok-follower-in-Writes-clause-reader c = (
  c.of_role.ensures.1,
  (
    c.new.result,
    c.of_role.ensures.0,
    ap (λ (f : Follower). f.document.entries) c.new.ensures ∙ c.in_ok-follower-in-Writes.ensures.empty,
  ),
)
