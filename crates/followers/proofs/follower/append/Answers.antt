use Rattle.std.proofs.Common.{◌≡◌, false, sym, ◌∙◌, subst}
use Rattle.ids.specs.Tables.{lacks_room}
use Rattle.semantics.specs.Joining.{table_after}
use Rattle.semantics.specs.Stamped.{Stamped}
use Rattle.document.proofs.operation.StandingAlone.{stamped_same}
use Rattle.document.specs.operation.Ops.{op_in}
use Rattle.followers.proofs.follower.append.Goals as goal

pub commit-requires-clause-fits : goal.commit-requires-clause-fits
commit-requires-clause-fits c =
    let e = c.args.entry in
    let p = (op_in e).id.replica in
    let fits : lacks_room (table_after c.reserve.new.self.members c.reserve.new.self.entries) p ≡ false =
    (λ i. lacks_room (table_after (c.reserve.ensures.members i) (c.reserve.ensures.entries i)) p) ∙ c.requires.fits in
    subst (λ (s : Stamped). lacks_room (table_after c.reserve.new.self.members c.reserve.new.self.entries) s.id.replica ≡ false)
    (sym (stamped_same e)) fits
