use Rattle.std.proofs.Common.{◌∙◌, sym, subst, List}
use Rattle.document.specs.operation.declared.command.Entry.{Entry}
use Rattle.rtrb.specs.Ring.{known_items, received, sent}
use Rattle.followers.specs.Feeds.{IsFollowing}
use Rattle.followers.proofs.Sending.{begins_fed}
use Rattle.followers.proofs.follower_shows_a_beginning.Goals as goal

pub returns : goal.returns
returns c G fed =
    let feed = c.args.feed.now in
    let follower = c.args.follower.now in
    let from = c.slots_beside.new.self in
    let taken = follower.document.entries in
    begins_fed feed.next feed.ahead.items (sent feed.to) (received from) (known_items from) follower.kept taken G
    (c.slots_beside.ensures.fifo ∙ c.slots_beside.ensures.producer.1)
    (subst (λ (came : List Entry). IsFollowing taken follower.kept came) (sym c.slots_beside.ensures.looked.1) c.requires.follows)
    fed
