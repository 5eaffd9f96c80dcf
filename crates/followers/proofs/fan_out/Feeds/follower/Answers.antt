use Rattle.std.proofs.Common.{subst, sym}
use Rattle.followers.specs.Feeds.{AreFed}
use Rattle.followers.proofs.Sending.{added}
use Rattle.followers.proofs.fan_out.Feeds.follower.Goals as goal

pub returns-clause-fed : goal.returns-clause-fed
returns-clause-fed c G fed =
    subst (AreFed G) (sym c.in_ok-push.ensures.items)
    (added c.args.self.now.feeds.items c.in_ok-feed.feed G fed c.in_ok-feed.ensures.fed)
