use Rattle.world.proofs.Publishing.{added}
use Rattle.world.proofs.publisher.PublisherPublish.add.Goals as goal

pub invariant_of-self-2 : goal.invariant_of-self-2
invariant_of-self-2 c =
    let p = c.self.inside in
    added p.own p.published p.pending.items c.args.entry c.self.invariant c.args.self.now c.self.view_is c.requires.lawful
    c.requires.fits
    c.push_back.new.self.items c.in_ok-push_back.ensures.items
