use Rattle.std.proofs.Common.{◌∷◌, sym}
use Rattle.world.specs.Publishers.{PublishesMore}
use Rattle.world.proofs.Publishing.{none_published, oldest_fits, oldest_follows, one_published, published_on}
use Rattle.world.proofs.publisher.publish_oldest.Goals as goal

pub commit-requires-clause-lawful : goal.commit-requires-clause-lawful
commit-requires-clause-lawful c =
    let d = c.reserve.new.self in
    let e = c.in-Some-pop_front.entry in
    let left = c.pop_front.new.self.items in
    let same : PublishesMore c.args.published.now c.args.pending.now.items d (e ∷ left) =
    none_published c.args.published.now d c.args.pending.now.items (e ∷ left) c.requires c.reserve.ensures.members c.reserve.ensures.entries
    (sym c.in-Some-pop_front.ensures.items) in
    oldest_follows d e left same.publisher

pub commit-requires-clause-fits : goal.commit-requires-clause-fits
commit-requires-clause-fits c =
    let d = c.reserve.new.self in
    let e = c.in-Some-pop_front.entry in
    let left = c.pop_front.new.self.items in
    let same : PublishesMore c.args.published.now c.args.pending.now.items d (e ∷ left) =
    none_published c.args.published.now d c.args.pending.now.items (e ∷ left) c.requires c.reserve.ensures.members c.reserve.ensures.entries
    (sym c.in-Some-pop_front.ensures.items) in
    oldest_fits d e left same.publisher

pub returns-clause-more : goal.returns-clause-more
returns-clause-more c =
    let d = c.reserve.new.self in
    let e = c.in-Some-pop_front.entry in
    let left = c.pop_front.new.self.items in
    let same : PublishesMore c.args.published.now c.args.pending.now.items d (e ∷ left) =
    none_published c.args.published.now d c.args.pending.now.items (e ∷ left) c.requires c.reserve.ensures.members c.reserve.ensures.entries
    (sym c.in-Some-pop_front.ensures.items) in
    published_on c.args.published.now d c.commit.new.self c.args.pending.now.items (e ∷ left) left same
    (one_published d e left same.publisher c.commit.new.self c.commit.ensures.members c.commit.ensures.entries)
