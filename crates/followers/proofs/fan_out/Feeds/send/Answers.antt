use Rattle.std.proofs.Common.{◌∙◌, List, subst, sym}
use Rattle.std.proofs.lemmas.List.{with_items_is}
use Rattle.semantics.specs.Entries.{Entry as TheEntry}
use Rattle.followers.specs.Feeds.{AreFed}
use Rattle.followers.proofs.Sending.{all_grown}
use Rattle.followers.proofs.fan_out.Feeds.send.Goals as goal

pub returns : goal.returns
returns c G begins fed =
    let H : List TheEntry = c.args.document.now.entries in
    let left = c.let_abandoned_go.new.feeds in
    subst (AreFed H) (sym (with_items_is left c.send_all.new.feeds (c.send_all.auto.feeds ∙ c.deref_mut.ensures.len)))
    (c.send_all.ensures
    (subst (AreFed H) (sym c.deref_mut.ensures.value) (all_grown left.items G H begins (c.let_abandoned_go.ensures G fed))))
