use Rattle.std.proofs.Common.{sym, subst, ℕ, List, reverse}
use Rattle.semantics.specs.Entries.{Entry as TheEntry}
use Rattle.document.specs.operation.declared.command.Entry.{Entry}
use Rattle.rtrb.specs.Ring.{sent}
use Rattle.followers.specs.Feeds.{IsFedFrom}
use Rattle.followers.proofs.Sending.{ahead_of}
use Rattle.followers.proofs.feed.Feed.look_ahead.Goals as goal

pub returns-clause-fed : goal.returns-clause-fed
returns-clause-fed c fed =
    let G : List TheEntry = c.args.document.now.entries in
    let s : List Entry = sent c.args.self.now.to in
    let turned : List Entry = reverse c.in_ok-ahead.ahead.items in
    let after : IsFedFrom G c.len-self.result turned s =
    subst (λ (m : ℕ). IsFedFrom G m turned s) (sym c.len-self.ensures)
    (ahead_of c.args.self.now.next c.in_ok-ahead.ahead.items G s c.in_ok-ahead.ensures fed) in
    subst (λ (l : List Entry). IsFedFrom G c.len-self.result l s) (sym c.reverse.ensures.items) after
