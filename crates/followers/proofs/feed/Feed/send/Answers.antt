use Rattle.std.proofs.Common.{◌≡◌, subst, List, [], arith}
use Rattle.std.proofs.lemmas.Grind.{common_steps}
use Rattle.semantics.specs.Entries.{Entry as TheEntry}
use Rattle.document.specs.operation.declared.command.Entry.{Entry}
use Rattle.rtrb.specs.Ring.{sent}
use Rattle.followers.specs.Feeds.{IsFedFrom}
use Rattle.followers.proofs.Sending.{grown, pushed}
use Rattle.followers.proofs.feed.Feed.send.Goals as goal

pub returns-in_err-look_ahead-clause-fed : goal.returns-in_err-look_ahead-clause-fed
returns-in_err-look_ahead-clause-fed c G begins fed =
    let o = c.args.self.now in
    let p = c.push.new.self in
    let H : List TheEntry = c.args.document.now.entries in
    let none : p.ahead.items ≡ [] = grind (arith, common_steps) in
    let first : IsFedFrom H p.next p.ahead.items (sent p.to) =
    pushed o.next p.next o.ahead.items p.ahead.items (sent o.to) (sent p.to) H c.push.ensures.same c.push.ensures.next
    (grown o.next o.ahead.items (sent o.to) G H begins fed) in
    c.look_ahead.ensures.fed (subst (λ (l : List Entry). IsFedFrom H p.next l (sent p.to)) none first)

pub returns-in_ok-look_ahead-clause-fed : goal.returns-in_ok-look_ahead-clause-fed
returns-in_ok-look_ahead-clause-fed c G begins fed =
    let o = c.args.self.now in
    let p = c.push.new.self in
    let a = c.look_ahead.new.self in
    let q = c.push-then-is_empty.new.self in
    let H : List TheEntry = c.args.document.now.entries in
    let none : p.ahead.items ≡ [] = grind (arith, common_steps) in
    let first : IsFedFrom H p.next p.ahead.items (sent p.to) =
    pushed o.next p.next o.ahead.items p.ahead.items (sent o.to) (sent p.to) H c.push.ensures.same c.push.ensures.next
    (grown o.next o.ahead.items (sent o.to) G H begins fed) in
    pushed a.next q.next a.ahead.items q.ahead.items (sent a.to) (sent q.to) H
    c.push-then-is_empty.ensures.same c.push-then-is_empty.ensures.next
    (c.look_ahead.ensures.fed (subst (λ (l : List Entry). IsFedFrom H p.next l (sent p.to)) none first))

pub returns-else-is_empty-clause-fed : goal.returns-else-is_empty-clause-fed
returns-else-is_empty-clause-fed c G begins fed =
    let o = c.args.self.now in
    let p = c.push.new.self in
    let H : List TheEntry = c.args.document.now.entries in
    pushed o.next p.next o.ahead.items p.ahead.items (sent o.to) (sent p.to) H c.push.ensures.same c.push.ensures.next
    (grown o.next o.ahead.items (sent o.to) G H begins fed)
