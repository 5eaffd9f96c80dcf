-- At each hop there is room for a presence and a child below; what was reserved before stays.
use Rattle.std.proofs.Common.{◌≡◌, ◌<◌, length, map, take, Some, inl, inr, sym, ap, ◌∙◌, subst, arith}
use Rattle.std.proofs.lemmas.Bool.{cases_lt}
use Rattle.std.proofs.lemmas.List.{length-map, take_all}
use Rattle.operation.specs.cursor.Steps.{hop_of}
use Rattle.tree.specs.Nodes.{node_at, number, presence_room}
use Rattle.tree.specs.Writes.{end_of}
use Rattle.tree.proofs.Shape.{number_inside}
use Rattle.tree.proofs.Hops.{number_more}
use Rattle.tree.proofs.Grown.{grows_trans, kept_trans, number_grows, presence_kept, room_here}
use Rattle.tree.proofs.reserve.reserve_path.Goals as goal

pub reserve_presence-requires-clause-inside : goal.reserve_presence-requires-clause-inside
reserve_presence-requires-clause-inside c = number_inside c.loop-hop.nodes.items c.loop-hop.invariant.kept.tree
    (end_of (take c.loop-hop.hop-index (map hop_of c.args.path.now))) c.loop-hop.at c.loop-hop.invariant.here

pub returns-in_err-reserve_presence-clause-kept : goal.returns-in_err-reserve_presence-clause-kept
returns-in_err-reserve_presence-clause-kept c = kept_trans c.loop-hop.invariant.kept c.reserve_presence.ensures.kept

pub reach-requires-clause-inside : goal.reach-requires-clause-inside
reach-requires-clause-inside c =
    let inside = number_inside c.loop-hop.nodes.items c.loop-hop.invariant.kept.tree
    (end_of (take c.loop-hop.hop-index (map hop_of c.args.path.now))) c.loop-hop.at c.loop-hop.invariant.here in
    let more = c.reserve_presence.ensures.kept.grows.count in
    omega arith

pub returns-in_err-at-clause-kept : goal.returns-in_err-at-clause-kept
returns-in_err-at-clause-kept c = kept_trans c.loop-hop.invariant.kept
    (kept_trans c.reserve_presence.ensures.kept c.reach.ensures.kept)

pub loop-hop-preserved : goal.loop-hop-preserved
loop-hop-preserved c =
    let now = c.loop-hop.nodes.items in
    let mid = c.reserve_presence.new.nodes.items in
    let new = c.reach.new.nodes.items in
    let k = c.loop-hop.hop-index in
    let path = map hop_of c.args.path.now in
    let e = end_of (take k path) in
    let inv = c.loop-hop.invariant in
    let one = c.reserve_presence.ensures.kept in
    let two = c.reach.ensures.kept in
    let grows = grows_trans one.grows two.grows in
    let here : number new e ≡ Some c.loop-hop.at = number_grows now new grows e c.loop-hop.at inv.here in
    record {
      kept = kept_trans inv.kept (kept_trans one two);
      here = number_more c.args.path.now k c.hop-item.result c.loop-hop-test.true c.hop-item.is new c.loop-hop.at here
          ∙ c.in_ok-at.ensures.child;
      room = λ j lt. elim (cases_lt j k) [
        | inl l ↦ presence_kept now new grows (end_of (take j path)) (inv.room j l)
        | inr g ↦
            let same : k ≡ j = omega arith in
            let got = c.in_ok-reserve_presence.ensures.room in
            let kept = two.grows.presence c.loop-hop.at in
            subst (λ i. 0 < presence_room (node_at new (end_of (take i path)))) same
            (room_here presence_room new e c.loop-hop.at here (omega arith))
      ];
    }

pub reserve_presence-requires-2-clause-inside : goal.reserve_presence-requires-2-clause-inside
reserve_presence-requires-2-clause-inside c = number_inside c.loop-hop.nodes.items c.loop-hop.invariant.kept.tree
    (end_of (take c.loop-hop.hop-index (map hop_of c.args.path.now))) c.loop-hop.at c.loop-hop.invariant.here

pub returns-in_err-reserve_presence-2-clause-kept : goal.returns-in_err-reserve_presence-2-clause-kept
returns-in_err-reserve_presence-2-clause-kept c = kept_trans c.loop-hop.invariant.kept c.reserve_presence-2.ensures.kept

pub returns-clause-kept : goal.returns-clause-kept
returns-clause-kept c = kept_trans c.loop-hop.invariant.kept c.reserve_presence-2.ensures.kept

pub returns-clause-room : goal.returns-clause-room
returns-clause-room c =
    let now = c.loop-hop.nodes.items in
    let new = c.reserve_presence-2.new.nodes.items in
    let k = c.loop-hop.hop-index in
    let path = map hop_of c.args.path.now in
    let inv = c.loop-hop.invariant in
    let grows = c.reserve_presence-2.ensures.kept.grows in
    let long : length path ≡ length c.args.path.now = length-map c.args.path.now hop_of in
    let end = c.loop-hop-test.false in
    let all : take k path ≡ path = take_all k path (omega arith) in
    let here : number new (end_of (take k path))
    ≡ Some c.loop-hop.at = number_grows now new grows (end_of (take k path)) c.loop-hop.at inv.here in (
      λ j le. elim (cases_lt j k) [
        | inl l ↦ presence_kept now new grows (end_of (take j path)) (inv.room j l)
        | inr g ↦
            let same : end_of (take k path) ≡ end_of (take j path) = ap end_of (all ∙ sym (take_all j path (omega arith))) in
            subst (λ e. 0 < presence_room (node_at new e)) same
            (room_here presence_room new (end_of (take k path)) c.loop-hop.at here c.in_ok-reserve_presence-2.ensures.room)
      ],
      ap (λ xs. number new (end_of xs)) (sym all) ∙ here,
    )
