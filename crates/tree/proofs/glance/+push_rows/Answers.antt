use Rattle.std.proofs.Common.{◌≡◌, ◌<◌, ◌-◌, ◌+◌, ◌++◌, ◌∷◌, ℕ, List, Some, drop, length, map, option_map, take, sym, ap, ◌∙◌, arith, rules}
use Rattle.std.proofs.Common.{append_assoc, length-append}
use Rattle.std.specs.Vec.Iter.{into_iter_items}
use Rattle.std.proofs.lemmas.List.{length-map}
use Rattle.semantics.specs.Elements.{Element}
use Rattle.semantics.specs.Paths.{Hop as TheHop, child}
use Rattle.semantics.specs.Glances.{Row, hops_below, rows_of, shown_by}
use Rattle.operation.specs.cursor.declared.hop.Hop.{Hop}
use Rattle.operation.specs.cursor.Steps.{hop_of}
use Rattle.tree.specs.Nodes.{context, number}
use Rattle.tree.specs.Glances.{row_of}
use Rattle.tree.proofs.FilledRows.{cut_there, number_child, rows_below, some_rows, went_on}
use Rattle.tree.proofs.FirstHops.{all_hops, hop_done, own_row}
use Rattle.tree.proofs.glance.+push_rows.Goals as goal

pub loop-hop-init : goal.loop-hop-init
loop-hop-init t c =
    let S = shown_by (context c.args.nodes.now) in
    let bound = c.args.bounds.depth in
    let depth = c.args.depth in
    let old = c.args.rows.now.items in
    let n = c.args.bounds.elements - length old in
    let lt : depth < bound = omega arith in
    let stood : c.len-2.result ≡ length old = (let all = c.len-2.ensures in omega (arith, all)) in
    record {
      whole = search rules;
      room = let n = c.in_ok-push_row-2.ensures.count in omega (arith, n);
      above = lt;
      left = λ e at.
          let hops : map hop_of (into_iter_items c.into_iter-hop-iterator.result) ≡ take n (hops_below S e)
          = ap (λ (hs : List Hop). map hop_of hs) c.into_iter-hop-iterator.ensures.into_iter_gives.0 ∙ c.in_ok-hops.ensures e at
          ∙ ap (λ k. take (c.args.bounds.elements - k) (hops_below S e)) stood in
          (λ i. c.in_ok-push_row-2.ensures.row e at i
          ++ (rows_below S bound depth e (hops i) ++ rows_below S bound depth e (drop n (hops_below S e))))
          ∙ own_row S bound depth n (option_map hop_of c.args.entered) e (map row_of old) lt;
      all = λ e at room.
          let hops : map hop_of (into_iter_items c.into_iter-hop-iterator.result) ≡ take n (hops_below S e)
          = ap (λ (hs : List Hop). map hop_of hs) c.into_iter-hop-iterator.ensures.into_iter_gives.0 ∙ c.in_ok-hops.ensures e at
          ∙ ap (λ k. take (c.args.bounds.elements - k) (hops_below S e)) stood in
          let long : length (into_iter_items c.into_iter-hop-iterator.result) ≡ length (take n (hops_below S e))
          = sym (length-map (into_iter_items c.into_iter-hop-iterator.result) hop_of) ∙ ap (λ (hs : List TheHop). length hs) hops in
          let one = c.in_ok-push_row-2.ensures.count in
          all_hops n (hops_below S e) (omega (arith, long, one, room));
    }

pub returns-then-is_full-clause-filled : goal.returns-then-is_full-clause-filled
returns-then-is_full-clause-filled t c = λ e at.
    let ns = c.args.nodes.now in
    let S = shown_by (context ns) in
    let bound = c.args.bounds.depth in
    let depth = c.args.depth in
    let h = hop_of c.in-Some.hop in
    let there : number ns (child e h) ≡ c.next_of-child.result = number_child ns e h c.args.node at ∙ sym c.next_of-child.ensures in
    let cur = map row_of c.loop-hop.rows.items in
    let part = rows_of S (bound - (depth + 1)) (depth + 1) (Some h) (child e h) in
    let rest = rows_below S bound depth e (map hop_of (into_iter_items c.next.new.self)) in
    let later = rows_below S bound depth e (drop (c.args.bounds.elements - length c.args.rows.now.items) (hops_below S e)) in
    let steps : into_iter_items c.loop-hop.hop-iterator ≡ c.in-Some.hop ∷ into_iter_items c.next.new.self = c.in-Some.ensures.steps.0 in
    cut_there c.args.bounds.elements (map row_of c.args.rows.now.items)
    (rows_of S (bound - depth) depth (option_map hop_of c.args.entered) e) cur part (rest ++ later) (map row_of c.push_rows.new.rows.items)
    c.in_ok-is_full.is_full (c.in_ok-is_full.ensures.filled (child e h) there) c.if-is_full.true
    (ap (λ (rs : List Row). cur ++ rs) (sym (append_assoc part rest later))
    ∙ ap (λ (hs : List Hop). cur ++ (rows_below S bound depth e (map hop_of hs) ++ later)) (sym steps)
    ∙ c.loop-hop.invariant.left e at)

-- the rows of the hop stand behind those so far
done : (t : ℕ) (c : goal.Else-is_full t) (e : Element) → number c.args.nodes.now e ≡ c.args.node
    → map row_of c.push_rows.new.rows.items
    ≡ map row_of c.loop-hop.rows.items
    ++ rows_of (shown_by (context c.args.nodes.now)) (c.args.bounds.depth - (c.args.depth + 1)) (c.args.depth + 1)
    (Some (hop_of c.in-Some.hop)) (child e (hop_of c.in-Some.hop))
done t c e at =
    let ns = c.args.nodes.now in
    let h = hop_of c.in-Some.hop in
    let there : number ns (child e h) ≡ c.next_of-child.result = number_child ns e h c.args.node at ∙ sym c.next_of-child.ensures in
    went_on c.args.bounds.elements (map row_of c.loop-hop.rows.items)
    (rows_of (shown_by (context ns)) (c.args.bounds.depth - (c.args.depth + 1)) (c.args.depth + 1) (Some h) (child e h))
    (map row_of c.push_rows.new.rows.items) c.in_ok-is_full.is_full (c.in_ok-is_full.ensures.filled (child e h) there) c.if-is_full.false

pub loop-hop-preserved : goal.loop-hop-preserved
loop-hop-preserved t c = record {
  whole = search rules;
  room = c.in_ok-is_full.ensures.room;
  above = c.loop-hop.invariant.above;
  left = λ e at.
      let S = shown_by (context c.args.nodes.now) in
      let bound = c.args.bounds.depth in
      let depth = c.args.depth in
      let h = hop_of c.in-Some.hop in
      let cur = map row_of c.loop-hop.rows.items in
      let rest = rows_below S bound depth e (map hop_of (into_iter_items c.next.new.self)) in
      let later = rows_below S bound depth e (drop (c.args.bounds.elements - length c.args.rows.now.items) (hops_below S e)) in
      let steps : into_iter_items c.loop-hop.hop-iterator ≡ c.in-Some.hop ∷ into_iter_items c.next.new.self = c.in-Some.ensures.steps.0 in
      hop_done cur (rows_of S (bound - (depth + 1)) (depth + 1) (Some h) (child e h)) rest later (map row_of c.push_rows.new.rows.items)
      (done t c e at)
      ∙ ap (λ (hs : List Hop). cur ++ (rows_below S bound depth e (map hop_of hs) ++ later)) (sym steps)
      ∙ c.loop-hop.invariant.left e at;
  all = λ e at room.
      let h = hop_of c.in-Some.hop in
      let depth = c.args.depth in
      let part = rows_of (shown_by (context c.args.nodes.now)) (c.args.bounds.depth - (depth + 1)) (depth + 1) (Some h) (child e h) in
      let some = some_rows (shown_by (context c.args.nodes.now)) (c.args.bounds.depth - (depth + 1)) (depth + 1) (Some h) (child e h) in
      let old = length-map c.loop-hop.rows.items row_of in
      let new = length-map c.push_rows.new.rows.items row_of in
      let longer = ap (λ (rs : List Row). length rs) (done t c e at) in
      let both = length-append (map row_of c.loop-hop.rows.items) part in
      let fewer = ap (λ (hs : List Hop). length hs) c.in-Some.ensures.steps.0 in
      c.loop-hop.invariant.all e at (omega (arith, some, old, new, longer, both, fewer, room));
}
