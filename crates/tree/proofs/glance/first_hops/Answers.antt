use Rattle.std.proofs.Common.{◌≡◌, ◌-◌, ◌++◌, ◌∙◌, List, length, map, take, ap, sym, arith, length-append}
use Rattle.std.proofs.lemmas.List.{length-map}
use Rattle.semantics.specs.Elements.{Name}
use Rattle.semantics.specs.Paths.{FieldHop, Hop as TheHop, ItemHop}
use Rattle.semantics.specs.Glances.{shown_by}
use Rattle.operation.specs.cursor.Steps.{hop_of}
use Rattle.operation.specs.cursor.declared.hop.Hop.{Hop}
use Rattle.tree.specs.Nodes.{context}
use Rattle.tree.proofs.FirstHops.{first_below}
use Rattle.tree.proofs.glance.first_hops.Goals as goal

pub overflow_sub-left : goal.overflow_sub-left
overflow_sub-left c =
    let keys = ap (λ (hs : List TheHop). length hs) c.in_ok-push_fields.ensures in
    let few = c.in_ok-first_keys.ensures.few in
    let all = c.len.ensures in
    let none = ap (λ (hs : List Hop). length hs) c.new-hops.ensures.items in
    let hops = length-map c.push_fields.new.hops.items hop_of in
    let old = length-map c.new-hops.result.items hop_of in
    let fields = length-map c.in_ok-first_keys.field-0.items FieldHop in
    let both = length-append (map hop_of c.new-hops.result.items) (map FieldHop c.in_ok-first_keys.field-0.items) in
    omega (arith, keys, few, all, none, hops, old, fields, both)

pub returns : goal.returns
returns c = λ e at.
    let S = shown_by (context c.args.nodes.now) in
    let n = c.args.count in
    let names = c.in_ok-first_keys.field-0.items in
    let first = c.in_ok-first_keys.ensures.first e at in
    let behind : map hop_of c.push_fields.new.hops.items ≡ map FieldHop names =
    c.in_ok-push_fields.ensures ∙ ap (λ (hs : List Hop). map hop_of hs ++ map FieldHop names) c.new-hops.ensures.items in
    let long : length c.push_fields.new.hops.items ≡ length (take n (S.names e)) =
    sym (length-map c.push_fields.new.hops.items hop_of) ∙ ap (λ (hs : List TheHop). length hs) behind ∙ length-map names FieldHop
    ∙ ap (λ (ks : List Name). length ks) first in
    let all = c.len.ensures in
    c.in_ok-push_items.ensures
    ∙ (λ i. behind i ++ map ItemHop (c.in_ok-first_items.ensures e at i))
    ∙ ap (λ (ks : List Name). map FieldHop ks ++ map ItemHop (take (n - c.len.result) (S.items e))) first
    ∙ first_below S e n (n - c.len.result) (omega (arith, all, long))
