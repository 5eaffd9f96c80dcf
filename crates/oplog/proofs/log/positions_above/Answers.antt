use Rattle.std.proofs.Common.{rules, ◌≡◌, ◌<◌, ◌+◌, ◌++◌, ◌∙◌, suc, sym, ap, length, get_or, drop, map, arith}
use Rattle.std.proofs.Math.Seq.{drop-length}
use Rattle.std.proofs.lemmas.List.{append-nil, append_assoc, get_or-map, length-map}
use Rattle.std.proofs.lemmas.Option.{get_or_from_slice_get, none-some, slice_get-get_or}
use Rattle.semantics.specs.Vectors.{at}
use Rattle.oplog.specs.Logs.{numbers_above, numbers_of}
use Rattle.oplog.proofs.Missing.{above, next-above}
use Rattle.oplog.proofs.log.positions_above.Goals as goal

pub loop-index-init : goal.loop-index-init
loop-index-init c = search rules

pub unreachable-requires : goal.unreachable-requires
unreachable-requires c =
    let inside : c.loop-index.index < length c.args.table.now.numbers = omega (arith, c.requires) in
    none-some (get_or c.args.table.now.numbers c.loop-index.index 0)
    (sym c.in_default.is ∙ c.at.ensures ∙ slice_get-get_or c.args.table.now.numbers c.loop-index.index 0 inside)

pub loop-index-preserved : goal.loop-index-preserved
loop-index-preserved c =
    let i = c.loop-index.index in
    let v = c.args.vector.now in
    let table = c.args.table.now.numbers in
    let cs = map (at v) table in
    let wide : length cs ≡ length c.args.positions.now = length-map table (at v) ∙ sym c.requires in
    let inside : i < length table = omega (arith, c.requires) in
    let counter : c.counter_near-counter.result ≡ get_or cs i 0 =
    c.counter_near-counter.ensures
    ∙ (λ t. at (c.ids.ensures.ids t) (sym (get_or_from_slice_get table i c.in-Some.replica 0 (sym c.at.ensures ∙ c.in-Some.is)) t))
    ∙ sym (get_or-map (at v) table i 0 0 inside) in
    let ns = c.args.positions.now in
    let m = c.index-positions-index.result in
    let before = c.loop-index.above.items in
    let rest = numbers_above (drop (suc i) cs) (numbers_of (drop (suc i) ns)) in
    let next : i + 1 ≡ suc i = omega arith in
    let new : c.push_numbers.new.numbers.items ≡ before ++ above (get_or cs i 0) (get_or ns i m).entries =
    c.in_ok-push_numbers.ensures ∙ (λ t. before ++ above (counter t) (c.index-positions-index.is t).entries) in
    (λ t. new t ++ numbers_above (drop (next t) cs) (numbers_of (drop (next t) ns)))
    ∙ append_assoc before (above (get_or cs i 0) (get_or ns i m).entries) rest
    ∙ ap (λ l. before ++ l) (sym (next-above cs ns i m wide (omega arith)))
    ∙ c.loop-index.invariant

pub returns : goal.returns
returns c =
    let ns = c.args.positions.now in
    let last : c.loop-index.index ≡ length ns = omega arith in
    sym (append-nil c.loop-index.above.items)
    ∙ ap
    (λ l. c.loop-index.above.items
    ++ numbers_above (drop c.loop-index.index (map (at c.args.vector.now) c.args.table.now.numbers)) (numbers_of l))
    (sym (ap (λ i. drop i ns) last ∙ drop-length ns))
    ∙ c.loop-index.invariant
