use Rattle.std.proofs.Common.{◌≡◌, ℕ, ◌+◌, ◌∷◌, ◌++◌, List, [], drop, drop-cons, add-one, option_map, slice_index_or, map, reverse, sym, ap}
use Rattle.std.proofs.Common.{◌∙◌, append-nil}
use Rattle.std.proofs.lemmas.List.{drop_all, reverse-reverse}
use Rattle.std.specs.List.{cons_option}
use Rattle.semantics.specs.Entries.{entry_at, missing, stamped_in, stamped_entries}
use Rattle.semantics.specs.Stamped.{Stamped}
use Rattle.oplog.specs.operation.Ops.{stamped_of}
use Rattle.oplog.proofs.Missing.{positions-read}
use Rattle.document.proofs.MissingOps.{found, found_all, found_next}
use Rattle.document.proofs.answer.missing.Goals as goal

pub loop-position-preserved : goal.loop-position-preserved
loop-position-preserved c =
    let G = c.args.log.now.entries in
    let positions = c.deref-position-items.result.now in
    let n : ℕ = c.loop-position.position-index in
    let x : ℕ = slice_index_or positions n 0 in
    let next : drop n positions ≡ x ∷ drop (n + 1) positions = drop-cons positions n 0 c.loop-position-test.true
    ∙ (λ i. x ∷ drop (sym (add-one n) i) positions) in
    let op : map stamped_of c.push_op.new.ops.items
    ≡ map stamped_of c.loop-position.ops.items
    ++ cons_option (option_map stamped_in (entry_at x G)) [] = c.in_ok-push_op.ensures.op in
    record {
      found =
          ap (λ (ss : List Stamped). ss ++ found G (drop (n + 1) positions)) op
          ∙ found_next G x (drop (n + 1) positions) (map stamped_of c.loop-position.ops.items)
          ∙ ap (λ ns. map stamped_of c.loop-position.ops.items ++ found G ns) (sym next)
          ∙ c.loop-position.invariant.found;
      named = c.in_ok-push_op.ensures.named c.loop-position.invariant.named;
    }

pub returns-clause-ok : goal.returns-clause-ok
returns-clause-ok c =
    let G = c.args.log.now.entries in
    let v = c.args.vector.now in
    let ops : List Stamped = map stamped_of c.loop-position.ops.items in
    let positions = c.deref-position-items.result.now in
    let all : found G positions ≡ reverse (missing v (stamped_entries G)) =
    ap (found G) (c.deref-position-items.ensures.value ∙ c.in_ok-positions.ensures) ∙ found_all G _ _ (positions-read v G) in
    ap reverse
    (sym (append-nil ops)
    ∙ ap (λ ns. ops ++ found G ns) (sym (drop_all c.loop-position.position-index positions c.loop-position-test.false))
    ∙ c.loop-position.invariant.found ∙ all)
    ∙ reverse-reverse (missing v (stamped_entries G))
