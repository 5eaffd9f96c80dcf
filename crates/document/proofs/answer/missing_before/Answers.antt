use Rattle.std.proofs.Common.{◌≡◌, ℕ, ◌+◌, ◌∷◌, ◌++◌, List, [], drop, drop-cons, add-one, option_map, slice_index_or, map, nat_lt, cond}
use Rattle.std.proofs.Common.{Bool, true, false, sym, ap, subst, Vec, Global}
use Rattle.std.proofs.Common.{◌∙◌, append-nil}
use Rattle.std.proofs.lemmas.Bool.{le-ltb, lt-ltb}
use Rattle.std.proofs.lemmas.List.{drop_all}
use Rattle.std.specs.List.{All}
use Rattle.ids.specs.Vectors.{IsNamed}
use Rattle.semantics.specs.Entries.{Entry}
use Rattle.semantics.specs.Stamped.{Stamped}
use Rattle.oplog.specs.operation.declared.op.Op.{Op}
use Rattle.oplog.specs.operation.Ops.{stamped_of}
use Rattle.document.proofs.MissingBefore.{before, found_before}
use Rattle.document.proofs.MissingOps.{found, found_next}
use Rattle.document.proofs.answer.missing_before.Goals.{then-missing-position+in_ok-push_op, else-missing-position}
use Rattle.document.proofs.answer.missing_before.Goals as goal

-- what is before a position, with one position in front
kept : (n x : ℕ) (rest ps : List ℕ) (t : Bool) → nat_lt x n ≡ t → ps ≡ x ∷ rest → before n ps ≡ cond t (x ∷ before n rest) (before n rest)
kept n x rest ps t test next = ap (before n) next ∙ ap (λ b. cond b (x ∷ before n rest) (before n rest)) test

pub loop-missing-preserved : goal.loop-missing-preserved
loop-missing-preserved c =
    let G : List Entry = c.args.log.now.entries in
    let n : ℕ = c.args.position in
    let positions : List ℕ = c.deref-missing-items.result.now in
    let i : ℕ = c.loop-missing.missing-index in
    let x : ℕ = slice_index_or positions i 0 in
    let rest : List ℕ = drop (i + 1) positions in
    let ops : List Stamped = map stamped_of c.loop-missing.ops.items in
    let next : drop i positions ≡ x ∷ rest = drop-cons positions i 0 c.loop-missing-test.true
    ∙ (λ j. x ∷ drop (sym (add-one i) j) positions) in
    elim c.if-missing-position.branch [
      | then-missing-position+in_ok-push_op w ↦ record {
        found =
            ap (λ (o : Vec Op Global). map stamped_of o.items ++ found G (before n rest)) w.ops-is
            ∙ ap (λ (ss : List Stamped). ss ++ found G (before n rest)) w.in_ok-push_op.ensures.op
            ∙ found_next G x (before n rest) ops
            ∙ ap (λ (ps : List ℕ). ops ++ found G ps)
            (sym (kept n x rest (drop i positions) true (lt-ltb x n w.if-missing-position.true) next))
            ∙ c.loop-missing.invariant.found;
        named = subst (λ (o : Vec Op Global). All (λ (p : Op). IsNamed p.deps) o.items) (sym w.ops-is)
            (w.in_ok-push_op.ensures.named c.loop-missing.invariant.named);
      }
      | else-missing-position w ↦ record {
        found =
            ap (λ (o : Vec Op Global). map stamped_of o.items ++ found G (before n rest)) w.ops-is
            ∙ ap (λ (ps : List ℕ). ops ++ found G ps)
            (sym (kept n x rest (drop i positions) false (le-ltb x n w.if-missing-position.false) next))
            ∙ c.loop-missing.invariant.found;
        named = subst (λ (o : Vec Op Global). All (λ (p : Op). IsNamed p.deps) o.items) (sym w.ops-is)
            c.loop-missing.invariant.named;
      }
    ]

pub returns-clause-ok : goal.returns-clause-ok
returns-clause-ok c =
    let G = c.args.log.now.entries in
    let v = c.args.vector.now in
    let n : ℕ = c.args.position in
    let ops : List Stamped = map stamped_of c.loop-missing.ops.items in
    let positions = c.deref-missing-items.result.now in
    sym (append-nil ops)
    ∙ ap (λ ns. ops ++ found G (before n ns)) (sym (drop_all c.loop-missing.missing-index positions c.loop-missing-test.false))
    ∙ c.loop-missing.invariant.found
    ∙ ap (λ ps. found G (before n ps)) (c.deref-missing-items.ensures.value ∙ c.in_ok-positions.ensures)
    ∙ found_before v G n
