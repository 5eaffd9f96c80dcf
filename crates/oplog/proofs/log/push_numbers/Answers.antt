use Rattle.std.proofs.Common.{◌≡◌, ◌∙◌, ◌+◌, ◌++◌, ◌∷◌, ℕ, List, [], Some, add-one, sym, ap, map, drop, drop-cons, slice_get, arith}
use Rattle.std.proofs.Common.{append_assoc}
use Rattle.std.proofs.lemmas.Option.{get_or_from_slice_get, slice_get_within}
use Rattle.semantics.specs.Ids.{OpId}
use Rattle.oplog.proofs.log.push_numbers.Goals as goal

-- the numbers from a position on
abbrev numbers_from : ℕ → List (OpId × ℕ) → List ℕ
numbers_from i es = map (λ e. e.1) (drop i es)

first_of : (es : List (OpId × ℕ)) (i : ℕ) (e : OpId × ℕ) → slice_get es i ≡ Some e → numbers_from i es ≡ e.1 ∷ numbers_from (i + 1) es
first_of es i e read =
    ap (map (λ e. e.1)) (drop-cons es i e (slice_get_within es i e read))
    ∙ (λ t. (get_or_from_slice_get es i e e read t).1 ∷ numbers_from (sym (add-one i) t) es)

pub loop-position-preserved : goal.loop-position-preserved
loop-position-preserved c =
    let es = c.args.from.now.entries in
    let i = c.loop-position.position in
    let before = c.loop-position.numbers.items in
    record {
      pushed =
          ap (λ xs. xs ++ numbers_from (i + 1) es) c.push_reserved.ensures.items
          ∙ append_assoc before (c.at.result.1 ∷ []) (numbers_from (i + 1) es)
          ∙ ap (λ ns. before ++ ns) (sym (first_of es i c.at.result c.at.ensures))
          ∙ c.loop-position.invariant.pushed;
      room = omega arith;
    }
