use Rattle.std.proofs.Common.{add-one, ◌≡◌, ◌≢◌, ◌∙◌, ◌||◌, refl, sym, ap, subst, ℕ, zero, suc, Bool, true, false, IsTrue, List}
use Rattle.std.proofs.Common.{[], ◌∷◌}
use Rattle.std.proofs.Common.{drop, slice_get, Some, arith}
use Rattle.semantics.specs.Ids.{OpId, id_cmp, is_same_id}
use Rattle.semantics.proofs.Orders.{ids_from_test}
use Rattle.cursor.specs.declared.tag.Tag.{Tag}
use Rattle.columns.specs.Rank.{has_key, keys_of}
use Rattle.columns.proofs.replica_columns.search_greatest.Goals as goal

-- one that is another id is passed
passed : (q : OpId) (es : List (OpId × Tag)) (i : ℕ) (e : OpId × Tag) → slice_get es i ≡ Some e → q ≢ e.0
    → IsTrue (has_key id_cmp q (keys_of (drop i es))) → IsTrue (has_key id_cmp q (keys_of (drop (suc i) es)))
passed q [] i e read other there = absurd (cc)
passed q (x ∷ es) zero e read other there = at_test (is_same_id q x.0) refl there
  where
    at_test : (b : Bool) → is_same_id q x.0 ≡ b → IsTrue (b || has_key id_cmp q (keys_of es)) → IsTrue (has_key id_cmp q (keys_of es))
    at_test true same h = let here : x ≡ e = cc in absurd (other (ids_from_test q x.0 same ∙ ap (λ (y : OpId × Tag). y.0) here))
    at_test false differs h = h
passed q (x ∷ es) (suc i) e read other there = passed q es i e read other there

pub loop-position-preserved : goal.loop-position-preserved
loop-position-preserved c q own there above =
    let es = c.args.list.now.entries in
    let i = c.loop-position.position in
    let e : OpId × Tag = (c.at.result.0, c.at.result.1.now) in
    let kept = c.raised-greatest.ensures.kept in
    let other : q ≢ e.0 = λ same.
    (let counter = ap (λ (x : OpId). x.counter) same in
    let h = c.raised-greatest.ensures.own (ap (λ (x : OpId). x.replica) (sym same) ∙ own) in
    absurd (omega (arith, counter, h, above))) in
    subst (λ n. IsTrue (has_key id_cmp q (keys_of (drop n es)))) (sym (add-one i))
    (passed q es i e c.at.ensures other (c.loop-position.invariant q own there (omega (arith, kept, above))))
