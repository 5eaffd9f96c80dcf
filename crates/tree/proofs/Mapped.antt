-- Entries by id whose values are mapped.
use Rattle.std.proofs.Common.{◌≡◌, true, false, cond, not, List, [], ◌∷◌, map, refl, ap}
use Rattle.std.specs.declared.cmp.Ordering.TheVariants.{Less, Equal, Greater}
use Rattle.std.specs.FinMap.{put}
use Rattle.std.specs.FinMap.Entries.{by_order}
use Rattle.semantics.specs.Ids.{OpId, IdSet, id_cmp}
use Rattle.semantics.specs.Context.{without}

module _ {X Y : Type 0} (h : X → Y) where
  -- the same ids, with the values mapped
  abbrev mapped : List (OpId × X) → List (OpId × Y)
  mapped es = map (λ e. (e.0, h e.1)) es

  pub put-mapped : (a : OpId) (v : X) (es : List (OpId × X)) → mapped (put id_cmp a v es) ≡ put id_cmp a (h v) (mapped es)
  put-mapped a v [] = refl
  put-mapped a v (e ∷ es) =
      elim (id_cmp a e.0) as
      (λ o. mapped (by_order o ((a, v) ∷ e ∷ es) ((e.0, v) ∷ es) (e ∷ put id_cmp a v es))
      ≡ by_order o ((a, h v) ∷ mapped (e ∷ es)) ((e.0, h v) ∷ mapped es) ((e.0, h e.1) ∷ put id_cmp a (h v) (mapped es))) [
        | Less ↦ refl
        | Equal ↦ refl
        | Greater ↦ ap (λ xs. (e.0, h e.1) ∷ xs) (put-mapped a v es)
      ]

  pub without-mapped : (S : IdSet) (es : List (OpId × X)) → mapped (without S es) ≡ without S (mapped es)
  without-mapped S [] = refl
  without-mapped S (e ∷ es) =
      elim (S e.0) as
      (λ b. mapped (cond (not b) (e ∷ without S es) (without S es))
      ≡ cond (not b) ((e.0, h e.1) ∷ without S (mapped es)) (without S (mapped es))) [
        | true ↦ without-mapped S es
        | false ↦ ap (λ xs. (e.0, h e.1) ∷ xs) (without-mapped S es)
      ]
