-- The flags of keys in ascending order.
use Rattle.std.proofs.Common.{◌≡◌, ℕ, zero, suc, ◌<◌, List, [], ◌∷◌, length, refl, get_or, set, Some, sym, ap, ◌∙◌, subst, arith}
use Rattle.std.specs.Prelude.{IsTrue, slice_get}
use Rattle.std.specs.List.{zip}
use Rattle.std.specs.FinMap.{find, put, is_sorted}
use Rattle.std.proofs.lemmas.Cmp.{tied_itself}
use Rattle.std.proofs.lemmas.Option.{slice_get-get_or, slice_get_within, get_or_from_slice_get}
use Rattle.std.proofs.lemmas.Slice.Zip.{firsts-zip}
use Rattle.std.specs.declared.cmp.Ordering.{Ordering}
use Rattle.std.specs.Cmp.{IsTotalOrder}
use Rattle.version.proofs.PairedColumns.{zip-get_or, zip-length}
use Rattle.columns.specs.Rank.{StandsAt, as_set, keys_of}
use Rattle.columns.proofs.Puts.{put_there}
use Rattle.columns.proofs.Ranks.{stands_here}
use Rattle.columns.proofs.Zipped.{find_there-zip}

zip-set : {K Y : Type 0} (ks : List K) (ws : List Y) (i : ℕ) (w : Y) (d : K) → zip ks (set ws i w) ≡ set (zip ks ws) i (get_or ks i d, w)
zip-set [] ws i w d = refl
zip-set (k ∷ ks) [] i w d = refl
zip-set (k ∷ ks) (v ∷ ws) zero w d = refl
zip-set (k ∷ ks) (v ∷ ws) (suc i) w d = ap (λ es. (k, v) ∷ es) (zip-set ks ws i w d)

module _ {K X Y : Type 0} (R : K → K → Ordering) (o : IsTotalOrder R) (ks : List K) (rising : IsTrue (is_sorted R (as_set ks)))
    (vs : List X) (long : length vs ≡ length ks) (ws : List Y) (wide : length ws ≡ length ks) where
  -- the key of an entry
  pub key_of-zip : (i : ℕ) (k : K) (v : X) → slice_get (zip ks vs) i ≡ Some (k, v) → slice_get ks i ≡ Some k
  key_of-zip i k v at =
      let lt = slice_get_within (zip ks vs) i (k, v) at in
      let both = zip-length ks vs long in
      let inside : i < length ks = omega (arith, lt, both) in
      slice_get-get_or ks i k inside
      ∙ ap (λ (e : K × X). Some e.0) (sym (zip-get_or ks vs i k v long) ∙ get_or_from_slice_get (zip ks vs) i (k, v) (k, v) at)

  stands : (i : ℕ) (k : K) → slice_get ks i ≡ Some k → StandsAt R k ks i
  stands i k at = stands_here R o k ks i k rising (slice_get_within ks i k at)
      (ap (R k) (get_or_from_slice_get ks i k k at) ∙ tied_itself o k)

  -- what stands at its position in another column
  pub find_paired : (i : ℕ) (k : K) (v : X) (w : Y) → slice_get (zip ks vs) i ≡ Some (k, v) → slice_get ws i ≡ Some w
      → find R k (zip ks ws) ≡ Some w
  find_paired i k v w at paired =
      let key = key_of-zip i k v at in
      find_there-zip R ks ws wide o k i w key (stands i k key).ranked ∙ ap Some (get_or_from_slice_get ws i w w paired)

  -- a write there
  pub put_paired : (i : ℕ) (k : K) (v : X) (w : Y) → slice_get (zip ks vs) i ≡ Some (k, v) → zip ks (set ws i w) ≡ put R k w (zip ks ws)
  put_paired i k v w at =
      let there : StandsAt R k (keys_of (zip ks ws)) i = subst (λ xs. StandsAt R k xs i) (sym (firsts-zip ks ws wide))
      (stands i k (key_of-zip i k v at)) in
      zip-set ks ws i w k
      ∙ ap (λ (e : K × Y). set (zip ks ws) i (e.0, w)) (sym (zip-get_or ks ws i k w wide))
      ∙ put_there R k w (zip ks ws) i (k, w) there
