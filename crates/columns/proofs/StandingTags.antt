-- The kinds of value at the ids of a presence, as these come and go.
use Rattle.std.proofs.Common.{◌≡◌, ℕ, zero, suc, ◌+◌, ◌<◌, ◌≤◌, Bool, true, false, cond, not, ◌||◌, List, [], ◌∷◌, length, drop, slice_get}
use Rattle.std.proofs.Common.{Some}
use Rattle.std.proofs.Common.{refl, sym, ap, ◌∙◌, arith}
use Rattle.std.specs.declared.cmp.Ordering.TheVariants.{Less, Equal, Greater}
use Rattle.std.specs.FinMap.{put}
use Rattle.std.specs.FinMap.Entries.{by_order}
use Rattle.std.specs.List.{filter, zip}
use Rattle.std.proofs.Math.Bool.{or_assoc, or_comm}
use Rattle.std.proofs.lemmas.List.Filters.{length-filter_both}
use Rattle.std.proofs.lemmas.Map.Made.{keys_of-zip}
use Rattle.std.proofs.lemmas.Slice.Zip.{length-zip}
use Rattle.semantics.specs.Ids.{OpId, id_cmp}
use Rattle.semantics.specs.Elements.{Tag as TheTag}
use Rattle.semantics.specs.Glances.{is_same_tag}
use Rattle.cursor.specs.declared.tag.Tag.{Tag}
use Rattle.cursor.specs.Steps.{tag_of}
use Rattle.columns.specs.Kinds.{stands_as}
use Rattle.columns.specs.Rank.{keys_of}

-- a new id comes in with a tag
pub stands-put : (t : TheTag) (id : OpId) (v : Tag) (es : List (OpId × Tag)) → length es < length (put id_cmp id v es)
    → stands_as t (put id_cmp id v es) ≡ (stands_as t es || is_same_tag t (tag_of v))
stands-put t id v [] more = or_comm (is_same_tag t (tag_of v)) false
stands-put t id v (e ∷ es) more =
    elim (id_cmp id e.0) as
    (λ r. suc (length es) < length (by_order r ((id, v) ∷ e ∷ es) ((e.0, v) ∷ es) (e ∷ put id_cmp id v es))
    → stands_as t (by_order r ((id, v) ∷ e ∷ es) ((e.0, v) ∷ es) (e ∷ put id_cmp id v es))
    ≡ (stands_as t (e ∷ es) || is_same_tag t (tag_of v))) [
      | Less ↦ λ h. or_comm (is_same_tag t (tag_of v)) (stands_as t (e ∷ es))
      | Equal ↦ λ h. absurd (omega (arith, h))
      | Greater ↦ λ h.
          ap (λ b. is_same_tag t (tag_of e.1) || b) (stands-put t id v es (omega (arith, h)))
          ∙ sym (or_assoc (is_same_tag t (tag_of e.1)) (stands_as t es) (is_same_tag t (tag_of v)))
    ] more

-- the entry at this position decides, or those behind it
pub stands-next : (t : TheTag) (es : List (OpId × Tag)) (k : ℕ) (a : OpId) (x : Tag) → slice_get es k ≡ Some (a, x)
    → stands_as t (drop k es) ≡ (is_same_tag t (tag_of x) || stands_as t (drop (k + 1) es))
stands-next t [] k a x h = absurd (cc)
stands-next t (e ∷ es) zero a x h =
    let same : e ≡ (a, x) = cc in ap (λ (y : OpId × Tag). is_same_tag t (tag_of y.1) || stands_as t es) same
stands-next t (e ∷ es) (suc k) a x h =
    let further : suc (k + 1) ≡ suc k + 1 = omega arith in
    stands-next t es k a x h ∙ ap (λ n. is_same_tag t (tag_of x) || stands_as t (drop n (e ∷ es))) further

fewer : {X : Type 0} (p : X → Bool) (xs : List X) → length (filter p xs) ≤ length xs
fewer p xs = let both = length-filter_both p (λ x. not (p x)) (λ x. refl) xs in omega (arith, both)

-- where as many stay, all do
all_stay : {X : Type 0} (p : X → Bool) (xs : List X) → length (filter p xs) ≡ length xs → filter p xs ≡ xs
all_stay p [] h = refl
all_stay p (x ∷ xs) h = by (p x) (λ k. all_stay p xs k) h where
  by : (b : Bool) → (length (filter p xs) ≡ length xs → filter p xs ≡ xs)
      → length (cond b (x ∷ filter p xs) (filter p xs)) ≡ suc (length xs) → cond b (x ∷ filter p xs) (filter p xs) ≡ x ∷ xs
  by true rest h = ap (λ ys. x ∷ ys) (rest (omega (arith, h)))
  by false rest h = absurd (let few = fewer p xs in omega (arith, few, h))

pub none_went : (p : (OpId × Tag) × ℕ → Bool) (es new : List (OpId × Tag)) (is new_is : List ℕ)
    → zip new new_is ≡ filter p (zip es is) → length is ≡ length es → length new_is ≡ length new → length es ≤ length new → new ≡ es
none_went p es new is new_is kept long new_long all =
    let old_pairs : length (zip es is) ≡ length es = (let both = length-zip es is in omega (arith, both, long)) in
    let new_pairs : length (zip new new_is) ≡ length new = (let both = length-zip new new_is in omega (arith, both, new_long)) in
    let left = ap (λ (xs : List ((OpId × Tag) × ℕ)). length xs) kept in
    let few = fewer p (zip es is) in
    sym (keys_of-zip new new_is new_long)
    ∙ ap keys_of (kept ∙ all_stay p (zip es is) (omega (arith, old_pairs, new_pairs, left, few, all)))
    ∙ keys_of-zip es is long
