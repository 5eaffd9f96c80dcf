-- Where a key stands, or goes, by a look at the keys next to it.
use Rattle.std.proofs.Common.{◌≡◌, ◌⊎◌, ◌≤◌, ◌<◌, ◌∙◌, ℕ, List, [], IsTrue, length, get_or, slice_get, Some, Ok, inl, inr, ap, sym, refl}
use Rattle.std.proofs.Common.{arith}
use Rattle.std.specs.declared.cmp.Ordering.TheVariants.{Less, Equal}
use Rattle.std.specs.Ordering.{is_gt}
use Rattle.std.specs.FinMap.{is_sorted}
use Rattle.std.proofs.lemmas.Bool.{cases_lt}
use Rattle.std.proofs.lemmas.Cmp.{tied_itself}
use Rattle.std.proofs.lemmas.List.{get_or_default}
use Rattle.std.proofs.lemmas.Option.{get_or_from_slice_get, slice_get_read}
use Rattle.semantics.specs.Elements.{Name, name_cmp}
use Rattle.semantics.proofs.Orders.{name_total, same_names}
use Rattle.columns.specs.Keys.{Finds}
use Rattle.columns.specs.Rank.{StandsAt, as_set, rank}
use Rattle.columns.proofs.Ranks.{rank_in, rank_le}
use Rattle.columns.proofs.Sought.{IsSought, sought_here}

-- what stands there, whatever is given where nothing does
pub is_there : (keys : List Name) (i : ℕ) → i < length keys → (d : Name) → get_or keys i d ≡ get_or keys i []
is_there keys i inside d = get_or_default keys i d [] inside

-- between positions, of which the lower one isn't behind the key's place, and at the upper one stands a greater key, if any
pub sought_between : (keys : List Name) (key : Name) (low high : ℕ) → low ≤ rank name_cmp key keys → high ≤ length keys
    → ((d : Name) → high < length keys → name_cmp key (get_or keys high d) ≡ Less) → IsSought name_cmp key keys low high
sought_between keys key low high above within next =
    record { above = above; below = below (cases_lt high (length keys)); within = within; next = next } where
      below : (high < length keys) ⊎ (length keys ≤ high) → rank name_cmp key keys ≤ high
      below (inl less) = rank_le name_cmp key keys high [] less (ap is_gt (next [] less))
      below (inr all) = let most = rank_in name_cmp key keys in omega (arith, most, all)

module _ (keys : List Name) (key : Name) (rising : IsTrue (is_sorted name_cmp (as_set keys))) where
  -- at a key that ties
  pub found_here : (low high i : ℕ) → IsSought name_cmp key keys low high → i < high → name_cmp key (get_or keys i []) ≡ Equal
      → Finds keys key (Ok i)
  found_here low high i sought inside ties =
      let most = sought.within in
      let within : i < length keys = omega (arith, inside, most) in
      let other = get_or keys i [] in
      let stands : StandsAt name_cmp key keys i =
      sought_here name_cmp key keys low high i other sought inside (is_there keys i within) name_total rising ties in (
        slice_get_read keys (length keys) i other refl within (sym (is_there keys i within other))
            ∙ ap Some (sym (same_names key other ties)),
        stands.ranked,
      )

-- a key that stands at the hint ties with what is read there
pub ties_at : (keys : List Name) (key : Name) (hint : ℕ) → slice_get keys hint ≡ Some key → name_cmp key (get_or keys hint []) ≡ Equal
ties_at keys key hint there = ap (name_cmp key) (get_or_from_slice_get keys hint key [] there) ∙ tied_itself name_total key
