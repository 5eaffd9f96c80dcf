-- Items that lie next to each other.
use Rattle.std.proofs.Common.{◌≡◌, ℕ, ◌+◌, ◌-◌, ◌*◌, ◌/◌, ◌%◌, ◌<◌, ◌≤◌, inl, inr, List, [], ◌∷◌, Some, length, get_or, take, drop, sym, ap}
use Rattle.std.proofs.Common.{◌∙◌, arith}
use Rattle.std.specs.Prelude.{slice_get}
use Rattle.std.proofs.lemmas.List.{get_or-drop, get_or-take, length-drop, length-take-le}
use Rattle.std.proofs.lemmas.Option.{slice_get-get_or}
use Rattle.rings.specs.Rings.{straight, AreRings, IsSlot}
use Rattle.rings.proofs.Straight.{IsWrapped, length-straight}
use Rattle.rings.proofs.Slots.{meets_slot}

-- `count` items from a position on lie in the slots from this one on
pub record IsRun {X : Type 0} (starts : List ℕ) (xs : List X) (position slot count : ℕ) : Type 0 where
  pub slots : slot + count ≤ length xs
  pub positions : position + count ≤ length xs
  pub slot_of : (i : ℕ) → i < count → IsSlot 2048 starts (position + i) (slot + i)

-- what lies i slots further on in a ring is the item i positions further on, up to the last slot and up to the ring's first item
further : (n s o w i p : ℕ) → IsWrapped n (s + o) w → o + i < n → w + i < n → s < n → p ≡ o + i → IsWrapped n (s + p) (w + i)
further n s o w i p (inl (lt, e)) place slot small is = inl (omega (arith, lt, e, slot, is), omega (arith, e, is))
further n s o w i p (inr (ge, e)) place slot small is = inr (omega (arith, ge, is), omega (arith, e, is))

same_item : {X : Type 0} (xs ys : List X) (i j : ℕ) → i < length xs → j < length ys → ((d : X) → get_or xs i d ≡ get_or ys j d)
    → slice_get xs i ≡ slice_get ys j
same_item xs [] i j h k same = absurd (omega (arith, k))
same_item xs (y ∷ ys) i j h k same = slice_get-get_or xs i y h ∙ ap Some (same y) ∙ sym (slice_get-get_or (y ∷ ys) j y k)

module _ {X : Type 0} (starts : List ℕ) (xs : List X) (position slot : ℕ) (rings : AreRings 2048 starts (length xs))
    (within : position < length xs) (is : IsSlot 2048 starts position slot) where
  -- the rest of a ring, up to its last slot or to the one before it begins
  pub run_in_ring : (count : ℕ) → position / 2048 < length starts → position % 2048 + count ≤ 2048 → slot % 2048 + count ≤ 2048
      → IsRun starts xs position slot count
  run_in_ring count lt places slots =
      let k : ℕ = position / 2048 in
      let o : ℕ = position % 2048 in
      let e : position ≡ k * 2048 + o = omega arith in
      let (w, less, wrapped, at) = is.inside k o lt (omega arith) e in
      let here : slot % 2048 ≡ w = omega (arith, at, less) in
      let full = rings.full in
      record {
        slots = omega (arith, at, here, slots, lt, full);
        positions = omega (arith, e, places, lt, full);
        slot_of = λ i more. record {
          inside = λ l p ll pl q.
              let same : k ≡ l = omega (arith, q, e, places, more, pl) in
              let back : position ≡ l * 2048 + o = omega (arith, e, same) in
              let (v, small_v, wrapped_v, at_v) = is.inside l o ll (omega arith) back in
              let there : slot % 2048 ≡ v = omega (arith, at_v, small_v) in (
                v + i,
                omega (arith, there, slots, more),
                further 2048 (get_or starts l 0) o v i p wrapped_v (omega (arith, places, more)) (omega (arith, there, slots, more))
                    (rings.within l 0 ll) (omega (arith, q, back)),
                omega (arith, at_v),
              );
          past = λ ge. absurd (omega (arith, e, places, lt, more, ge));
        };
      }

  -- what stands behind the rings
  pub run_behind : length starts ≤ position / 2048 → IsRun starts xs position slot (length xs - slot)
  run_behind past =
      let e : slot ≡ position = is.past (omega (arith, past)) in
      record {
        slots = omega (arith, e, within);
        positions = omega (arith, e, within);
        slot_of = λ i more. record {
          inside = λ l p ll pl q. absurd (omega (arith, q, past, ll, pl));
          past = λ ge. omega (arith, e);
        };
      }

  -- the items of a run
  pub run_items : (count : ℕ) → IsRun starts xs position slot count → (i : ℕ) → i < length (take count (drop slot xs))
      → slice_get (straight 2048 starts xs) (position + i) ≡ slice_get (take count (drop slot xs)) i
  run_items count run i inside =
      let rest = length-drop slot xs in
      let slots = run.slots in
      let positions = run.positions in
      let many : length (take count (drop slot xs)) ≡ count = length-take-le count (drop slot xs) (omega (arith, rest, slots)) in
      let long = length-straight 2048 starts xs in
      let less : i < count = omega (arith, inside, many) in
      let place : position + i < length xs = omega (arith, less, positions) in
      let there = meets_slot starts xs (position + i) (slot + i) rings place (run.slot_of i less) in
      same_item (straight 2048 starts xs) (take count (drop slot xs)) (position + i) i (omega (arith, long, place)) inside
      (λ d. there.get d ∙ sym (get_or-take count (drop slot xs) i d less ∙ get_or-drop slot xs i d))
