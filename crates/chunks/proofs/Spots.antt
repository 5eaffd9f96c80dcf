-- Where a position is found.
use Rattle.std.proofs.Common.{◌≡◌, ℕ, suc, ◌+◌, ◌-◌, ◌<◌, ◌≤◌, List, length, get_or, refl, sym, subst, ap, ◌∙◌, slice_get, Some, arith}
use Rattle.std.proofs.lemmas.Option.{slice_get_read}
use Rattle.chunks.specs.declared.ends.Spot.{Spot}
use Rattle.chunks.specs.Chunks.{IsIn, IsPart, IsSpot, Sequence, ends_from, joined, start_of}
use Rattle.chunks.proofs.Joined.{item_at}
use Rattle.chunks.proofs.Positions.{before, before_next, end_before, length-ends, start_before, start_last}

-- what is read at an index of a list that has stayed the same
pub read_after : {X : Type 0} (xs ys : List X) (k : ℕ) (x : X) → ys ≡ xs → k < length xs → x ≡ get_or ys k x → slice_get ys k ≡ Some x
read_after xs ys k x same inside read = slice_get_read ys _ k x refl (subst (λ zs. k < length zs) (sym same) inside) read

module _ {X : Type 0} (ends : List ℕ) (cs : List (Sequence X)) (are : ends ≡ ends_from 0 cs) where
  -- the last chunk ends behind all items
  pub last_is : start_of ends (length ends) ≡ length (joined cs)
  last_is = (λ t. start_of (are t) (length (are t))) ∙ start_last cs

  pub start_is : (k : ℕ) → k ≤ length cs → start_of ends k ≡ before k cs
  start_is k inside = (λ t. start_of (are t) k) ∙ start_before k cs inside

  pub many : length ends ≡ length cs
  many = ap length are ∙ length-ends 0 cs

  module _ (position : ℕ) (spot : Spot) (s : IsSpot ends position spot) where
    pub spot_inside : spot.chunk < length cs
    spot_inside = let a = s.inside in let b = many in omega (arith, a, b)

    -- the chunk there
    pub spot_read : (c : Sequence X) → c ≡ get_or cs spot.chunk c → slice_get cs spot.chunk ≡ Some c
    spot_read c read = slice_get_read cs _ spot.chunk c refl spot_inside read

    pub spot_here : before spot.chunk cs + spot.index ≡ position
    spot_here = let a = s.here in let b = start_is spot.chunk (let i = spot_inside in omega (arith, i)) in omega (arith, a, b)

    pub spot_within : (c : Sequence X) → slice_get cs spot.chunk ≡ Some c → spot.index < length c.items
    spot_within c is =
        let low = spot_here in
        let high = s.before in
        let end : get_or ends spot.chunk 0 ≡ before (suc spot.chunk) cs
        = ap (λ es. get_or es spot.chunk 0) are ∙ end_before spot.chunk cs 0 spot_inside in
        let next = before_next spot.chunk cs c is in
        omega (arith, low, high, end, next)

    -- the items of the chunk there are a part of the list, and the position is in it
    module _ (c : Sequence X) (is : slice_get cs spot.chunk ≡ Some c) where
      pub spot_in : IsIn position (position - spot.index) c.items
      spot_in =
          let here = spot_here in
          let within = spot_within c is in
          record { from = omega (arith, here); before = omega (arith, here, within) }

      pub spot_part : IsPart (joined cs) (position - spot.index) c.items
      spot_part = λ i less.
          let here = spot_here in
          let from : position - spot.index + i ≡ before spot.chunk cs + i = omega (arith, here) in
          ap (λ j. slice_get (joined cs) j) from ∙ item_at spot.chunk cs c i is less
