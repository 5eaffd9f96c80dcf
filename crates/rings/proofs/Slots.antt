-- Positions and their slots.
use Rattle.std.proofs.Common.{◌≡◌, ℕ, ◌+◌, ◌*◌, ◌/◌, ◌%◌, ◌<◌, ◌≤◌, ◌⊎◌, inl, inr, List, [], ◌∷◌, ◌++◌, length, length-append, get_or, set}
use Rattle.std.proofs.Common.{sym, ap, ◌∙◌, arith}
use Rattle.std.specs.List.{All}
use Rattle.std.proofs.lemmas.List.{get_or_append_left, get_or_at}
use Rattle.std.proofs.lemmas.Bool.{cases_lt}
use Rattle.rings.specs.Rings.{straight, AreRings, IsClosed, IsSlot}
use Rattle.rings.proofs.Straight.{in_ring, in_ring_is, IsWrapped, straight-get, straight-set, straight-get_past, straight-set_past}
use Rattle.rings.proofs.Straight.{straight_one_more}

-- a sum that wraps around
pub goes_round : (s o : ℕ) → s < 2048 → o < 2048 → ((s + o) % 2048 < 2048) × IsWrapped 2048 (s + o) ((s + o) % 2048)
goes_round s o h k = by_cases (cases_lt (s + o) 2048)
  where
    by_cases : (s + o < 2048) ⊎ (2048 ≤ s + o) → ((s + o) % 2048 < 2048) × IsWrapped 2048 (s + o) ((s + o) % 2048)
    by_cases (inl lt) = (omega arith, inl (lt, omega (arith, lt)))
    by_cases (inr ge) = (omega arith, inr (ge, omega (arith, ge, h, k)))

pub at_ring : (k o : ℕ) → in_ring 2048 k o ≡ k * 2048 + o
at_ring k o = in_ring_is 2048 k o (k * 2048) (omega arith)

-- what stands at a position, and a write there, by its slot
pub record MeetsSlot {X : Type 0} (starts : List ℕ) (xs : List X) (position slot : ℕ) : Type 0 where
  pub inside : slot < length xs
  pub get : (d : X) → get_or (straight 2048 starts xs) position d ≡ get_or xs slot d
  pub set : (v : X) → straight 2048 starts (set xs slot v) ≡ set (straight 2048 starts xs) position v

pub meets_slot : {X : Type 0} (starts : List ℕ) (xs : List X) (position slot : ℕ) → AreRings 2048 starts (length xs) → position < length xs
    → IsSlot 2048 starts position slot → MeetsSlot starts xs position slot
meets_slot {X = X} starts xs position slot rings within is = by_cases (cases_lt position (length starts * 2048))
  where
    by_cases : (position < length starts * 2048) ⊎ (length starts * 2048 ≤ position) → MeetsSlot starts xs position slot
    by_cases (inl lt) =
        let k : ℕ = position / 2048 in
        let o : ℕ = position % 2048 in
        let kl : k < length starts = omega (arith, lt) in
        let ol : o < 2048 = omega arith in
        let e : position ≡ k * 2048 + o = omega arith in
        let start = rings.within k 0 kl in
        let (w, small, wrapped, at) = is.inside k o kl ol e in
        let here : in_ring 2048 k o ≡ position = at_ring k o ∙ sym e in
        let there : in_ring 2048 k w ≡ slot = at_ring k w ∙ sym at in
        let full = rings.full in
        record {
          inside = omega (arith, at, kl, small, full);
          get = λ d. ap (λ i. get_or (straight 2048 starts xs) i d) (sym here)
              ∙ straight-get 2048 starts xs k o w d kl full start ol wrapped small ∙ ap (λ i. get_or xs i d) there;
          set = λ v. ap (λ i. straight 2048 starts (set xs i v)) (sym there)
              ∙ straight-set 2048 starts xs k o w v kl full start ol wrapped small ∙ ap (λ i. set (straight 2048 starts xs) i v) here;
        }
    by_cases (inr ge) =
        let at = is.past ge in
        record {
          inside = omega (arith, at, within);
          get = λ d. straight-get_past 2048 starts xs position d rings.full ge ∙ ap (λ i. get_or xs i d) (sym at);
          set = λ v. ap (λ i. straight 2048 starts (set xs i v)) at ∙ straight-set_past 2048 starts xs position v rings.full ge;
        }

-- a ring that was closed changes nothing of the list
pub closed_same : {X : Type 0} (old new : List ℕ) (xs : List X) (count : ℕ) → length xs ≡ count → IsClosed 2048 old new count
    → straight 2048 new xs ≡ straight 2048 old xs
closed_same old new xs count long (inl (few, e)) = ap (λ ss. straight 2048 ss xs) e
closed_same old new xs count long (inr (full, e)) = ap (λ ss. straight 2048 ss xs) e ∙ straight_one_more 2048 old xs (long ∙ full)

all_more : (ss : List ℕ) → All (λ s. s < 2048) ss → All (λ s. s < 2048) (ss ++ 0 ∷ [])
all_more ss all k d lt = by_cases (cases_lt k (length ss))
  where
    by_cases : (k < length ss) ⊎ (length ss ≤ k) → get_or (ss ++ 0 ∷ []) k d < 2048
    by_cases (inl h) = rw (get_or_append_left ss (0 ∷ []) d k h) (all k d h)
    by_cases (inr h) = rw (get_or_at ss 0 [] d k (let a = length-append ss (0 ∷ []) in omega (arith, a, h, lt))) (omega arith)

pub closed_rings : (old new : List ℕ) (count : ℕ) → All (λ s. s < 2048) old → length old * 2048 ≤ count → count ≤ length old * 2048 + 2048
    → IsClosed 2048 old new count → AreRings 2048 new count
closed_rings old new count all full rest (inl (few, e)) = rw e (record { within = all; full = full; rest = few })
closed_rings old new count all full rest (inr (whole, e)) =
    let long = length-append old (0 ∷ []) in
    rw e (record { within = all_more old all; full = omega (arith, long, whole); rest = omega (arith, long, whole) })
