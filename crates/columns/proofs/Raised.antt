-- A search for a raised flag, run by run.
use Rattle.std.proofs.Common.{◌≡◌, ℕ, ◌+◌, ◌-◌, ◌<◌, ◌≤◌, Bool, false, List, length, map, Some, sym, ap, ◌∙◌, inl, inr, arith}
use Rattle.std.specs.Prelude.{slice_get, slice_index, unwrap_or}
use Rattle.std.proofs.lemmas.Bool.{cases_lt, false_from_ne_true}
use Rattle.std.proofs.lemmas.List.{get_or-map, length-map}
use Rattle.std.proofs.lemmas.Option.{slice_get-get_or, unwrap_or-slice_get}
use Rattle.memchr.specs.Find.{Nowhere, Passes, is_byte}

-- no flag is raised from one position up to another
abbrev pub AreLowered : List ℕ → ℕ → ℕ → Type 0
AreLowered bytes from to = (i : ℕ) → from ≤ i → i < to → is_byte 1 (slice_index bytes i) ≡ false

module _ (bytes run : List ℕ) (at : ℕ) (items : (i : ℕ) → i < length run → slice_get bytes (at + i) ≡ slice_get run i) where
  pub byte_in_run : (i : ℕ) → i < length run → slice_index bytes (at + i) ≡ slice_index run i
  byte_in_run i inside = sym (unwrap_or-slice_get bytes (at + i) 0) ∙ ap (λ o. unwrap_or o 0) (items i inside)
      ∙ unwrap_or-slice_get run i 0

  -- the flags before the first raised one of a run are lowered
  pub lowered_more : (from k : ℕ) → AreLowered bytes from at → k ≤ length run → Nowhere (Passes (is_byte 1) run) 0 k
      → AreLowered bytes from (at + k)
  lowered_more from k before within none i low high = elim (cases_lt i at) [
    | inl lt ↦ before i low lt
    | inr ge ↦
        let j : ℕ = i - at in
        let back : at + j ≡ i = omega (arith, ge) in
        ap (λ p. is_byte 1 (slice_index bytes p)) (sym back) ∙ ap (is_byte 1) (byte_in_run j (omega (arith, high, within)))
        ∙ false_from_ne_true (is_byte 1 (slice_index run j)) (none j (omega arith) (omega (arith, high)))
  ]

-- the flag of a byte
pub flag_of_byte : (bytes : List ℕ) (i : ℕ) (b : Bool) → i < length bytes → is_byte 1 (slice_index bytes i) ≡ b
    → slice_get (map (is_byte 1) bytes) i ≡ Some b
flag_of_byte bytes i b inside is =
    let long = length-map bytes (is_byte 1) in
    slice_get-get_or (map (is_byte 1) bytes) i b (omega (arith, long, inside))
    ∙ ap Some (get_or-map (is_byte 1) bytes i 0 b inside ∙ is)
