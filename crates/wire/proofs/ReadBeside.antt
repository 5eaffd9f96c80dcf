-- What is written of an operation relative to a base is read there as that operation.
use Rattle.std.proofs.Common.{◌≡◌, ◌≤◌, ◌<◌, ◌^◌, ℕ, IsUtf8, nat_le, true, [], ◌∷◌, map, length, Ok, refl, ap, ◌∙◌, arith}
use Rattle.std.proofs.lemmas.Bool.{and_parts, le-ltb, leb-true, lt-ltb, ne_eqb}
use Rattle.semantics.specs.Limits.{most_counter, most_replica}
use Rattle.semantics.specs.Stamped.{Stamped}
use Rattle.semantics.specs.Vectors.{AreAbove, IsCanonical, Vector, at}
use Rattle.serde_json.specs.Data.{depth}
use Rattle.serde_json.specs.View.{items_of}
use Rattle.wire.specs.Deltas.{changed, changes_above, delta, delta_form, few_of}
use Rattle.wire.specs.Forms.{and_then}
use Rattle.wire.specs.Profiles.{AreSentChanges, IsSentBeside, line_form, op2_json, op2_line, operation_beside}
use Rattle.wire.specs.Vectors.{pair_json, vector_json}
use Rattle.wire.proofs.DeltaLaws.{changed-delta}
use Rattle.wire.proofs.JsonTexts.{json_form-read}
use Rattle.wire.proofs.ReadBack.{id_back, mutation_back, place_back}
use Rattle.wire.proofs.ShallowForms.{depth-op2_json}
use Rattle.wire.proofs.ToldDeltas.{Tells, tells-delta}
use Rattle.wire.proofs.WholeOperations as whole
use Rattle.wire.proofs.WholeTexts.{HasWhole, ItemsHaveWhole, read-compact_text}

-- ---- the form

above_zero : (d : Vector) → AreSentChanges d → AreAbove 0 d
above_zero [] h = tt
above_zero (a ∷ d) h =
    let some = and_parts (nat_le 1 a.replica) (nat_le a.replica most_replica) h.0.0 in
    let above : 1 ≤ a.replica = leb-true 1 a.replica some.0 in (omega (arith, above), above_zero d h.1)

changes_back : (base : Vector) (p : ℕ) (d : Vector) → AreAbove p d → Tells base d → AreSentChanges d
    → changes_above base p (items_of (map pair_json d)) ≡ Ok d
changes_back base p [] above told sent = refl
changes_back base p (a ∷ d) above told sent = rw (
  sent.0.0,
  sent.0.1,
  lt-ltb p a.replica above.0,
  ne_eqb (at base a.replica) a.counter told.1,
  changes_back base a.replica d told.0 told.2 sent.1,
) refl

few_is : (v : Vector) → length v ≤ 256 → few_of v ≡ Ok v
few_is v h = rw (le-ltb 256 (length v) h) refl

delta_back : (base v : Vector) → IsCanonical base → IsCanonical v → AreSentChanges (delta base v) → length v ≤ 256
    → delta_form base (vector_json (delta base v)) ≡ Ok v
delta_back base v h k sent few =
    ap (and_then (λ d. few_of (changed base d)))
    (changes_back base 0 (delta base v) (above_zero (delta base v) sent) (tells-delta base v h k) sent)
    ∙ ap few_of (changed-delta base v h k)
    ∙ few_is v few

pub beside_back : (base : Vector) (s : Stamped) → IsCanonical base → IsSentBeside base s
    → operation_beside base (op2_json base s) ≡ Ok s
beside_back base s h sent =
    rw (
      id_back s.id sent.id,
      delta_back base s.vector h sent.canonical sent.changes sent.few_pairs,
      place_back s.place sent.keys sent.few,
      mutation_back s.mutation sent.mutation,
    ) refl

-- ---- the line

within : (limit n : ℕ) → limit < 2 ^ 64 → nat_le n limit ≡ true → n < 2 ^ 64
within limit n l t = omega (arith, l, leb-true n limit t)

pairs : (d : Vector) → AreSentChanges d → ItemsHaveWhole (items_of (map pair_json d))
pairs [] h = tt
pairs (a ∷ d) h =
    let replica = and_parts (nat_le 1 a.replica) (nat_le a.replica most_replica) h.0.0 in
    ((within most_replica a.replica (omega arith) replica.1, (within most_counter a.counter (omega arith) h.0.1, tt)), pairs d h.1)

operation : (base : Vector) (s : Stamped) → IsSentBeside base s → HasWhole (op2_json base s)
operation base s h = (
  tt,
  (
    (whole.counter s.id h.id, (whole.replica s.id h.id, tt)),
    (
      pairs (delta base s.vector) h.changes,
      (whole.place s.place h.keys, (whole.last_key s.place h.keys, (whole.mutation s.mutation h.mutation, tt))),
    ),
  ),
)

pub line_form-op2_line : (base : Vector) (s : Stamped) → IsCanonical base → IsSentBeside base s → IsUtf8 (op2_line base s)
    → line_form base (op2_line base s) ≡ Ok s
line_form-op2_line base s h sent utf8 =
    let d = op2_json base s in
    let shallow : depth (op2_json base s) ≤ 127 = omega (arith, depth-op2_json base s) in
    ap (and_then (operation_beside base)) (json_form-read (op2_line base s) d utf8 (read-compact_text d (operation base s sent) shallow))
    ∙ beside_back base s h sent
