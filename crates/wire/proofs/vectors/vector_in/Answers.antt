use Rattle.std.proofs.Common.{◌≡◌, ◌≤◌, ◌<◌, List, Err, length, inl, refl, sym, ap, ◌∙◌, arith}
use Rattle.std.proofs.lemmas.Bool.{lt-ltb, le-ltb}
use Rattle.ids.specs.declared.refusal.Refusal.TheVariants.{BadLine}
use Rattle.ids.specs.Vectors.{most_named}
use Rattle.serde_json.specs.declared.value.Value.{Value}
use Rattle.serde_json.specs.View.{items_view}
use Rattle.wire.specs.Forms.{and_then}
use Rattle.wire.specs.Vectors.{pairs_above, pairs_of}
use Rattle.wire.proofs.ReadPlaces.{count_parts-items_view}
use Rattle.wire.proofs.vectors.vector_in.Goals as goal

pairs_of-many : (vs : List Value) → most_named < length vs → pairs_of (items_view vs) ≡ Err BadLine
pairs_of-many vs h = rw (count_parts-items_view vs, lt-ltb most_named (length vs) h) refl

pairs_of-few : (vs : List Value) → length vs ≤ most_named
    → pairs_of (items_view vs) ≡ pairs_above 0 (items_view vs)
pairs_of-few vs h = rw (count_parts-items_view vs, le-ltb most_named (length vs) h) refl

pub returns-then-pairs-gt-MOST_NAMED : goal.returns-then-pairs-gt-MOST_NAMED
returns-then-pairs-gt-MOST_NAMED c =
    inl (sym (ap (and_then pairs_of) c.in_ok-pairs.ensures
    ∙ pairs_of-many c.in_ok-pairs.pairs.now (omega (arith, c.if-pairs-gt-MOST_NAMED.true))))

pub returns : goal.returns
returns c =
    rw (
      c.in_ok-pairs.ensures,
      pairs_of-few c.in_ok-pairs.pairs.now
          (omega (arith, c.if-pairs-gt-MOST_NAMED.false)),
    ) c.pairs_in.ensures
