use Rattle.std.proofs.Common.{inl, sym, ap, ◌∙◌, arith}
use Rattle.wire.specs.Forms.{and_then}
use Rattle.wire.specs.Places.{path_of}
use Rattle.wire.proofs.ReadPlaces.{path_of-few, path_of-many}
use Rattle.wire.proofs.places.path_in.Goals as goal

pub returns-then-values-gt-MOST_KEYS-clause-read : goal.returns-then-values-gt-MOST_KEYS-clause-read
returns-then-values-gt-MOST_KEYS-clause-read c =
    inl (sym (ap (and_then path_of) c.in_ok-values.ensures
    ∙ path_of-many c.in_ok-values.values.now (omega (arith, c.if-values-gt-MOST_KEYS.true))))

pub returns-clause-read : goal.returns-clause-read
returns-clause-read c =
    rw (
      c.in_ok-values.ensures,
      path_of-few c.in_ok-values.values.now
          (omega (arith, c.if-values-gt-MOST_KEYS.false)),
    ) c.parts_in.ensures.read
