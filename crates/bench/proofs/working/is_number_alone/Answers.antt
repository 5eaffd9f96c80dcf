use Rattle.std.proofs.Common.{rules, ◌≡◌, List, true, pos, [], ◌∷◌, length, sym, ap, ◌∙◌, arith}
use Rattle.std.proofs.lemmas.Option.{slice_get_read}
use Rattle.semantics.specs.Ids.{OpId as AnId}
use Rattle.semantics.specs.Elements.{Scalar as TheScalar, Whole}
use Rattle.peer_sync.specs.value.declared.value.Scalar.{Scalar}
use Rattle.peer_sync.specs.value.Values.{scalar_of}
use Rattle.peer_sync.specs.value.SameValues.{is_same_scalar, scalar_decides}
use Rattle.bench.proofs.Submitting.{alone}
use Rattle.bench.proofs.working.is_number_alone.Goals as goal

pub returns-then-values-eq1 : goal.returns-then-values-eq1
returns-then-values-eq1 c = λ e.
    let x : AnId × Scalar = c.index-values-0.result in
    let values : List (AnId × Scalar) = c.args.values.now in
    let one : length values ≡ 1 = search rules in
    let first = slice_get_read values 1 0 x (sym one) (omega arith) c.index-values-0.is in
    let said : is_same_scalar (scalar_of x.1) (Whole (pos c.args.number)) ≡ true = search rules in
    let told : List (AnId × TheScalar) → List (AnId × TheScalar) = λ l. l in (
      x.0,
      alone {A = AnId × Scalar} {B = AnId × TheScalar} (λ p. (p.0, scalar_of p.1)) values x one first
          ∙ ap (λ s. told ((x.0, s) ∷ [])) ((scalar_decides (scalar_of x.1) (Whole (pos c.args.number))).0 said),
    )
