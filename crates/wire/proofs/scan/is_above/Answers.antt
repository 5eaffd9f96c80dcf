use Rattle.std.proofs.Common.{◌≡◌, ◌<◌, ℕ, Bool, true, false, [], ◌∷◌, ◌++◌, refl, sym, subst, arith, rules}
use Rattle.std.specs.Bool.{OnTrue}
use Rattle.ids.specs.Vectors.{AreBelow, IsCanonical}
use Rattle.ids.proofs.SearchedVectors.{below_behind, below_more}
use Rattle.semantics.specs.Ids.{OpId}
use Rattle.semantics.specs.Vectors.{Vector}
use Rattle.wire.proofs.RisingVectors.{below_there}
use Rattle.wire.proofs.scan.is_above.Goals as goal

-- a canonical vector whose last pair is below p
below_last : (p : ℕ) (v : Vector) (a : OpId) → IsCanonical (v ++ a ∷ []) → a.replica < p → AreBelow p (v ++ a ∷ [])
below_last p v a h l = below_behind p v a (below_more a.replica p v (below_there v [] a h) (omega (arith, l))) l

pub returns-in-Some : goal.returns-in-Some
returns-in-Some c =
    let p : ℕ = c.args.replica in
    let split : c.args.pairs.now ≡ c.in-Some.field-0-1.now ++ c.in-Some.last.now ∷ [] = search rules in
    let lower : c.lt.result ≡ true → c.in-Some.last.now.replica < p = search rules in
    by c.lt.result refl split lower
  where
    by : (t : Bool) → c.lt.result ≡ t → c.args.pairs.now ≡ c.in-Some.field-0-1.now ++ c.in-Some.last.now ∷ []
        → (c.lt.result ≡ true → c.in-Some.last.now.replica < c.args.replica) → OnTrue t (AreBelow c.args.replica c.args.pairs.now)
    by true is split lower = subst (AreBelow c.args.replica) (sym split)
        (below_last c.args.replica c.in-Some.field-0-1.now c.in-Some.last.now (subst IsCanonical split c.requires) (lower is))
    by false is split lower = tt
