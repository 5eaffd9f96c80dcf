-- What a worker submitted, one number after another.
use Rattle.std.proofs.Common.{◌≡◌, ℕ, suc, List, [], ◌∷◌, ◌++◌, length, Some, map, slice_get, ap, ◌∙◌, arith, append_assoc}
use Rattle.semantics.specs.LegalAnswer.{OfCommand}
use Rattle.peer_sync.specs.engine.Clients.{Client}
use Rattle.bench.specs.Workers.{assignment, assignments, requests_by}

-- one more request after those for the numbers below n
pub one_more : (key : List ℕ) (c d e f : Client) (n : ℕ) → requests_by d ≡ requests_by c ++ assignments key n
    → requests_by e ≡ requests_by d ++ OfCommand (assignment key n) ∷ []
    → requests_by f ≡ requests_by e → requests_by f ≡ requests_by c ++ assignments key (suc n)
one_more key c d e f n before more same =
    same ∙ more ∙ ap (λ l. l ++ OfCommand (assignment key n) ∷ []) before
    ∙ append_assoc (requests_by c) (assignments key n) (OfCommand (assignment key n) ∷ [])

-- a list of one
pub alone : {A B : Type 0} (f : A → B) (xs : List A) (x : A) → length xs ≡ 1 → slice_get xs 0 ≡ Some x → map f xs ≡ f x ∷ []
alone f [] x l h = absurd (omega (arith, l))
alone f (y ∷ []) x l h = let same : y ≡ x = cc in ap (λ z. f z ∷ []) same
alone f (y ∷ z ∷ xs) x l h = absurd (omega (arith, l))
