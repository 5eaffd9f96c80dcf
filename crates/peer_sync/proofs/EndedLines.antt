-- Lines with and without their line feeds.
use Rattle.std.proofs.Common.{◌≡◌, ◌≢◌, ℕ, List, [], ◌∷◌, ◌++◌, refl, ap}
use Rattle.std.proofs.lemmas.Bool.{ne_eqb}
use Rattle.peer_sync.specs.Sending.{without_end}

pub without_end-ended : (bs : List ℕ) → without_end (bs ++ 10 ∷ []) ≡ bs
without_end-ended [] = refl
without_end-ended (b ∷ []) = refl
without_end-ended (b ∷ c ∷ bs) = ap (λ (l : List ℕ). b ∷ l) (without_end-ended (c ∷ bs))

pub without_end-whole : (bs : List ℕ) → ((front : List ℕ) → bs ≢ front ++ 10 ∷ []) → bs ≡ without_end bs
without_end-whole [] h = refl
without_end-whole (b ∷ []) h = rw (ne_eqb b 10 (λ e. h [] (ap (λ (x : ℕ). x ∷ []) e))) refl
without_end-whole (b ∷ c ∷ bs) h = ap (λ (l : List ℕ). b ∷ l)
    (without_end-whole (c ∷ bs) (λ front e. h (b ∷ front) (ap (λ (l : List ℕ). b ∷ l) e)))
