-- A ring that takes an item in its midst and lets its last one fall out.
use Rattle.std.proofs.Common.{◌≡◌, ℕ, ◌+◌, ◌-◌, ◌<◌, ◌≤◌, List, [], ◌∷◌, ◌++◌, length, get_or, take, drop, refl, sym, ap}
use Rattle.std.proofs.Common.{◌∙◌, arith, append_assoc}
use Rattle.std.specs.List.{insert}
use Rattle.std.proofs.lemmas.List.Edits.{insert-append_left, insert-append_right}
use Rattle.rings.specs.Rings.{turned, straight}
use Rattle.rings.proofs.Straight.{length-turned}
use Rattle.rings.proofs.Around.{Around, around_now, insert_behind, insert_within}

module _ {X : Type 0} where
  -- the end of the first part and all of the second one take an item each
  pub pushed_round : (A B F S : List X) (o : ℕ) (v c x : X) → o ≤ length A → F ++ c ∷ [] ≡ v ∷ drop o A → S ++ x ∷ [] ≡ c ∷ B
      → ((take o A ++ F) ++ S) ++ x ∷ [] ≡ insert (A ++ B) o v
  pushed_round A B F S o v c x le first second =
      append_assoc (take o A ++ F) S (x ∷ [])
      ∙ ap (λ ys. (take o A ++ F) ++ ys) second
      ∙ append_assoc (take o A) F (c ∷ B)
      ∙ ap (λ ys. take o A ++ ys) (sym (append_assoc F (c ∷ []) B))
      ∙ ap (λ ys. take o A ++ (ys ++ B)) first
      ∙ sym (append_assoc (take o A) (v ∷ drop o A) B)
      ∙ sym (insert-append_left A B o v le)

  -- the end of the second part alone takes one
  pub pushed_behind : (A B S : List X) (o : ℕ) (v x : X) → length A ≤ o → S ++ x ∷ [] ≡ v ∷ drop (o - length A) B
      → (A ++ (take (o - length A) B ++ S)) ++ x ∷ [] ≡ insert (A ++ B) o v
  pushed_behind A B S o v x le pushed =
      append_assoc A (take (o - length A) B ++ S) (x ∷ [])
      ∙ ap (λ ys. A ++ ys) (append_assoc (take (o - length A) B) S (x ∷ []) ∙ ap (λ ys. take (o - length A) B ++ ys) pushed)
      ∙ sym (insert-append_right A B (length A) o v refl le)

  -- what one ring takes, and what falls out of it, as the list sees it
  pub straight_pushed : (n : ℕ) (starts : List ℕ) (xs ring : List X) (k p m o : ℕ) (v x : X) → Around n starts xs k p m → o < n
      → length ring ≡ length (take m (drop p xs))
      → turned (get_or starts k 0) ring ++ x ∷ [] ≡ insert (turned (get_or starts k 0) (take m (drop p xs))) o v
      → insert (straight n starts (take p xs ++ (ring ++ drop m (drop p xs)))) (p + n) x ≡ insert (straight n starts xs) (p + o) v
  straight_pushed n starts xs ring k p m o v x a inside same pushed =
      let s = get_or starts k 0 in
      let was = turned s (take m (drop p xs)) in
      let many : length was ≡ n = length-turned s (take m (drop p xs)) ∙ a.full in
      (λ t. insert (a.with_ring ring (same ∙ a.full) t) (p + n) x)
      ∙ insert_behind a.before (turned s ring) a.behind p n x a.place (length-turned s ring ∙ same ∙ a.full)
      ∙ ap (λ ys. a.before ++ (ys ++ a.behind)) pushed
      ∙ sym (insert_within a.before was a.behind p o v a.place (omega (arith, many, inside)))
      ∙ ap (λ ys. insert ys (p + o) v) (sym (around_now n starts xs k p m a))
