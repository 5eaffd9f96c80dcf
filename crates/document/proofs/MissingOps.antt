-- The operations at the positions that a log calls missing.
use Rattle.std.proofs.Common.{◌≡◌, ℕ, List, [], ◌∷◌, ◌++◌, map, Option, Some, None, refl, ap, ◌∙◌, append_assoc}
use Rattle.std.specs.Prelude.{option_map}
use Rattle.std.specs.List.{cons_option, filter_map}
use Rattle.semantics.specs.Stamped.{Stamped}
use Rattle.semantics.specs.Entries.{Entry, entry_at, stamped_in}

-- the operations at these positions, where there are any
abbrev pub found : List Entry → List ℕ → List Stamped
found G positions = filter_map (λ n. option_map stamped_in (entry_at n G)) positions

head_is : {X : Type 0} (x y : X) (xs ys : List X) → ◌≡◌ {A = List X} (x ∷ xs) (y ∷ ys) → x ≡ y
head_is x y xs ys e = cc

tail_is : {X : Type 0} (x y : X) (xs ys : List X) → ◌≡◌ {A = List X} (x ∷ xs) (y ∷ ys) → xs ≡ ys
tail_is x y xs ys e = cc

-- where each position has an operation, those are all
pub found_all : (G : List Entry) (positions : List ℕ) (xs : List Stamped)
    → map (λ n. option_map stamped_in (entry_at n G)) positions ≡ map Some xs → found G positions ≡ xs
found_all G [] [] h = refl
found_all G [] (x ∷ xs) h = cc
found_all G (n ∷ ns) [] h = cc
found_all G (n ∷ ns) (x ∷ xs) h =
    ap (λ o. cons_option o (found G ns)) (head_is _ _ _ _ h) ∙ ap (λ ys. x ∷ ys) (found_all G ns xs (tail_is _ _ _ _ h))

-- one more position
pub found_next : (G : List Entry) (n : ℕ) (positions : List ℕ) (xs : List Stamped)
    → (xs ++ cons_option (option_map stamped_in (entry_at n G)) []) ++ found G positions ≡ xs ++ found G (n ∷ positions)
found_next G n positions xs = append_assoc xs (cons_option (option_map stamped_in (entry_at n G)) []) (found G positions)
    ∙ ap (λ ys. xs ++ ys) (put (option_map stamped_in (entry_at n G)))
  where
    put : (o : Option Stamped) → cons_option o [] ++ found G positions ≡ cons_option o (found G positions)
    put None = refl
    put (Some s) = refl
