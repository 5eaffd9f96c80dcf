-- What stands in a list that was appended to, reversed or filtered.
use Rattle.std.proofs.Common.{◌≡◌, inl, inr, Bool, true, false, cond, List, [], ◌∷◌, ◌++◌, reverse, refl, sym, ap, ◌∙◌, subst, true≢false}
use Rattle.std.specs.List.{filter, list_all}
use Rattle.std.proofs.lemmas.Bool.{and_parts}
use Rattle.std.proofs.lemmas.List.{reverse-append}
use Rattle.semantics.specs.LegalHistory.{IsAmong}
use Rattle.semantics.proofs.ItemsInTurn.{among_right, among_last}

pub among_left : {X : Type 0} (xs ys : List X) (x : X) → IsAmong x xs → IsAmong x (xs ++ ys)
among_left [] ys x m = absurd m
among_left (y ∷ xs) ys x (inl e) = inl e
among_left (y ∷ xs) ys x (inr m) = inr (among_left xs ys x m)

-- ---- reversed

pub in_reverse : {X : Type 0} (xs : List X) (x : X) → IsAmong x (reverse xs) → IsAmong x xs
in_reverse [] x m = m
in_reverse {X = X} (y ∷ xs) x m = elim
    (among_last (reverse xs) y x (subst (λ (zs : List X). IsAmong x zs) (reverse-append (y ∷ []) xs) m)) [
      | inl n ↦ inr (in_reverse xs x n)
      | inr e ↦ inl e
    ]

pub into_reverse : {X : Type 0} (xs : List X) (x : X) → IsAmong x xs → IsAmong x (reverse xs)
into_reverse [] x m = absurd m
into_reverse {X = X} (y ∷ xs) x (inl e) = subst (λ (zs : List X). IsAmong x zs) (sym (reverse-append (y ∷ []) xs))
    (among_right (reverse xs) (y ∷ []) x (inl e))
into_reverse {X = X} (y ∷ xs) x (inr m) = subst (λ (zs : List X). IsAmong x zs) (sym (reverse-append (y ∷ []) xs))
    (among_left (reverse xs) (y ∷ []) x (into_reverse xs x m))

-- ---- filtered

pub in_filter : {X : Type 0} (test : X → Bool) (xs : List X) (x : X) → IsAmong x (filter test xs) → IsAmong x xs
in_filter test [] x m = m
in_filter test (y ∷ xs) x m = at_test (in_filter test xs x) (test y) m
  where
    at_test : (IsAmong x (filter test xs) → IsAmong x xs) → (b : Bool) → IsAmong x (cond b (y ∷ filter test xs) (filter test xs))
        → IsAmong x (y ∷ xs)
    at_test rest true (inl e) = inl e
    at_test rest true (inr n) = inr (rest n)
    at_test rest false n = inr (rest n)

pub into_filter : {X : Type 0} (test : X → Bool) (xs : List X) (x : X) → IsAmong x xs → test x ≡ true → IsAmong x (filter test xs)
into_filter test [] x m e = absurd m
into_filter test (y ∷ xs) x m e = at_test (into_filter test xs x) (test y) refl m
  where
    at_test : (IsAmong x xs → test x ≡ true → IsAmong x (filter test xs)) → (b : Bool) → test y ≡ b → IsAmong x (y ∷ xs)
        → IsAmong x (cond b (y ∷ filter test xs) (filter test xs))
    at_test rest true f (inl i) = inl i
    at_test rest true f (inr n) = inr (rest n e)
    at_test rest false f (inl i) = absurd (true≢false (sym e ∙ ap test i ∙ f))
    at_test rest false f (inr n) = rest n e

pub all_pass : {X : Type 0} (test : X → Bool) (xs : List X) (x : X) → list_all test xs ≡ true → IsAmong x xs → test x ≡ true
all_pass test [] x e m = absurd m
all_pass test (y ∷ xs) x e (inl i) = ap test i ∙ (and_parts (test y) (list_all test xs) e).0
all_pass test (y ∷ xs) x e (inr m) = all_pass test xs x (and_parts (test y) (list_all test xs) e).1 m
