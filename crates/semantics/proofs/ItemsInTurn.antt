-- The items that wait for an answer, as they are submitted, taken and published.
use Rattle.std.proofs.Common.{◌≡◌, ◌⊎◌, inl, inr, ◌<◌, List, [], ◌∷◌, ◌++◌, map, refl, sym, ap, ◌∙◌, arith, append_assoc}
use Rattle.std.proofs.lemmas.List.{map-append}
use Rattle.semantics.specs.LegalHistory.{IsAmong}
use Rattle.semantics.specs.LegalAnswer.{Submitted}
use Rattle.semantics.specs.Engine.{Handled}
use Rattle.semantics.proofs.SoundEngines.{waiting_items, IsInTurn}

pub among_cases : {X : Type 0} (xs ys : List X) (x : X) → IsAmong x (xs ++ ys) → IsAmong x xs ⊎ IsAmong x ys
among_cases [] ys x m = inr m
among_cases (y ∷ xs) ys x (inl e) = inl (inl e)
among_cases (y ∷ xs) ys x (inr m) = elim (among_cases xs ys x m) [ inl a ↦ inl (inr a) | inr b ↦ inr b ]

pub among_right : {X : Type 0} (xs ys : List X) (x : X) → IsAmong x ys → IsAmong x (xs ++ ys)
among_right [] ys x m = m
among_right (y ∷ xs) ys x m = inr (among_right xs ys x m)

-- the one that was put at the end, or one of those before
pub among_last : {X : Type 0} (xs : List X) (y x : X) → IsAmong x (xs ++ y ∷ []) → IsAmong x xs ⊎ (x ≡ y)
among_last xs y x m = elim (among_cases xs (y ∷ []) x m) [ inl a ↦ inl a | inr b ↦ elim b [ inl e ↦ inr e | inr n ↦ absurd n ] ]

-- what comes last is in turn where its serial is above those of its client
pub turns_last : (items : List Submitted) (x : Submitted) → IsInTurn items
    → ((y : Submitted) → IsAmong y items → y.client ≡ x.client → y.serial < x.serial) → IsInTurn (items ++ x ∷ [])
turns_last [] x t h = ((λ y m. absurd m), tt)
turns_last (z ∷ items) x t h = (after, turns_last items x t.1 (λ y m. h y (inr m)))
  where
    after : (y : Submitted) → IsAmong y (items ++ x ∷ []) → y.client ≡ z.client → z.serial < y.serial
    after y m e = elim (among_last items x y m) [
      | inl a ↦ t.0 y a e
      | inr q ↦ (let c : z.client ≡ x.client = sym e ∙ ap (λ (w : Submitted). w.client) q in
          let l : z.serial < x.serial = h z (inl refl) c in let n : y.serial ≡ x.serial = ap (λ (w : Submitted). w.serial) q in
          omega (arith, l, n))
    ]

pub turns_right : (items more : List Submitted) → IsInTurn (items ++ more) → IsInTurn more
turns_right [] more t = t
turns_right (x ∷ items) more t = turns_right items more t.1

-- what is in the queue waits
pub queued_waits : (due handled : List Handled) (queue : List Submitted) (x : Submitted) → IsAmong x queue
    → IsAmong x (waiting_items due handled queue)
queued_waits due handled queue x m = among_right (map (λ h. h.submitted) due) (map (λ h. h.submitted) handled ++ queue) x
    (among_right (map (λ h. h.submitted) handled) queue x m)

pub waiting-submitted : (due handled : List Handled) (queue : List Submitted) (x : Submitted)
    → waiting_items due handled (queue ++ x ∷ []) ≡ waiting_items due handled queue ++ x ∷ []
waiting-submitted due handled queue x =
    ap (λ (items : List Submitted). map (λ (h : Handled). h.submitted) due ++ items)
    (sym (append_assoc (map (λ (h : Handled). h.submitted) handled) queue (x ∷ [])))
    ∙ sym (append_assoc (map (λ (h : Handled). h.submitted) due) (map (λ (h : Handled). h.submitted) handled ++ queue) (x ∷ []))

pub waiting-taken : (due handled : List Handled) (queue : List Submitted) (h : Handled)
    → waiting_items due (handled ++ h ∷ []) queue ≡ waiting_items due handled (h.submitted ∷ queue)
waiting-taken due handled queue h = ap (λ (items : List Submitted). map (λ (g : Handled). g.submitted) due ++ items)
    (ap (λ (items : List Submitted). items ++ queue) (map-append (λ (g : Handled). g.submitted) handled (h ∷ []))
    ∙ append_assoc (map (λ (g : Handled). g.submitted) handled) (h.submitted ∷ []) queue)
