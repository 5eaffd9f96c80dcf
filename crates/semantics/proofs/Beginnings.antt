-- A history's first entries, the beginnings of a history, and what stays as a history grows from a beginning.
use Rattle.std.proofs.Common.{◌≡◌, ℕ, ◌+◌, ◌<◌, ◌≤◌, Bool, true, false, cond, nat_lt, List, [], ◌∷◌, ◌++◌, length, Some, refl, sym, ap, ◌∙◌}
use Rattle.std.proofs.Common.{subst, arith}
use Rattle.std.proofs.lemmas.Bool.{ltb-true, ltb-false}
use Rattle.std.proofs.lemmas.List.{length-append}
use Rattle.semantics.specs.Entries.{Entry, Own, Peer, entry_at, first_entries, IsAbove, IsEntryHistory}
use Rattle.semantics.specs.WorldHistory.{BeginsWith}
use Rattle.semantics.proofs.Replies.{first_stay, entry_stays, before}

-- the first entries of a history are those of a beginning of that length
pub first_of_longer : (m : ℕ) (more F : List Entry) → m ≤ length F → first_entries m (more ++ F) ≡ first_entries m F
first_of_longer m [] F h = refl
first_of_longer m (e ∷ more) F h =
    let l : m ≤ length (more ++ F) = omega (arith, length-append more F) in
    first_stay m (more ++ F) e l ∙ first_of_longer m more F h

pub begins_first : (m : ℕ) (G : List Entry) → BeginsWith G (first_entries m G)
begins_first m [] = ([], refl)
begins_first m (e ∷ G) =
    let r = begins_first m G in
    elim (nat_lt (length G) m) as
    (λ b. BeginsWith (e ∷ G)
    (cond b (e ∷ G) (first_entries m G))) [ true ↦ ([], refl) | false ↦ (e ∷ r.0, ap (λ (F : List Entry). e ∷ F) r.1) ]

pub no_shorter : (G F : List Entry) → BeginsWith G F → length F ≤ length G
no_shorter G F b = let e : length G ≡ length b.0 + length F = ap (length {A = Entry}) b.1 ∙ length-append b.0 F in omega arith

pub length-first : (m : ℕ) (G : List Entry) → m ≤ length G → length (first_entries m G) ≡ m
length-first m [] h = omega arith
length-first m (e ∷ G) h = at_test (λ l. length-first m G l) (nat_lt (length G) m) refl
  where
    at_test : (m ≤ length G → length (first_entries m G) ≡ m) → (b : Bool) → nat_lt (length G) m ≡ b
        → length (cond b (e ∷ G) (first_entries m G)) ≡ m
    at_test rest true t = (let l : length G < m = ltb-true (length G) m t in omega arith)
    at_test rest false t = rest (ltb-false (length G) m t)

pub first_begins_first : (m n : ℕ) (G : List Entry) → m ≤ n → BeginsWith (first_entries n G) (first_entries m G)
first_begins_first m n [] h = ([], refl)
first_begins_first m n (e ∷ G) h = at_test (first_begins_first m n G h) (nat_lt (length G) n) refl
  where
    at_test : BeginsWith (first_entries n G) (first_entries m G) → (b : Bool) → nat_lt (length G) n ≡ b
        → BeginsWith (cond b (e ∷ G) (first_entries n G)) (first_entries m (e ∷ G))
    at_test rest true t = begins_first m (e ∷ G)
    at_test rest false t =
        let l : n ≤ length G = ltb-false (length G) n t in
        subst (BeginsWith (first_entries n G)) (sym (first_stay m G e (omega arith))) rest

pub first_history : (p m : ℕ) (G : List Entry) → IsEntryHistory p G → IsEntryHistory p (first_entries m G)
first_history p m [] h = h
first_history p m (e ∷ G) h =
    let rest = first_history p m G (before p e G h) in
    elim (nat_lt (length G) m) as (λ b. IsEntryHistory p (cond b (e ∷ G) (first_entries m G))) [ true ↦ h | false ↦ rest ]

pub above_more : (client n m : ℕ) (G : List Entry) → n ≤ m → IsAbove client n G → IsAbove client m G
above_more client n m [] l h = h
above_more client n m (Own k j c s ∷ G) l h = (λ e. (let a : j < n = h.0 e in omega arith), above_more client n m G l h.1)
above_more client n m (Peer s ∷ G) l h = above_more client n m G l h

pub entry_in_longer : (n : ℕ) (more F : List Entry) (e : Entry) → entry_at n F ≡ Some e → entry_at n (more ++ F) ≡ Some e
entry_in_longer n [] F e h = h
entry_in_longer n (f ∷ more) F e h = entry_stays n (more ++ F) f e (entry_in_longer n more F e h)
