-- A history that is kept oldest first: its positions, and one more entry.
use Rattle.std.proofs.Common.{◌≡◌, refl, sym, ap, ◌∙◌, ℕ, zero, suc, Bool, true, false, cond, ◌==◌, List, [], ◌∷◌, ◌++◌, map, reverse}
use Rattle.std.proofs.Common.{length, arith, Some, None, slice_get}
use Rattle.std.specs.Option.{option_map}
use Rattle.std.proofs.lemmas.Bool.{eq-eqb, eqb-true, eqb-false, ne_eqb}
use Rattle.std.proofs.lemmas.List.{map-append, reverse-append, length-reverse, length-map}
use Rattle.std.proofs.lemmas.Option.{slice_get-map}
use Rattle.ids.specs.declared.id.OpId.{OpId}
use Rattle.semantics.specs.Entries.{Entry as TheEntry, entry_at, stamped_in}
use Rattle.operation.specs.declared.command.Entry.{Entry}
use Rattle.operation.specs.declared.command.Entry.TheVariants.{Own, Peer}
use Rattle.operation.specs.Ops.{entry_of}
use Rattle.oplog.specs.Logs.{history}

pub reverse-twice : {X : Type 0} (xs : List X) → reverse (reverse xs) ≡ xs
reverse-twice [] = refl
reverse-twice (x ∷ xs) = ap reverse (reverse-append (x ∷ []) xs) ∙ reverse-append (reverse xs) (x ∷ []) ∙ ap (λ l. x ∷ l) (reverse-twice xs)

suc-eqb : (m n : ℕ) → (suc m == suc n) ≡ (m == n)
suc-eqb m n = at_test (m == n) refl
  where
    at_test : (b : Bool) → (m == n) ≡ b → (suc m == suc n) ≡ (m == n)
    at_test true e = eq-eqb (suc m) (suc n) (ap suc (eqb-true m n e)) ∙ sym e
    at_test false e = ne_eqb (suc m) (suc n) (λ h. eqb-false m n e (omega (arith, h))) ∙ sym e

slice_get-last : {X : Type 0} (xs : List X) (x : X) (n : ℕ) → slice_get (xs ++ x ∷ []) n ≡ cond (length xs == n) (Some x) (slice_get xs n)
slice_get-last [] x zero = refl
slice_get-last [] x (suc n) = ap (λ b. cond b (Some x) None) (sym (ne_eqb 0 (suc n) (λ h. omega (arith, h))))
slice_get-last (y ∷ ys) x zero = ap (λ b. cond b (Some x) (Some y)) (sym (ne_eqb (suc (length ys)) 0 (λ h. omega (arith, h))))
slice_get-last (y ∷ ys) x (suc n) = slice_get-last ys x n ∙ ap (λ b. cond b (Some x) (slice_get ys n)) (sym (suc-eqb (length ys) n))

entry_at-reverse : (G : List TheEntry) (n : ℕ) → entry_at n G ≡ slice_get (reverse G) n
entry_at-reverse [] n = refl
entry_at-reverse (e ∷ G) n =
    (λ t. cond (sym (length-reverse G) t == n) (Some e) (entry_at-reverse G n t))
    ∙ sym (slice_get-last (reverse G) e n)
    ∙ ap (λ l. slice_get l n) (sym (reverse-append (e ∷ []) G))

-- the entry at a position of a history
pub entry_at-history : (entries : List Entry) (n : ℕ)
    → entry_at n (history entries) ≡ option_map entry_of (slice_get entries n)
entry_at-history entries n =
    entry_at-reverse (history entries) n
    ∙ ap (λ l. slice_get l n) (reverse-twice (map entry_of entries))
    ∙ slice_get-map entry_of entries n

-- one more entry is the newest
pub history-more : (entries : List Entry) (e : Entry)
    → history (entries ++ e ∷ []) ≡ entry_of e ∷ history entries
history-more entries e = ap reverse (map-append entry_of entries (e ∷ []))
    ∙ reverse-append (map entry_of entries) (entry_of e ∷ [])

pub history-length : (entries : List Entry) → length (history entries) ≡ length entries
history-length entries = length-reverse (map entry_of entries) ∙ length-map entries entry_of

-- the id of an entry's operation
abbrev pub id_in : Entry → OpId
id_in (Own client serial command op) = op.id
id_in (Peer op) = op.id

pub same-id : (e : Entry) → (stamped_in (entry_of e)).id ≡ id_in e
same-id (Own client serial command op) = refl
same-id (Peer op) = refl
