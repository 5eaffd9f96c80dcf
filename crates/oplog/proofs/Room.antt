-- How many more fit into each of several columns.
use Rattle.std.proofs.Common.{◌≡◌, ◌<◌, ◌≤◌, ◌+◌, ◌-◌, min, ℕ, zero, suc, List, [], ◌∷◌, ◌++◌, length, get_or, set, inl, inr, refl, sym, ap}
use Rattle.std.proofs.Common.{◌∙◌}
use Rattle.std.proofs.Common.{subst, arith}
use Rattle.std.proofs.Math.Seq.{map-set_same}
use Rattle.std.proofs.lemmas.Bool.{cases_lt}
use Rattle.semantics.specs.Ids.{OpId}
use Rattle.columns.specs.Numbered.{Numbered}
use Rattle.ids.specs.Tables.{Table, joined}
use Rattle.ids.proofs.Tables.{length_joined}
use Rattle.oplog.specs.Logs.{least_room, numbers_of, room_beside}

-- at most those beside the columns
pub least_room-width : (n : ℕ) (ns : List (Numbered OpId)) → least_room n ns ≤ n
least_room-width n [] = omega arith
least_room-width n (x ∷ ns) = let h = least_room-width n ns in omega arith

-- at most those of each column
pub least_room-at : (n : ℕ) (ns : List (Numbered OpId)) (i : ℕ) (d : Numbered OpId) → i < length ns → least_room n ns ≤ (get_or ns i d).room
least_room-at n [] i d h = absurd (omega arith)
least_room-at n (x ∷ ns) zero d h = omega arith
least_room-at n (x ∷ ns) (suc i) d h = let e = least_room-at n ns i d (omega arith) in omega arith

-- where each column has room, it has beside others
pub least_room-any : (n m : ℕ) (ns : List (Numbered OpId)) → 0 < least_room n ns → 0 < m → 0 < least_room m ns
least_room-any n m [] h some = some
least_room-any n m (x ∷ ns) h some = let e = least_room-any n m ns (omega arith) some in omega arith

-- more beside the columns
pub least_room-wider : (n m : ℕ) (ns : List (Numbered OpId)) → n ≤ m → least_room n ns ≤ least_room m ns
least_room-wider n m [] h = h
least_room-wider n m (x ∷ ns) h = let e = least_room-wider n m ns h in omega arith

-- one fewer beside the columns
least_room-fewer : (n : ℕ) (ns : List (Numbered OpId)) → least_room (n + 1) ns ≤ least_room n ns + 1
least_room-fewer n [] = omega arith
least_room-fewer n (x ∷ ns) = let h = least_room-fewer n ns in omega arith

-- one fewer beside the columns and in one of them
pub least_room-used : (n : ℕ) (ns : List (Numbered OpId)) (i : ℕ) (m d : Numbered OpId) → i < length ns → (get_or ns i d).room ≤ m.room + 1
    → least_room (n + 1) ns ≤ least_room n (set ns i m) + 1
least_room-used n [] i m d h used = absurd (omega arith)
least_room-used n (x ∷ ns) zero m d h used = let e = least_room-fewer n ns in omega arith
least_room-used n (x ∷ ns) (suc i) m d h used = let e = least_room-used n ns i m d (omega arith) used in omega arith

-- the same numbers in one of the columns
pub numbers-kept : (ns : List (Numbered OpId)) (i : ℕ) (m d : Numbered OpId) → d ≡ get_or ns i d → m.entries ≡ d.entries
    → numbers_of (set ns i m) ≡ numbers_of ns
numbers-kept ns i m d read same = map-set_same (λ n. n.entries) ns i m d (same ∙ ap (λ (n : Numbered OpId). n.entries) read)

-- more room in one of the columns
pub least_room-grown : (n : ℕ) (ns : List (Numbered OpId)) (i : ℕ) (m d : Numbered OpId) → d ≡ get_or ns i d → d.room ≤ m.room
    → least_room n ns ≤ least_room n (set ns i m)
least_room-grown n [] i m d read grown = omega arith
least_room-grown n (x ∷ ns) zero m d read grown = let e = ap (λ (k : Numbered OpId). k.room) read in omega arith
least_room-grown n (x ∷ ns) (suc i) m d read grown = let e = least_room-grown n ns i m d read grown in omega arith

-- where there is room, there is in the rest and in the table, and a column for a replica that joins
pub room_parts : (n : ℕ) (t : Table) (ns : List (Numbered OpId)) → 0 < room_beside n t ns
    → (0 < n) × (0 < t.room) × (length t.numbers < length ns)
room_parts n t ns room =
    let least = least_room-width (min n (min t.room (length ns - length t.numbers))) ns in
    (omega (arith, least, room), omega (arith, least, room), omega (arith, least, room))

-- no less room in the rest, the table and its columns
pub room_kept : (n m : ℕ) (t u : Table) (ns ms : List (Numbered OpId)) → n ≤ m → u.numbers ≡ t.numbers → t.room ≤ u.room
    → (length t.numbers < length ns → ms ≡ ns) → room_beside n t ns ≤ room_beside m u ms
room_kept n m t u ns ms more same room kept =
    let base = least_room-width (min n (min t.room (length ns - length t.numbers))) ns in
    let count = ap length same in
    elim (cases_lt (length t.numbers) (length ns)) [
      | inl lt ↦
          let long = ap length (kept lt) in
          let wider = least_room-wider (min n (min t.room (length ns - length t.numbers)))
          (min m (min u.room (length ms - length u.numbers))) ns (omega arith) in
          subst (λ ls. room_beside n t ns ≤ least_room (min m (min u.room (length ms - length u.numbers))) ls) (sym (kept lt)) wider
      | inr ge ↦ omega arith
    ]

-- one fewer in the rest, one replica more in the table, and one fewer in one of the columns
pub room_used : (n m : ℕ) (t u : Table) (ns ms : List (Numbered OpId)) (p : ℕ) → n ≤ m + 1 → u.numbers ≡ joined p t.numbers
    → t.room ≤ u.room + 1 → length ms ≡ length ns → ((k : ℕ) → least_room (k + 1) ns ≤ least_room k ms + 1)
    → room_beside n t ns ≤ room_beside m u ms + 1
room_used n m t u ns ms p more joins room long used =
    let count = ap length joins in
    let longer = length_joined p t.numbers in
    let old : ℕ = min n (min t.room (length ns - length t.numbers)) in
    let new : ℕ = min m (min u.room (length ms - length u.numbers)) in
    let wider = least_room-wider old (new + 1) ns (omega arith) in
    let one = used new in
    omega arith

-- ---- the column that was written to last

-- one of the columns in place of another, where each has room
pub least_room-set : (n : ℕ) (ns : List (Numbered OpId)) (i : ℕ) (m : Numbered OpId) → 0 < least_room n ns → 0 < m.room
    → 0 < least_room n (set ns i m)
least_room-set n [] i m room some = room
least_room-set n (x ∷ ns) zero m room some = omega arith
least_room-set n (x ∷ ns) (suc i) m room some = let e = least_room-set n ns i m (omega arith) some in omega arith

-- the last that is put at an index stands there
pub set_again : (ns : List (Numbered OpId)) (i : ℕ) (k m : Numbered OpId) → set (set ns i k) i m ≡ set ns i m
set_again [] i k m = refl
set_again (x ∷ ns) zero k m = refl
set_again (x ∷ ns) (suc i) k m = ap (λ ms. x ∷ ms) (set_again ns i k m)

-- one column more that has room
pub least_room-last : (n : ℕ) (ns : List (Numbered OpId)) (c : Numbered OpId) → 0 < least_room n ns → 0 < c.room
    → 0 < least_room n (ns ++ c ∷ [])
least_room-last n [] c room some = omega arith
least_room-last n (x ∷ ns) c room some = let e = least_room-last n ns c (omega arith) some in omega arith

pub least_room-behind : (n : ℕ) (ns : List (Numbered OpId)) (i : ℕ) (m c : Numbered OpId) → 0 < least_room n (set ns i m) → 0 < m.room
    → 0 < c.room
    → 0 < least_room n (set (ns ++ c ∷ []) i m)
least_room-behind n [] zero m c room some more = omega arith
least_room-behind n [] (suc i) m c room some more = omega arith
least_room-behind n (x ∷ ns) zero m c room some more = let e = least_room-last n ns c (omega arith) more in omega arith
least_room-behind n (x ∷ ns) (suc i) m c room some more = let e = least_room-behind n ns i m c (omega arith) some more in omega arith
