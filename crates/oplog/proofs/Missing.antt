-- What a vector doesn't cover, by the positions of each replica and by the rules.
use Rattle.std.proofs.Common.{◌≡◌, refl, sym, ap, ◌∙◌, ℕ, zero, suc, ◌+◌, ◌<◌, ◌≤◌, ◌==◌, ◌||◌, not, Bool, true, false, cond, nat_lt}
use Rattle.std.proofs.Common.{nat_le, IsTrue, Less, Equal, Greater, List, [], ◌∷◌, ◌++◌, map, reverse, length, get_or, drop, subst, arith}
use Rattle.std.proofs.Common.{Option, Some, None}
use Rattle.std.specs.Option.{option_map}
use Rattle.std.specs.Ordering.{is_eq}
use Rattle.std.specs.List.{filter}
use Rattle.std.specs.List.Sorted.{IsPermutation, IsSorted}
use Rattle.std.specs.Ordering.{nat_cmp}
use Rattle.std.specs.FinMap.{find, put}
use Rattle.std.specs.FinMap.Entries.{by_order}
use Rattle.std.proofs.lemmas.Bool.Decides.{nat_tests}
use Rattle.std.proofs.lemmas.List.{append-nil, map-append, reverse-append}
use Rattle.std.proofs.lemmas.Bool.{eq-eqb, eqb-true, eqb-false}
use Rattle.ids.specs.declared.id.OpId.{OpId}
use Rattle.ids.specs.Members.{AreDistinct, is_member}
use Rattle.semantics.specs.Ids.{id_cmp}
use Rattle.semantics.specs.Vectors.{Vector, at, covers}
use Rattle.semantics.specs.Stamped.{Stamped}
use Rattle.semantics.specs.Entries.{Entry as TheEntry, entry_at, missing, stamped_in, stamped_entries}
use Rattle.columns.specs.Numbered.{Numbered}
use Rattle.oplog.specs.Logs.{AreOfMembers, HaveOwnIds, missing_positions, numbers_above, numbers_of, position_of, positions_by}
use Rattle.oplog.proofs.Positions.{all_others, positions_by-find, positions_by-other, positions_by-own}
use Rattle.ids.proofs.Rising.{AreTo, Rises, count, count-append, count-permutation, rises-last, rises-sorted, same_rising}

above-not : (x c : ℕ) → nat_lt x c ≡ not (nat_le c x)
above-not x c = grind (arith, nat_tests)

-- the numbers of the ids above a counter
abbrev pub above : ℕ → List (OpId × ℕ) → List ℕ
above c es = map (λ e. e.1) (filter (λ e. nat_lt c e.0.counter) es)

-- what is above in the columns from a position on
pub next-above : (cs : List ℕ) (ns : List (Numbered OpId)) (i : ℕ) (d : Numbered OpId) → length cs ≡ length ns → i < length ns
    → numbers_above (drop i cs) (numbers_of (drop i ns))
    ≡ above (get_or cs i 0) (get_or ns i d).entries ++ numbers_above (drop (suc i) cs) (numbers_of (drop (suc i) ns))
next-above [] [] i d same inside = absurd (omega arith)
next-above [] (n ∷ ns) i d same inside = absurd (omega arith)
next-above (c ∷ cs) [] i d same inside = absurd (omega arith)
next-above (c ∷ cs) (n ∷ ns) zero d same inside = refl
next-above (c ∷ cs) (n ∷ ns) (suc i) d same inside = next-above cs ns i d (omega arith) (omega arith)

-- how often n stands at an entry, where its counter is above c
abbrev counted : ℕ → ℕ → OpId → ℕ → ℕ
counted n c a v = cond (nat_lt c a.counter) (cond (n == v) 1 0) 0

-- one entry in front
count-front : (n c : ℕ) (e : OpId × ℕ) (es : List (OpId × ℕ)) → count n (above c (e ∷ es)) ≡ counted n c e.0 e.1 + count n (above c es)
count-front n c e es = at_test (nat_lt c e.0.counter)
  where
    at_test : (b : Bool)
        → count n (map (λ f. f.1) (cond b (e ∷ filter (λ f. nat_lt c f.0.counter) es) (filter (λ f. nat_lt c f.0.counter) es)))
        ≡ cond b (cond (n == e.1) 1 0) 0 + count n (above c es)
    at_test true = refl
    at_test false = omega arith

-- one entry that is put where its id wasn't
count-put : (n c v : ℕ) (a : OpId) (es : List (OpId × ℕ)) → find id_cmp a es ≡ None
    → count n (above c (put id_cmp a v es)) ≡ counted n c a v + count n (above c es)
count-put n c v a [] absent = count-front n c (a, v) []
count-put n c v a (e ∷ es) absent =
    elim (id_cmp a e.0) as
    (λ r. cond (is_eq r) (Some e.1) (find id_cmp a es) ≡ None
    → count n (above c (by_order r ((a, v) ∷ e ∷ es) ((e.0, v) ∷ es) (e ∷ put id_cmp a v es)))
    ≡ counted n c a v + count n (above c (e ∷ es))) [
      | Less ↦ λ none. count-front n c (a, v) (e ∷ es)
      | Equal ↦ λ none. cc
      | Greater ↦ λ none. (
          let rest = count-put n c v a es none in
          let new = count-front n c e (put id_cmp a v es) in
          let old = count-front n c e es in
          omega arith)
    ] absent

-- one more entry, whose id is new and whose replica is in the table
count-more : (n : ℕ) (f : ℕ → ℕ) (G : List TheEntry) (x : TheEntry) (ps : List ℕ) → AreDistinct ps
    → IsTrue (is_member ps (stamped_in x).id.replica) → position_of (stamped_in x).id G ≡ None
    → count n (numbers_above (map f ps) (map (λ p. positions_by p (x ∷ G)) ps))
    ≡ counted n (f (stamped_in x).id.replica) (stamped_in x).id (length G) + count n
    (numbers_above (map f ps) (map (λ p. positions_by p G) ps))
count-more n f G x [] distinct member new = cc
count-more n f G x (p ∷ ps) distinct member new = at_test (p == (stamped_in x).id.replica) refl member
    (λ m. count-more n f G x ps distinct.1 m new)
  where
    id : OpId
    id = (stamped_in x).id

    with_x : List ℕ
    with_x = numbers_above (map f ps) (map (λ q. positions_by q (x ∷ G)) ps)

    without_x : List ℕ
    without_x = numbers_above (map f ps) (map (λ q. positions_by q G) ps)

    split_x : count n (above (f p) (positions_by p (x ∷ G)) ++ with_x) ≡ count n (above (f p) (positions_by p (x ∷ G))) + count n with_x
    split_x = count-append n (above (f p) (positions_by p (x ∷ G))) with_x

    split : count n (above (f p) (positions_by p G) ++ without_x) ≡ count n (above (f p) (positions_by p G)) + count n without_x
    split = count-append n (above (f p) (positions_by p G)) without_x

    Claim : Type 0
    Claim = count n (above (f p) (positions_by p (x ∷ G)) ++ with_x)
        ≡ counted n (f id.replica) id (length G) + count n (above (f p) (positions_by p G) ++ without_x)

    at_test : (b : Bool) → (p == id.replica) ≡ b → (b || is_member ps id.replica) ≡ true
        → (IsTrue (is_member ps id.replica) → count n with_x ≡ counted n (f id.replica) id (length G) + count n without_x) → Claim
    at_test true e m rest =
        let own : p ≡ id.replica = eqb-true p id.replica e in
        let here : count n (above (f p) (positions_by p (x ∷ G)))
        ≡ counted n (f id.replica) id (length G) + count n (above (f p) (positions_by p G)) =
        ap (λ es. count n (above (f p) es)) (positions_by-own p G x (sym own))
        ∙ count-put n (f p) (length G) id (positions_by p G) (positions_by-find p G id (sym own) ∙ new)
        ∙ ap (λ q. counted n (f q) id (length G) + count n (above (f p) (positions_by p G))) own in
        let others : count n with_x
        ≡ count n without_x = ap (λ ms. count n (numbers_above (map f ps) ms))
        (all_others G x ps (λ m. distinct.0 (ap (is_member ps) own ∙ m))) in
        omega (arith, split_x, split, here, others)
    at_test false e m rest =
        let here : count n (above (f p) (positions_by p (x ∷ G))) ≡ count n (above (f p) (positions_by p G)) =
        ap (λ es. count n (above (f p) es)) (positions_by-other p G x (λ same. eqb-false p id.replica e (sym same))) in
        let others = rest m in
        omega (arith, split_x, split, here, others)

-- no entry, and so nothing above
count-none : (n : ℕ) (f : ℕ → ℕ) (ps : List ℕ) → count n (numbers_above (map f ps) (map (λ p. positions_by p []) ps)) ≡ 0
count-none n f [] = refl
count-none n f (p ∷ ps) = count-none n f ps

-- each position is missing as often as its id is above the counter of its replica
count-missing : (n : ℕ) (v : Vector) (G : List TheEntry) (ps : List ℕ) → AreDistinct ps → AreOfMembers ps G → HaveOwnIds G
    → count n (numbers_above (map (at v) ps) (map (λ p. positions_by p G) ps)) ≡ count n (missing_positions v G)
count-missing n v [] ps distinct members own = count-none n (at v) ps
count-missing n v (x ∷ G) ps distinct members own =
    let id = (stamped_in x).id in
    let more = count-more n (at v) G x ps distinct members.1 own.1 in
    let rest = count-missing n v G ps distinct members.0 own.0 in
    let last = count-append n (missing_positions v G) (cond (covers v id) [] (length G ∷ [])) in
    let same : counted n (at v id.replica) id (length G) ≡ count n (cond (covers v id) [] (length G ∷ [])) =
    ap (λ b. cond b (cond (n == length G) 1 0) 0) (above-not (at v id.replica) id.counter) ∙ at_test (covers v id) in
    omega (arith, more, rest, last, same)
  where
    at_test : (b : Bool) → cond (not b) (cond (n == length G) 1 0) 0 ≡ count n (cond b [] (length G ∷ []))
    at_test true = refl
    at_test false = omega arith

-- missing positions are below the length
missing-to : (v : Vector) (m : ℕ) (G : List TheEntry) → length G ≤ m → AreTo m (missing_positions v G)
missing-to v m [] le = tt
missing-to v m (x ∷ G) le = at_test (covers v (stamped_in x).id) (missing_positions v G) (missing-to v m G (omega arith))
  where
    to-last : (k : ℕ) (xs : List ℕ) → AreTo m xs → k ≤ m → AreTo m (xs ++ k ∷ [])
    to-last k [] to at_most = (at_most, tt)
    to-last k (y ∷ xs) to at_most = (to.0, to-last k xs to.1 at_most)

    at_test : (b : Bool) (xs : List ℕ) → AreTo m xs → AreTo m (xs ++ cond b [] (length G ∷ []))
    at_test true xs to = subst (AreTo m) (sym (append-nil xs)) to
    at_test false xs to = to-last (length G) xs to (omega (arith, le))

missing-rises : (v : Vector) (G : List TheEntry) → Rises (missing_positions v G)
missing-rises v [] = tt
missing-rises v (x ∷ G) = at_test (covers v (stamped_in x).id) (missing_positions v G) (missing-rises v G)
    (missing-to v (length G) G (omega arith))
  where
    at_test : (b : Bool) (xs : List ℕ) → Rises xs → AreTo (length G) xs → Rises (xs ++ cond b [] (length G ∷ []))
    at_test true xs rises to = subst Rises (sym (append-nil xs)) rises
    at_test false xs rises to = rises-last (length G) xs rises to

-- the positions above the counters, sorted, are those that are missing
pub sorted-missing : (ps : List ℕ) (v : Vector) (G : List TheEntry) (xs : List ℕ) → AreDistinct ps → AreOfMembers ps G → HaveOwnIds G
    → IsPermutation (numbers_above (map (at v) ps) (map (λ p. positions_by p G) ps)) xs → IsSorted nat_cmp xs → xs ≡ missing_positions v G
sorted-missing ps v G xs distinct members own moved sorted =
    same_rising xs (missing_positions v G) (rises-sorted xs sorted) (missing-rises v G)
    (λ n. count-permutation n (numbers_above (map (at v) ps) (map (λ p. positions_by p G) ps)) xs moved
    ∙ count-missing n v G ps distinct members own)

-- what reads the positions of a history reads at the missing ones what is missing
read_missing : (v : Vector) (G : List TheEntry) (h : ℕ → Option Stamped)
    → ((n : ℕ) → n < length G → h n ≡ option_map stamped_in (entry_at n G))
    → map h (missing_positions v G) ≡ map Some (reverse (missing v (stamped_entries G)))
read_missing v [] h reads = refl
read_missing v (e ∷ G) h reads =
    map-append h (missing_positions v G) _
    ∙ ap (λ l. l ++ map h (cond (covers v (stamped_in e).id) [] (length G ∷ []))) (read_missing v G h before)
    ∙ at_test (covers v (stamped_in e).id)
  where
    before : (n : ℕ) → n < length G → h n ≡ option_map stamped_in (entry_at n G)
    before n lt = reads n (omega (arith, lt))
        ∙ ap (λ b. option_map stamped_in (cond b (Some e) (entry_at n G))) (other (length G == n) refl)
      where
        other : (b : Bool) → (length G == n) ≡ b → (length G == n) ≡ false
        other true same = absurd (omega (arith, lt, eqb-true (length G) n same))
        other false same = same

    newest : h (length G) ≡ Some (stamped_in e)
    newest = reads (length G) (omega arith)
        ∙ ap (λ b. option_map stamped_in (cond b (Some e) (entry_at (length G) G))) (eq-eqb (length G) (length G) refl)

    rest : List Stamped
    rest = missing v (stamped_entries G)

    at_test : (b : Bool)
        → map Some (reverse rest) ++ map h (cond b [] (length G ∷ [])) ≡ map Some (reverse (cond (not b) (stamped_in e ∷ rest) rest))
    at_test true = append-nil (map Some (reverse rest))
    at_test false =
        ap (λ o. map Some (reverse rest) ++ o ∷ []) newest
        ∙ sym (map-append Some (reverse rest) (stamped_in e ∷ []))
        ∙ ap (map Some) (sym (reverse-append (stamped_in e ∷ []) rest))

pub positions-read : (v : Vector) (G : List TheEntry)
    → map (λ n. option_map stamped_in (entry_at n G)) (missing_positions v G) ≡ map Some (reverse (missing v (stamped_entries G)))
positions-read v G = read_missing v G (λ n. option_map stamped_in (entry_at n G)) (λ n lt. refl)
