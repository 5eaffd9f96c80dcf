-- The positions of what is missing before a position, and the operations there.
use Rattle.std.proofs.Common.{◌≡◌, ◌<◌, ◌≤◌, ℕ, Bool, true, false, cond, nat_lt, List, [], ◌∷◌, ◌++◌, length, map, reverse, refl, sym}
use Rattle.std.proofs.Common.{ap, ◌∙◌, arith, append-nil, Option, Some, None, subst}
use Rattle.std.specs.Prelude.{option_map}
use Rattle.std.specs.List.{filter}
use Rattle.std.proofs.lemmas.Bool.{lt-ltb, le-ltb, ltb-true, ltb-false}
use Rattle.std.proofs.lemmas.List.Elements.{filter-append}
use Rattle.semantics.specs.Vectors.{Vector, covers}
use Rattle.semantics.specs.Stamped.{Stamped}
use Rattle.semantics.specs.Entries.{Entry, entry_at, first_entries, missing, stamped_entries, stamped_in}
use Rattle.semantics.proofs.Beginnings.{begins_first, entry_in_longer}
use Rattle.oplog.specs.Logs.{missing_positions}
use Rattle.oplog.proofs.Missing.{positions-read}
use Rattle.document.proofs.MissingOps.{found, found_all}

-- those before a position
abbrev pub before : ℕ → List ℕ → List ℕ
before n positions = filter (λ p. nat_lt p n) positions

-- the position of an entry that is missing
abbrev last : Bool → ℕ → List ℕ
last covered n = cond covered [] (n ∷ [])

last_below : (covered : Bool) (m n : ℕ) → m < n → before n (last covered m) ≡ last covered m
last_below true m n l = refl
last_below false m n l = ap (λ b. cond b (m ∷ []) []) (lt-ltb m n l)

last_above : (covered : Bool) (m n : ℕ) → n ≤ m → before n (last covered m) ≡ []
last_above true m n l = refl
last_above false m n l = ap (λ b. cond b (m ∷ []) []) (le-ltb m n l)

all_below : (v : Vector) (G : List Entry) (n : ℕ) → length G ≤ n → before n (missing_positions v G) ≡ missing_positions v G
all_below v [] n h = refl
all_below v (e ∷ G) n h =
    let t = covers v (stamped_in e).id in
    filter-append (λ p. nat_lt p n) (missing_positions v G) (last t (length G))
    ∙ (λ i. all_below v G n (omega (arith, h)) i ++ last_below t (length G) n (omega (arith, h)) i)

-- they are those of the first entries
pub first_before : (v : Vector) (G : List Entry) (n : ℕ) → before n (missing_positions v G) ≡ missing_positions v (first_entries n G)
first_before v [] n = refl
first_before v (e ∷ G) n = at_test (first_before v G n) (nat_lt (length G) n) refl
  where
    at_test : before n (missing_positions v G) ≡ missing_positions v (first_entries n G) → (b : Bool) → nat_lt (length G) n ≡ b
        → before n (missing_positions v (e ∷ G)) ≡ missing_positions v (cond b (e ∷ G) (first_entries n G))
    at_test rest true t = let l : length G < n = ltb-true (length G) n t in all_below v (e ∷ G) n (omega (arith, l))
    at_test rest false t =
        let l : n ≤ length G = ltb-false (length G) n t in
        let c = covers v (stamped_in e).id in
        filter-append (λ p. nat_lt p n) (missing_positions v G) (last c (length G))
        ∙ (λ i. before n (missing_positions v G) ++ last_above c (length G) n l i)
        ∙ append-nil (before n (missing_positions v G))
        ∙ rest

head_is : {X : Type 0} (x y : X) (xs ys : List X) → ◌≡◌ {A = List X} (x ∷ xs) (y ∷ ys) → x ≡ y
head_is x y xs ys e = cc

tail_is : {X : Type 0} (x y : X) (xs ys : List X) → ◌≡◌ {A = List X} (x ∷ xs) (y ∷ ys) → xs ≡ ys
tail_is x y xs ys e = cc

-- what is read at each of these positions is read by whatever reads it there
same_reads : {X : Type 0} (f g : ℕ → Option X) → ((p : ℕ) (x : X) → f p ≡ Some x → g p ≡ Some x) → (ps : List ℕ) (xs : List X)
    → map f ps ≡ map Some xs → map g ps ≡ map Some xs
same_reads f g more [] [] e = refl
same_reads f g more [] (x ∷ xs) e = absurd (cc)
same_reads f g more (p ∷ ps) [] e = absurd (cc)
same_reads f g more (p ∷ ps) (x ∷ xs) e =
    λ i. more p x (head_is (f p) (Some x) (map f ps) (map Some xs) e) i
    ∷ same_reads f g more ps xs (tail_is (f p) (Some x) (map f ps) (map Some xs) e) i

-- the operations there
pub found_before : (v : Vector) (G : List Entry) (n : ℕ)
    → found G (before n (missing_positions v G)) ≡ reverse (missing v (stamped_entries (first_entries n G)))
found_before v G n =
    let F : List Entry = first_entries n G in
    let b = begins_first n G in
    ap (found G) (first_before v G n)
    ∙ found_all G (missing_positions v F) (reverse (missing v (stamped_entries F)))
    (same_reads (λ p. option_map stamped_in (entry_at p F)) (λ p. option_map stamped_in (entry_at p G))
    (λ p s e. read p s (entry_at p F) refl e) (missing_positions v F) (reverse (missing v (stamped_entries F))) (positions-read v F))
  where
    read : (p : ℕ) (s : Stamped) (o : Option Entry) → entry_at p (first_entries n G) ≡ o → option_map stamped_in o ≡ Some s
        → option_map stamped_in (entry_at p G) ≡ Some s
    read p s None at e = absurd (cc)
    read p s (Some x) at e =
        let b = begins_first n G in
        ap (option_map stamped_in)
        (ap (entry_at p) b.1 ∙ entry_in_longer p b.0 (first_entries n G) x at)
        ∙ e
