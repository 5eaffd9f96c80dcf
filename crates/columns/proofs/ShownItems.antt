-- Showing an item, or hiding it.
use Rattle.std.proofs.Common.{◌≡◌, refl, sym, ap, ◌∙◌, subst, ℕ, zero, suc, ◌+◌, ◌-◌, ◌<◌, Bool, true, false, true≢false, cond, ◌||◌, List}
use Rattle.std.proofs.Common.{[], ◌∷◌, ◌++◌, length, map, set, Some, slice_get, arith, length-append}
use Rattle.std.specs.List.{filter, items_where_true}
use Rattle.std.proofs.lemmas.List.{set-append_left, set-append_right}
use Rattle.std.proofs.lemmas.Option.{slice_get_within, same_Some}
use Rattle.std.proofs.lemmas.Bool.{or_parts}
use Rattle.semantics.specs.Ids.{OpId, is_same_id}
use Rattle.semantics.proofs.Orders.{id_itself, ids_from_test}
use Rattle.semantics.specs.Context.{has_item}
use Rattle.semantics.proofs.Taken.{turned_ids}
use Rattle.columns.specs.Blocks.{AreApart, ListBlock, joined, joined_shown}
use Rattle.columns.proofs.Flags.{shown_append}
use Rattle.columns.proofs.InBlock.{has_at}
use Rattle.columns.proofs.Walked.{get_in, get_past}

-- what isn't there isn't among some of it either
some_lack : (p : OpId) (b : Bool) (x : OpId) (xs : List OpId) → is_same_id p x ≡ false → has_item p xs ≡ false
    → has_item p (cond b (x ∷ xs) xs) ≡ false
some_lack p true x xs e h = ap (λ t. t || has_item p xs) e ∙ h
some_lack p false x xs e h = h

shown_lack : (p : OpId) (bs : List Bool) (xs : List OpId) → has_item p xs ≡ false → has_item p (items_where_true bs xs) ≡ false
shown_lack p [] xs h = refl
shown_lack p (b ∷ bs) [] h = refl
shown_lack p (true ∷ bs) (x ∷ xs) h =
    let both = or_parts (is_same_id p x) (has_item p xs) h in some_lack p true x (items_where_true bs xs) both.0 (shown_lack p bs xs both.1)
shown_lack p (false ∷ bs) (x ∷ xs) h = shown_lack p bs xs (or_parts (is_same_id p x) (has_item p xs) h).1

filter_lack : (f : OpId → Bool) (p : OpId) (xs : List OpId) → has_item p xs ≡ false → has_item p (filter f xs) ≡ false
filter_lack f p [] h = refl
filter_lack f p (x ∷ xs) h =
    let both = or_parts (is_same_id p x) (has_item p xs) h in
    some_lack p (f x) x (filter f xs) both.0 (filter_lack f p xs both.1)

-- one item more, or not, before items that lack it
tails : (x : OpId) (xs ys : List OpId) → ◌≡◌ {A = List OpId} (x ∷ xs) (x ∷ ys) → xs ≡ ys
tails x xs ys e = cc

starts : (x : OpId) (xs ys : List OpId) → x ∷ xs ≡ ys → has_item x ys ≡ true
starts x xs ys e = ap (has_item x) (sym e) ∙ ap (λ t. t || has_item x xs) (id_itself x)

peeled : (a b : Bool) (x : OpId) (xs ys : List OpId) → has_item x xs ≡ false → has_item x ys ≡ false
    → cond a (x ∷ xs) xs ≡ cond b (x ∷ ys) ys → (a ≡ b) × (xs ≡ ys)
peeled true true x xs ys h k e = (refl, tails x xs ys e)
peeled false false x xs ys h k e = (refl, e)
peeled true false x xs ys h k e = absurd (true≢false (sym (starts x xs ys e) ∙ k))
peeled false true x xs ys h k e = absurd (true≢false (sym (starts x ys xs (sym e)) ∙ h))

-- where the shown ones are those of a test, each flag is what the test says
flags_from : (f : OpId → Bool) (bs : List Bool) (xs : List OpId) → length bs ≡ length xs → AreApart xs
    → items_where_true bs xs ≡ filter f xs → bs ≡ map f xs
flags_from f [] [] long apart e = refl
flags_from f [] (x ∷ xs) long apart e = absurd (omega (arith, long))
flags_from f (b ∷ bs) [] long apart e = absurd (omega (arith, long))
flags_from f (b ∷ bs) (x ∷ xs) long apart e =
    let parts = peeled b (f x) x (items_where_true bs xs) (filter f xs) (shown_lack x bs xs apart.0) (filter_lack f x xs apart.0)
    (first b ∙ e) in
    λ t. parts.0 t ∷ flags_from f bs xs (omega (arith, long)) apart.1 parts.1 t
  where
    first : (b : Bool) → cond b (x ∷ items_where_true bs xs) (items_where_true bs xs) ≡ items_where_true (b ∷ bs) (x ∷ xs)
    first true = refl
    first false = refl

-- and the other way
shown_by : (f : OpId → Bool) (xs : List OpId) → items_where_true (map f xs) xs ≡ filter f xs
shown_by f [] = refl
shown_by f (x ∷ xs) = first (f x) ∙ ap (λ ys. cond (f x) (x ∷ ys) ys) (shown_by f xs)
  where
    first : (b : Bool)
        → items_where_true (b ∷ map f xs) (x ∷ xs) ≡ cond b (x ∷ items_where_true (map f xs) xs) (items_where_true (map f xs) xs)
    first true = refl
    first false = refl

-- a test, with another answer for one id
abbrev changed : (OpId → Bool) → OpId → Bool → OpId → Bool
changed f a b x = cond (is_same_id x a) b (f x)

others_stay : (f : OpId → Bool) (a : OpId) (b : Bool) (xs : List OpId) → has_item a xs ≡ false → map f xs ≡ map (changed f a b) xs
others_stay f a b [] h = refl
others_stay f a b (x ∷ xs) h =
    let both = or_parts (is_same_id a x) (has_item a xs) h in
    λ t. sym (ap (λ c. cond c b (f x)) (turned_ids a x both.0)) t ∷ others_stay f a b xs both.1 t

-- one flag is set
set_one : (f : OpId → Bool) (a : OpId) (b : Bool) (xs : List OpId) (i : ℕ) → AreApart xs → slice_get xs i ≡ Some a
    → set (map f xs) i b ≡ map (changed f a b) xs
set_one f a b [] i apart is = absurd (cc is)
set_one f a b (x ∷ xs) zero apart is =
    let same = same_Some x a is in
    λ t. sym (ap (λ c. cond c b (f x)) (ap (λ y. is_same_id x y) (sym same) ∙ id_itself x)) t ∷ others_stay f a b xs
    (ap (λ y. has_item y xs) (sym same) ∙ apart.0) t
set_one f a b (x ∷ xs) (suc i) apart is =
    λ t. sym (ap (λ c. cond c b (f x)) (other (is_same_id x a) refl)) t ∷ set_one f a b xs i apart.1 is t
  where
    other : (t : Bool) → is_same_id x a ≡ t → t ≡ false
    other true e = absurd (true≢false (sym (has_at xs i a is) ∙ ap (λ y. has_item y xs) (sym (ids_from_test x a e)) ∙ apart.0))
    other false e = refl

-- the flags of all blocks
joined_flags : List ListBlock → List Bool
joined_flags [] = []
joined_flags (r ∷ runs) = r.flags ++ joined_flags runs

-- an index in a block, as one of all items
offset : List ListBlock → ℕ → ℕ → ℕ
offset [] k i = i
offset (r ∷ runs) zero i = i
offset (r ∷ runs) (suc k) i = length r.items + offset runs k i

AreLong : List ListBlock → Type 0
AreLong runs = (k : ℕ) (r : ListBlock) → slice_get runs k ≡ Some r → length r.flags ≡ length r.items

long_flags : (runs : List ListBlock) → AreLong runs → length (joined_flags runs) ≡ length (joined runs)
unfolding joined_flags AreLong
long_flags [] long = refl
long_flags (r ∷ runs) long =
    length-append r.flags (joined_flags runs) ∙ (λ t. long 0 r refl t + long_flags runs (λ k s is. long (suc k) s is) t)
    ∙ sym (length-append r.items (joined runs))

shown_is : (runs : List ListBlock) → AreLong runs → joined_shown runs ≡ items_where_true (joined_flags runs) (joined runs)
unfolding joined_flags AreLong
shown_is [] long = refl
shown_is (r ∷ runs) long =
    ap (λ xs. items_where_true r.flags r.items ++ xs) (shown_is runs (λ k s is. long (suc k) s is))
    ∙ sym (shown_append r.flags (joined_flags runs) r.items (joined runs) (long 0 r refl))

module _ (r q : ListBlock) (i : ℕ) (a : OpId) (b : Bool) (items : q.items ≡ r.items) (flags : q.flags ≡ set r.flags i b) where
  flags_set : (runs : List ListBlock) (k : ℕ) → AreLong runs → slice_get runs k ≡ Some r → i < length r.items
      → joined_flags (set runs k q) ≡ set (joined_flags runs) (offset runs k i) b
  unfolding joined_flags offset AreLong
  flags_set [] k long is inside = absurd (cc is)
  flags_set (s ∷ runs) zero long is inside =
      let same = sym (same_Some s r is) in
      let fits = long 0 s refl in
      let within : i < length s.items = subst (λ (o : ListBlock). i < length o.items) same inside in
      ap (λ xs. xs ++ joined_flags runs) (flags ∙ ap (λ (o : ListBlock). set o.flags i b) same)
      ∙ sym (set-append_left s.flags (joined_flags runs) i b (omega (arith, fits, within)))
  flags_set (s ∷ runs) (suc k) long is inside =
      let fits = long 0 s refl in
      let rest : length s.items + offset runs k i - length s.items ≡ offset runs k i = omega arith in
      ap (λ xs. s.flags ++ xs) (flags_set runs k (λ j t at. long (suc j) t at) is inside)
      ∙ sym
      (set-append_right s.flags (joined_flags runs) (length s.items) (length s.items + offset runs k i) b fits (omega arith)
      ∙ ap (λ n. s.flags ++ set (joined_flags runs) n b) rest)

  item_there : (runs : List ListBlock) (k : ℕ) → slice_get runs k ≡ Some r → slice_get r.items i ≡ Some a
      → slice_get (joined runs) (offset runs k i) ≡ Some a
  unfolding offset
  item_there [] k is there = absurd (cc is)
  item_there (s ∷ runs) zero is there =
      let same = sym (same_Some s r is) in
      let here : slice_get s.items i ≡ Some a = ap (λ (o : ListBlock). slice_get o.items i) (sym same) ∙ there in
      get_in s.items (joined runs) i (slice_get_within s.items i a here) ∙ here
  item_there (s ∷ runs) (suc k) is there =
      let rest : length s.items + offset runs k i - length s.items ≡ offset runs k i = omega arith in
      get_past s.items (joined runs) (length s.items + offset runs k i) (omega arith) ∙ ap (slice_get (joined runs)) rest
      ∙ item_there runs k is there

  -- the shown ones are those of the test with another answer
  pub shown_changed : (runs : List ListBlock) (k : ℕ) (f : OpId → Bool)
      → ((j : ℕ) (s : ListBlock) → slice_get runs j ≡ Some s → length s.flags ≡ length s.items)
      → ((j : ℕ) (s : ListBlock) → slice_get (set runs k q) j ≡ Some s → length s.flags ≡ length s.items)
      → AreApart (joined runs) → joined (set runs k q) ≡ joined runs → slice_get runs k ≡ Some r → slice_get r.items i ≡ Some a
      → joined_shown runs ≡ filter f (joined runs)
      → joined_shown (set runs k q) ≡ filter (λ x. cond (is_same_id x a) b (f x)) (joined runs)
  unfolding AreLong
  shown_changed runs k f long long_set apart same is there shown =
      let before : joined_flags runs
      ≡ map f (joined runs) = flags_from f (joined_flags runs) (joined runs) (long_flags runs long) apart
      (sym (shown_is runs long) ∙ shown) in
      let after : joined_flags (set runs k q) ≡ map (changed f a b) (joined runs) =
      flags_set runs k long is (slice_get_within r.items i a there) ∙ ap (λ bs. set bs (offset runs k i) b) before
      ∙ set_one f a b (joined runs) (offset runs k i) apart (item_there runs k is there) in
      shown_is (set runs k q) long_set ∙ (λ t. items_where_true (after t) (same t)) ∙ shown_by (changed f a b) (joined runs)

-- an item that isn't there doesn't matter
pub filter_lacking : (f : OpId → Bool) (id : OpId) (b : Bool) (xs : List OpId) → has_item id xs ≡ false
    → filter f xs ≡ filter (λ a. cond (is_same_id a id) b (f a)) xs
filter_lacking f id b [] h = refl
filter_lacking f id b (x ∷ xs) h =
    let parts = or_parts (is_same_id id x) (has_item id xs) h in
    let rest = filter_lacking f id b xs parts.1 in
    let same : f x ≡ cond (is_same_id x id) b (f x) = sym (ap (λ c. cond c b (f x)) (turned_ids id x parts.0)) in
    λ k. cond (same k) (x ∷ rest k) (rest k)
