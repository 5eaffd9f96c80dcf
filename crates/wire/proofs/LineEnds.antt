-- Compact JSON has no line feed.
use Rattle.std.proofs.Common.{◌≡◌, ◌≢◌, ◌≤◌, ◌<◌, ◌/◌, ◌%◌, ℕ, zero, suc, Bool, true, false, cond, ◌==◌, ◌&&◌, not, List, [], ◌∷◌, ◌++◌}
use Rattle.std.proofs.Common.{inl, inr, refl, sym, subst, arith}
use Rattle.std.specs.Prelude.{decimal, pos, negsuc}
use Rattle.std.specs.Fmt.{digits, digits_onto, digit_glyph}
use Rattle.std.proofs.lemmas.Bool.{and_parts, cases_lt}
use Rattle.std.proofs.lemmas.List.Elements.{All-append, All-cons, All-nil}
use Rattle.json.specs.Print.{escape, escape_byte, quoted}
use Rattle.json.proofs.Printed.Strings.{escape_byte_plain}
use Rattle.serde_json.specs.Data.{Num, unsigned, negative, float, Data, null, boolean, number, string, array, object, Items, no_items, item}
use Rattle.serde_json.specs.Data.{Members, no_members, member}
use Rattle.serde_json.specs.Written.{comma_if, compact_text, items_text, members_text, number_text}
use Rattle.wire.specs.Lines.{HasNoEnd}

-- ---- bytes that are given

abbrev no_end : List ℕ → Bool
no_end [] = true
no_end (b ∷ bs) = not (b == 10) && no_end bs

no_end_byte : (b : ℕ) → not (b == 10) ≡ true → b ≢ 10
no_end_byte b t e = grind (arith, t, e)

HasNoEnd-from_test : (bs : List ℕ) → no_end bs ≡ true → HasNoEnd bs
HasNoEnd-from_test [] t = All-nil (λ (b : ℕ). b ≢ 10)
HasNoEnd-from_test (b ∷ bs) t =
    let p = and_parts _ _ t in
    All-cons (λ (x : ℕ). x ≢ 10) b bs (no_end_byte b p.0) (HasNoEnd-from_test bs p.1)

joined : (xs ys : List ℕ) → HasNoEnd xs → HasNoEnd ys → HasNoEnd (xs ++ ys)
joined xs ys h k = All-append (λ (b : ℕ). b ≢ 10) xs ys h k

led : (b : ℕ) (bs : List ℕ) → b ≢ 10 → HasNoEnd bs → HasNoEnd (b ∷ bs)
led b bs h k = All-cons (λ (x : ℕ). x ≢ 10) b bs h k

-- ---- numbers

digit_no_end : (d : ℕ) → digit_glyph false d ≢ 10
digit_no_end d e = elim (cases_lt d 10) [ inl l ↦ grind (arith, l, e) | inr l ↦ grind (arith, l, e) ]

either : (t : Bool) (xs ys : List ℕ) → HasNoEnd xs → HasNoEnd ys → HasNoEnd (cond t xs ys)
either true xs ys h k = h
either false xs ys h k = k

digits_onto_no_end : (k n : ℕ) (acc : List ℕ) → HasNoEnd acc → HasNoEnd (digits_onto k 10 false n acc)
digits_onto_no_end zero n acc h = h
digits_onto_no_end (suc k) n acc h =
    let ds = digit_glyph false (n % 10) ∷ acc in
    let more : HasNoEnd ds = led (digit_glyph false (n % 10)) acc (digit_no_end (n % 10)) h in
    either (n / 10 == 0) ds (digits_onto k 10 false (n / 10) ds) more (digits_onto_no_end k (n / 10) ds more)

decimal_no_end : (n : ℕ) → HasNoEnd (decimal n)
unfolding digits
decimal_no_end n = digits_onto_no_end 64 n [] (HasNoEnd-from_test [] refl)

number_no_end : (n : Num) → HasNoEnd (number_text n)
number_no_end (unsigned n) = decimal_no_end n
number_no_end (negative (pos n)) = decimal_no_end n
number_no_end (negative (negsuc n)) = led 45 (decimal (suc n)) (λ e. absurd (omega (arith, e))) (decimal_no_end (suc n))
number_no_end (float x) = HasNoEnd-from_test [] refl

-- ---- texts

-- no escape of a byte below n has a line feed
abbrev escapes_below : ℕ → Bool
escapes_below zero = true
escapes_below (suc n) = no_end (escape_byte n) && escapes_below n

below : (n : ℕ) → escapes_below n ≡ true → (x : ℕ) → x < n → no_end (escape_byte x) ≡ true
below zero t x l = absurd (omega arith)
below (suc n) t x l = let p = and_parts _ _ t in elim (cases_lt x n) [ inl less ↦ below n p.1 x less | inr most ↦ rw (same x n most l) p.0 ]
  where
    same : (y m : ℕ) → m ≤ y → y < suc m → y ≡ m
    same y m a b = omega (arith, a, b)

all_below : escapes_below 93 ≡ true
unfolding escape_byte
all_below = refl

escape_byte_no_end : (x : ℕ) → HasNoEnd (escape_byte x)
escape_byte_no_end x = elim (cases_lt x 93) [
  | inl l ↦ HasNoEnd-from_test (escape_byte x) (below 93 all_below x l)
  | inr l ↦ subst HasNoEnd (sym (escape_byte_plain x (λ e. omega (arith, l, e)) (λ e. omega (arith, l, e)) (omega (arith, l))))
      (led x [] (λ e. absurd (omega (arith, l, e))) (HasNoEnd-from_test [] refl))
]

escape_no_end : (s : List ℕ) → HasNoEnd (escape s)
escape_no_end [] = HasNoEnd-from_test [] refl
escape_no_end (x ∷ s) = joined (escape_byte x) (escape s) (escape_byte_no_end x) (escape_no_end s)

quoted_no_end : (s : List ℕ) → HasNoEnd (quoted s)
quoted_no_end s = led 34 _ (λ e. absurd (omega (arith, e)))
    (joined (escape s) (34 ∷ []) (escape_no_end s) (HasNoEnd-from_test (34 ∷ []) refl))

-- ---- values

comma_no_end : (later : Bool) → HasNoEnd (comma_if later)
comma_no_end true = HasNoEnd-from_test (44 ∷ []) refl
comma_no_end false = HasNoEnd-from_test [] refl

word_no_end : (b : Bool) → HasNoEnd (compact_text (boolean b))
word_no_end true = HasNoEnd-from_test (compact_text (boolean true)) refl
word_no_end false = HasNoEnd-from_test (compact_text (boolean false)) refl

mutual
  pub compact_no_end : (d : Data) → HasNoEnd (compact_text d)
  compact_no_end null = HasNoEnd-from_test (compact_text null) refl
  compact_no_end (boolean b) = word_no_end b
  compact_no_end (number n) = number_no_end n
  compact_no_end (string s) = quoted_no_end s
  compact_no_end (array ds) = led 91 (items_text false ds) (λ e. absurd (omega (arith, e))) (items_no_end false ds)
  compact_no_end (object ms) = led 123 (members_text false ms) (λ e. absurd (omega (arith, e))) (members_no_end false ms)

  items_no_end : (later : Bool) (ds : Items) → HasNoEnd (items_text later ds)
  items_no_end later no_items = HasNoEnd-from_test (93 ∷ []) refl
  items_no_end later (item d ds) = joined (comma_if later) _ (comma_no_end later)
      (joined (compact_text d) (items_text true ds) (compact_no_end d) (items_no_end true ds))

  members_no_end : (later : Bool) (ms : Members) → HasNoEnd (members_text later ms)
  members_no_end later no_members = HasNoEnd-from_test (125 ∷ []) refl
  members_no_end later (member k d ms) =
      joined (comma_if later) _ (comma_no_end later)
      (joined (quoted k) _ (quoted_no_end k)
      (led 58 _ (λ e. absurd (omega (arith, e)))
      (joined (compact_text d) (members_text true ms) (compact_no_end d) (members_no_end true ms))))
