-- Compact JSON that has only whole numbers of 64 bits, and no member, is read as it was.
use Rattle.std.proofs.Common.{◌≡◌, ◌≤◌, ◌<◌, ◌^◌, ℕ, suc, max, List, [], Option, Some, inl, inr, refl, sym, ap, ap₂, ◌∙◌, append-nil, arith}
use Rattle.std.specs.Prelude.{⊤, pos, negsuc, option_and_then}
use Rattle.std.specs.Fmt.{digits, signed_decimal}
use Rattle.std.proofs.lemmas.Bool.{cases_lt}
use Rattle.json.specs.Lex.{tokens}
use Rattle.json.specs.Print.{IsNumber}
use Rattle.json.specs.Token.{Token}
use Rattle.json.specs.Word.{after_number}
use Rattle.json.specs.Json as json
use Rattle.json.specs.Tree as tree
use Rattle.json.proofs.Printed.Decimals.{IsNumber-decimal, IsNumber-signed_decimal}
use Rattle.json.proofs.Printed.Tokens.{tokens-print}
use Rattle.json.proofs.Printed.Trees.{ArePrintable-json_tokens, value-json_tokens}
use Rattle.serde_json.specs.Data.{Num, unsigned, negative, float, Data, null, boolean, number, string, array, object, Items, no_items, item}
use Rattle.serde_json.specs.Data.{no_members, member, depth, items_depth}
use Rattle.serde_json.specs.Read.{max_depth, number_of, of_json, of_items, read}
use Rattle.serde_json.specs.Written.{compact_text, items_outline, number_text, outline}
use Rattle.serde_json.proofs.Numbers.{number_of-decimal, number_of-negative}
use Rattle.serde_json.proofs.Texts.{print-outline}

-- a whole number of 64 bits
abbrev IsWhole : Num → Type 0
IsWhole (unsigned n) = n < 2 ^ 64
IsWhole (negative (pos n)) = ⊥
IsWhole (negative (negsuc n)) = n < 2 ^ 63
IsWhole (float x) = ⊥

-- each number is whole and of 64 bits, and no object has a member
abbrev mutual
  pub HasWhole : Data → Type 0
  HasWhole null = ⊤
  HasWhole (boolean b) = ⊤
  HasWhole (number n) = IsWhole n
  HasWhole (string s) = ⊤
  HasWhole (array ds) = ItemsHaveWhole ds
  HasWhole (object no_members) = ⊤
  HasWhole (object (member k d ms)) = ⊥

  pub ItemsHaveWhole : Items → Type 0
  ItemsHaveWhole no_items = ⊤
  ItemsHaveWhole (item d ds) = HasWhole d × ItemsHaveWhole ds

-- ---- numbers

-- the least number has no positive twin of 63 bits
least : IsNumber (signed_decimal (negsuc 9223372036854775807))
unfolding after_number digits
least = refl

negative_number : (n : ℕ) → n < 2 ^ 63 → IsNumber (signed_decimal (negsuc n))
negative_number n h = elim (cases_lt n 9223372036854775807) [
  | inl l ↦ IsNumber-signed_decimal (negsuc n) (omega (arith, l))
  | inr l ↦ rw (most n l h) least
]
  where
    most : (m : ℕ) → 9223372036854775807 ≤ m → m < 2 ^ 63 → m ≡ 9223372036854775807
    most m l k = omega (arith, l, k)

text_number : (n : Num) → IsWhole n → IsNumber (number_text n)
text_number (unsigned n) h = IsNumber-decimal n h
text_number (negative (pos n)) h = absurd h
text_number (negative (negsuc n)) h = negative_number n h
text_number (float x) h = absurd h

number_back : (n : Num) → IsWhole n → number_of (number_text n) ≡ Some n
number_back (unsigned n) h = number_of-decimal n h
number_back (negative (pos n)) h = absurd h
number_back (negative (negsuc n)) h = number_of-negative n h
number_back (float x) h = absurd h

-- ---- values

mutual
  numbers : (d : Data) → HasWhole d → tree.HasNumbers (outline d)
  numbers null h = tt
  numbers (boolean b) h = tt
  numbers (number n) h = text_number n h
  numbers (string s) h = tt
  numbers (array ds) h = items_numbers ds h
  numbers (object no_members) h = tt
  numbers (object (member k d ms)) h = absurd h

  items_numbers : (ds : Items) → ItemsHaveWhole ds → tree.ItemsHaveNumbers (items_outline ds)
  items_numbers no_items h = tt
  items_numbers (item d ds) h = (numbers d h.0, items_numbers ds h.1)

mutual
  back : (d : Data) → HasWhole d → of_json (outline d) ≡ Some d
  back null h = refl
  back (boolean b) h = refl
  back (number n) h = rw (number_back n h) refl
  back (string s) h = refl
  back (array ds) h = rw (items_back ds h) refl
  back (object no_members) h = refl
  back (object (member k d ms)) h = absurd h

  items_back : (ds : Items) → ItemsHaveWhole ds → of_items (items_outline ds) ≡ Some ds
  items_back no_items h = refl
  items_back (item d ds) h = rw (back d h.0, items_back ds h.1) refl

mutual
  as_deep : (d : Data) → HasWhole d → tree.depth (outline d) ≡ depth d
  as_deep null h = refl
  as_deep (boolean b) h = refl
  as_deep (number n) h = refl
  as_deep (string s) h = refl
  as_deep (array ds) h = ap suc (items_as_deep ds h)
  as_deep (object no_members) h = refl
  as_deep (object (member k d ms)) h = absurd h

  items_as_deep : (ds : Items) → ItemsHaveWhole ds → tree.items_depth (items_outline ds) ≡ items_depth ds
  items_as_deep no_items h = refl
  items_as_deep (item d ds) h = ap₂ max (as_deep d h.0) (items_as_deep ds h.1)

-- what is read of the tokens, once they are JSON
of_tokens : (d : Data) (r : Option (json.Json × List Token)) (j : json.Json) → r ≡ Some (j, []) → of_json j ≡ Some d
    → option_and_then of_json (option_and_then (λ p. json.if_last p.0 p.1) r) ≡ Some d
of_tokens d r j e h = rw e h

pub read-compact_text : (d : Data) → HasWhole d → depth d ≤ 127 → read (compact_text d) ≡ Some d
read-compact_text d h shallow =
    let j = outline d in
    let ts = tree.json_tokens j in
    let same : tokens (compact_text d) ≡ ts = ap tokens (sym (print-outline d))
    ∙ tokens-print ts (ArePrintable-json_tokens j (numbers d h)) in
    let parsed : json.value max_depth (tokens (compact_text d)) ≡ Some (j, []) =
    ap (json.value max_depth) (same ∙ sym (append-nil ts)) ∙ value-json_tokens j max_depth [] (omega (arith, as_deep d h, shallow)) in
    of_tokens d (json.value max_depth (tokens (compact_text d))) j parsed (back d h)
