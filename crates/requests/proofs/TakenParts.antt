-- Lists of JSON, put together from what is taken of them one after another.
use Rattle.std.proofs.Common.{◌≡◌, ℕ, suc, ◌-◌, ◌<◌, ◌≤◌, Bool, List, [], ◌∷◌, length, Some, None, option_and_then, option_map}
use Rattle.std.proofs.Common.{IsUtf8, Ok, refl, ap, ◌∙◌, arith}
use Rattle.json.specs.Token.{Token}
use Rattle.json.specs.Json as json
use Rattle.json.specs.Json.{Json, after_end_array, if_last, items, parse_map, read_key, value}
use Rattle.json.specs.Lex as lex
use Rattle.json.proofs.Grammar.{items_end, items_more, left, members_end}
use Rattle.json.proofs.Grammar.{skip_value-shorter, value-begin_array, value-begin_object, value_is}
use Rattle.serde_json.specs.Data.{Data, Items, Num, array, boolean, null, no_items, no_members, item, number, object, string}
use Rattle.serde_json.specs.Read.{number_of, of_json, read}
use Rattle.wire.specs.Forms.{json_form}
use Rattle.wire.proofs.JsonTexts.{json_form-read}
use Rattle.requests.specs.Taken.{ArePartsOf, IsReadAs}

-- what a value begins with doesn't end a list
goes_on : (depth : ℕ) (tokens rest : List Token) (j : Json) → value depth tokens ≡ Some (j, rest) → after_end_array tokens ≡ None
goes_on depth [] rest j e = refl
goes_on depth (Token.begin_object ∷ ts) rest j e = refl
goes_on depth (Token.end_object ∷ ts) rest j e = refl
goes_on depth (Token.begin_array ∷ ts) rest j e = refl
goes_on depth (Token.end_array ∷ ts) rest j e = let none = value_is depth (Token.end_array ∷ ts) in absurd (cc)
goes_on depth (Token.key s ∷ ts) rest j e = refl
goes_on depth (Token.string s ∷ ts) rest j e = refl
goes_on depth (Token.number s ∷ ts) rest j e = refl
goes_on depth (Token.boolean b ∷ ts) rest j e = refl
goes_on depth (Token.null ∷ ts) rest j e = refl
goes_on depth (Token.bad ∷ ts) rest j e = refl

module _ (levels : ℕ) where
  -- no part is left
  pub no_part : (tokens rest : List Token) → after_end_array tokens ≡ Some rest → ArePartsOf levels tokens no_items rest
  no_part tokens rest ends = (json.no_items, refl, λ depth n deep enough. items_end (value depth) n tokens rest enough ends)

  -- one part more in front of the others
  pub one_part : (tokens next rest : List Token) (d : Data) (ds : Items) → IsReadAs levels tokens d next
      → ArePartsOf levels next ds rest → ArePartsOf levels tokens (item d ds) rest
  one_part tokens next rest d ds first others = (
    json.item first.0 others.0,
    rw (first.1, others.1),
    λ depth n deep enough.
        let e = first.2 depth deep in
        let less = skip_value-shorter depth tokens next (ap left e) in
        items_more (value depth) n tokens next first.0 (omega arith) (goes_on depth tokens next first.0 e) e
        ∙ ap (parse_map (json.item first.0)) (others.2 depth (n - 1) deep (omega arith)),
  )

  -- parts behind the bracket that begins their list
  pub all_parts : (tokens inner rest : List Token) (ds : Items) → tokens ≡ Token.begin_array ∷ inner → ArePartsOf levels inner ds rest
      → IsReadAs (suc levels) tokens (array ds) rest
  all_parts tokens inner rest ds opened parts = (
    json.array parts.0,
    ap (option_map array) parts.1,
    λ depth deep. ap (value depth) opened ∙ value-begin_array depth inner (omega arith)
        ∙ ap (parse_map json.array) (parts.2 (depth - 1) (length inner) (omega arith) (omega arith)),
  )

-- what is read at fewer levels is read at more
pub deeper : (few many : ℕ) (tokens rest : List Token) (d : Data) → few ≤ many → IsReadAs few tokens d rest → IsReadAs many tokens d rest
deeper few many tokens rest d more read = (read.0, read.1, λ depth deep. read.2 depth (omega arith))

-- a value takes a token at least
pub takes_some : (levels : ℕ) (tokens rest : List Token) (d : Data) → IsReadAs levels tokens d rest → length rest < length tokens
takes_some levels tokens rest d read = skip_value-shorter levels tokens rest (ap left (read.2 levels (omega arith)))

-- an empty object
pub empty_object : (ts a rest : List Token) → ts ≡ Token.begin_object ∷ a → read_key a ≡ Some (None, rest)
    → IsReadAs 1 ts (object no_members) rest
empty_object ts a rest opened over = (
  json.object json.no_members,
  refl,
  λ depth deep. ap (value depth) opened ∙ value-begin_object depth a (omega arith)
      ∙ ap (parse_map json.object) (members_end (value (depth - 1)) (length a) a rest (omega arith) over),
)

module _ (levels : ℕ) where
  pub two_parts : (ts a b c rest : List Token) (x y : Data) → ts ≡ Token.begin_array ∷ a → IsReadAs levels a x b → IsReadAs levels b y c
      → after_end_array c ≡ Some rest → IsReadAs (suc levels) ts (array (item x (item y no_items))) rest
  two_parts ts a b c rest x y opened first second ends =
      all_parts levels ts a rest _ opened
      (one_part levels a b rest x _ first (one_part levels b c rest y _ second (no_part levels c rest ends)))

  pub three_parts : (ts a b c e rest : List Token) (x y z : Data) → ts ≡ Token.begin_array ∷ a → IsReadAs levels a x b
      → IsReadAs levels b y c → IsReadAs levels c z e → after_end_array e ≡ Some rest
      → IsReadAs (suc levels) ts (array (item x (item y (item z no_items)))) rest
  three_parts ts a b c e rest x y z opened first second third ends =
      all_parts levels ts a rest _ opened
      (one_part levels a b rest x _ first
      (one_part levels b c rest y _ second (one_part levels c e rest z _ third (no_part levels e rest ends))))

  pub four_parts : (ts a b c e f rest : List Token) (x y z w : Data) → ts ≡ Token.begin_array ∷ a → IsReadAs levels a x b
      → IsReadAs levels b y c → IsReadAs levels c z e → IsReadAs levels e w f → after_end_array f ≡ Some rest
      → IsReadAs (suc levels) ts (array (item x (item y (item z (item w no_items))))) rest
  four_parts ts a b c e f rest x y z w opened first second third fourth ends =
      all_parts levels ts a rest _ opened
      (one_part levels a b rest x _ first
      (one_part levels b c rest y _ second
      (one_part levels c e rest z _ third (one_part levels e f rest w _ fourth (no_part levels f rest ends)))))

-- a text whose tokens are this JSON and no more
pub text_of : (levels : ℕ) (text : List ℕ) (d : Data) → levels ≤ 127 → IsReadAs levels (lex.tokens text) d [] → read text ≡ Some d
text_of levels text d shallow taken =
    ap (λ o. option_and_then of_json (option_and_then (λ (p : Json × List Token). if_last p.0 p.1) o)) (taken.2 127 shallow) ∙ taken.1

-- a line whose tokens are this JSON and no more, as JSON
pub line_of : (levels : ℕ) (text : List ℕ) (d : Data) → levels ≤ 127 → IsUtf8 text → IsReadAs levels (lex.tokens text) d []
    → json_form text ≡ Ok d
line_of levels text d shallow utf8 taken = json_form-read text d utf8 (text_of levels text d shallow taken)

-- ---- single tokens

module _ (tokens rest : List Token) where
  pub text_is_read : (s : List ℕ) → tokens ≡ Token.string s ∷ rest → IsReadAs 0 tokens (string s) rest
  text_is_read s e = (json.string s, refl, λ depth deep. ap (value depth) e ∙ value_is depth (Token.string s ∷ rest))

  pub number_is_read : (s : List ℕ) (n : Num) → tokens ≡ Token.number s ∷ rest → number_of s ≡ Some n
      → IsReadAs 0 tokens (number n) rest
  number_is_read s n e is =
      (json.number s, ap (option_map number) is, λ depth deep. ap (value depth) e ∙ value_is depth (Token.number s ∷ rest))

  pub truth_is_read : (b : Bool) → tokens ≡ Token.boolean b ∷ rest → IsReadAs 0 tokens (boolean b) rest
  truth_is_read b e = (json.boolean b, refl, λ depth deep. ap (value depth) e ∙ value_is depth (Token.boolean b ∷ rest))

  pub null_is_read : tokens ≡ Token.null ∷ rest → IsReadAs 0 tokens null rest
  null_is_read e = (json.null, refl, λ depth deep. ap (value depth) e ∙ value_is depth (Token.null ∷ rest))
