-- What a PATH and a KEY are in JSON, and which place they are.
use Rattle.std.specs.Prelude.{ℕ, Bool, true, false, ◌==◌, nat_lt, List, [], ◌∷◌, length, codes, Option, Some, None, Result, Ok, Err}
use Rattle.std.specs.Prelude.{if◌then◌else◌}
use Rattle.std.specs.Option.{option_map_or}
use Rattle.std.specs.Str.{bytes_eq}
use Rattle.ids.specs.declared.refusal.Refusal.{Refusal}
use Rattle.ids.specs.declared.refusal.Refusal.TheVariants.{TooDeep, KeyTooLong, BadLine}
use Rattle.semantics.specs.Limits.{most_key_bytes, most_keys}
use Rattle.semantics.specs.Elements.{Element, Doc, Field, Item, Place, At, HeadOf, Tag, AsMap, AsList}
use Rattle.serde_json.specs.Data.{Data, Items, no_items, item}
use Rattle.serde_json.specs.Find.{as_array, as_str}
use Rattle.operation.specs.cursor.Places.{LastKey, DocKey, FieldName, ItemId, HeadKey}
use Rattle.wire.specs.Forms.{and_then, count_parts, list_form, number_form, phrase_form}
use Rattle.wire.specs.OpIds.{id_of}

-- ---- keys

-- the key of a field, of at most 256 bytes
abbrev pub field_key : List ℕ → Result LastKey Refusal
field_key name = if nat_lt most_key_bytes (length name) then Err KeyTooLong else Ok (FieldName name)

-- the id of an item
abbrev pub item_key : Items → Result LastKey Refusal
item_key parts = and_then (λ a. Ok (ItemId a)) (id_of parts)

-- 0 is the root, and 1 a head
abbrev pub numbered_key : ℕ → Result LastKey Refusal
numbered_key n = if n == 0 then Ok DocKey else (if n == 1 then Ok HeadKey else Err BadLine)

-- a text is a field's key, a list an item's, and a number that of the root or a head
abbrev pub key_form : Data → Result LastKey Refusal
key_form d = option_map_or field_key (as_str d) (option_map_or item_key (as_array d) (and_then numbered_key (number_form d)))

-- ---- paths

-- a key, and the tag with which the element there is entered
pub record Entered : Type 0 where
  pub key : LastKey
  pub tag : Tag

-- one key alone
abbrev pub only_key : Items → Result LastKey Refusal
only_key (item key no_items) = key_form key
only_key _ = Err BadLine

-- the tag with which an element is entered, by its word
abbrev pub tag_form : List ℕ → Result Tag Refusal
tag_form word = if bytes_eq word (codes "m") then Ok AsMap else (if bytes_eq word (codes "l") then Ok AsList else Err BadLine)

-- a word and a key
abbrev pub entered_of : List ℕ × Items → Result Entered Refusal
entered_of p = and_then (λ t. and_then (λ k. Ok (record { key = k; tag = t })) (only_key p.1)) (tag_form p.0)

-- each part in its turn
abbrev pub parts_of : Items → Result (List Entered) Refusal
parts_of no_items = Ok []
parts_of (item part parts) = and_then
    (λ x. and_then (λ xs. Ok (x ∷ xs)) (parts_of parts)) (and_then entered_of (phrase_form part))

-- at most 32 parts
abbrev pub path_of : Items → Result (List Entered) Refusal
path_of parts = if nat_lt most_keys (count_parts parts) then Err TooDeep else parts_of parts

-- a list of parts
abbrev pub path_form : Data → Result (List Entered) Refusal
path_form d = and_then path_of (list_form d)

-- ---- places

-- the element at a key of the map or the list at e, or the root where nothing is entered
abbrev pub element_at : Element → Option Tag → LastKey → Result Element Refusal
element_at e None DocKey = Ok e
element_at e (Some AsMap) (FieldName n) = Ok (Field e n)
element_at e (Some AsList) (ItemId a) = Ok (Item e a)
element_at e _ _ = Err BadLine

-- the key is the head of a list that is entered
abbrev pub is_list_head : Option Tag → LastKey → Bool
is_list_head (Some AsList) HeadKey = true
is_list_head _ _ = false

-- the place at a last key: the head of a list, or an element
abbrev pub place_at_last : Element → Option Tag → LastKey → Result Place Refusal
place_at_last e t k = if is_list_head t k then Ok (HeadOf e) else and_then (λ f. Ok (At f)) (element_at e t k)

-- the place below e to which the rest of the path and the last key lead
abbrev pub place_below : Element → Option Tag → List Entered → LastKey → Result Place Refusal
place_below e t [] last = place_at_last e t last
place_below e t (x ∷ xs) last = and_then (λ f. place_below f (Some x.tag) xs last) (element_at e t x.key)

-- the place of a path and a last key, which begin with the root
abbrev pub place_form : Data → Data → Result Place Refusal
place_form path last = and_then (λ xs. and_then (place_below Doc None xs) (key_form last)) (path_form path)
