-- What stands for keys: their numbers and prefixes.
use Rattle.std.proofs.Common.{◌≡◌, ◌<◌, ◌∙◌, ℕ, List, [], length, get_or, slice_get, Some, ap, subst}
use Rattle.std.specs.Option.{option_map}
use Rattle.std.proofs.lemmas.List.Elements.{All-get_or}
use Rattle.std.proofs.lemmas.Option.{get_or_from_slice_get, slice_get-map, slice_get_within}
use Rattle.semantics.specs.Elements.{Name}
use Rattle.columns.specs.Keys.{AreNumbers, numbered}
use Rattle.columns.specs.Prefix.{AreBytes, ArePrefixes}
use Rattle.columns.specs.ShortKeys.{StandsFor, numbers_of, prefixes_of}
use Rattle.columns.specs.declared.sorted_keys.ShortKey.{ShortKey}
use Rattle.columns.proofs.Prefixes.{prefix_at}

-- each stands for the key at its position
pub record AreShort (keys : List Name) (numbers : List ℕ) (order : List ShortKey) : Type 0 where
  pub are_numbers : numbers ≡ numbers_of order
  pub are_prefixes : ArePrefixes keys (prefixes_of order)

module _ (order : List ShortKey) (position : ℕ) (s : ShortKey) (is : slice_get order position ≡ Some s) where
  pub number_at : slice_get (numbers_of order) position ≡ Some s.number
  number_at = slice_get-map (λ (o : ShortKey). o.number) order position ∙ ap (option_map (λ (o : ShortKey). o.number)) is

  pub short_at : slice_get (prefixes_of order) position ≡ Some s.prefix
  short_at = slice_get-map (λ (o : ShortKey). o.prefix) order position ∙ ap (option_map (λ (o : ShortKey). o.prefix)) is

module _ (keys : List Name) (numbers : List ℕ) (position n : ℕ) (is : slice_get numbers position ≡ Some n) where
  pub number_within : AreNumbers (length keys) numbers → n < length keys
  number_within are = subst (λ i. i < length keys) (get_or_from_slice_get numbers position n 0 is)
      (are.within position 0 (slice_get_within numbers position n is))

  -- the key at a position is the one that has the number there
  pub key_here : (key : Name) → slice_get keys n ≡ Some key → slice_get (numbered [] keys numbers) position ≡ Some key
  key_here key there =
      slice_get-map (λ i. get_or keys i []) numbers position
      ∙ ap (option_map (λ i. get_or keys i [])) is
      ∙ ap Some (get_or_from_slice_get keys n key [] there)

pub stands_for : (keys : List Name) (numbers : List ℕ) (order : List ShortKey) (position : ℕ) (s : ShortKey) → AreShort keys numbers order
    → position < length keys → slice_get order position ≡ Some s → StandsFor keys numbers position s
stands_for keys numbers order position s are within is = record {
  within = within;
  number = ap (λ ns. slice_get ns position) are.are_numbers ∙ number_at order position s is;
  prefix = prefix_at keys (prefixes_of order) position s.prefix are.are_prefixes within (short_at order position s is);
  bytes = All-get_or AreBytes keys position [] within are.are_prefixes.bytes;
}
