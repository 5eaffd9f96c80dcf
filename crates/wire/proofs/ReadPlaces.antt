-- Places that are read key by key.
use Rattle.std.proofs.Common.{◌≡◌, ◌≤◌, ◌<◌, ◌+◌, suc, true, false, true≢false, List, [], ◌∷◌, ◌++◌, map, length, Option, Some, None}
use Rattle.std.proofs.Common.{Result, Ok, Err, inl, inr, refl, sym, ap, ◌∙◌, subst, arith}
use Rattle.std.specs.Result.{IsErrAnd}
use Rattle.std.proofs.lemmas.Bool.{lt-ltb, le-ltb}
use Rattle.std.proofs.lemmas.List.{map-append}
use Rattle.ids.specs.declared.refusal.Refusal.TheVariants.{TooDeep}
use Rattle.ids.specs.declared.refusal.Refusal.{Refusal}
use Rattle.semantics.specs.Elements.{Element, Doc, Place, At, HeadOf, Tag as TheTag}
use Rattle.semantics.specs.Paths.{child, down}
use Rattle.semantics.proofs.ElementPaths.{down-append}
use Rattle.serde_json.specs.declared.value.Value.{Value}
use Rattle.serde_json.specs.View.{items_view}
use Rattle.operation.specs.cursor.declared.hop.Hop.{Hop}
use Rattle.operation.specs.cursor.declared.tag.Tag.{Tag}
use Rattle.operation.specs.cursor.Steps.{hop_of}
use Rattle.operation.specs.cursor.Places.{LastKey, place_from}
use Rattle.operation.proofs.cursor.RootPaths.{depth-hops}
use Rattle.wire.specs.Parts.{entered_as, keys_ahead}
use Rattle.wire.specs.Places.{Entered, element_at, is_list_head, parts_of, path_of, place_below}
use Rattle.wire.specs.Forms.{IsOrNoMemory, count_parts}

-- ---- paths

pub count_parts-items_view : (vs : List Value) → count_parts (items_view vs) ≡ length vs
count_parts-items_view [] = refl
count_parts-items_view (v ∷ vs) = ap suc (count_parts-items_view vs)

pub path_of-many : (vs : List Value) → 32 < length vs → path_of (items_view vs) ≡ Err TooDeep
path_of-many vs h = rw (count_parts-items_view vs, lt-ltb 32 (length vs) h) refl

pub path_of-few : (vs : List Value) → length vs ≤ 32 → path_of (items_view vs) ≡ parts_of (items_view vs)
path_of-few vs h = rw (count_parts-items_view vs, le-ltb 32 (length vs) h) refl

-- ---- hops

-- one hop further
pub down_pushed : (hops : List Hop) (h : Hop) → down Doc (map hop_of (hops ++ h ∷ [])) ≡ child (down Doc (map hop_of hops)) (hop_of h)
down_pushed hops h = ap (down Doc) (map-append hop_of hops (h ∷ [])) ∙ down-append Doc (map hop_of hops) (hop_of h ∷ [])

-- a key comes before the head of a list
pub keys_before_head : (t : Option Tag) (k : LastKey) → is_list_head (entered_as t) k ≡ true → keys_ahead t ≡ 1
keys_before_head None k h = absurd (true≢false (sym h))
keys_before_head (Some t) k h = refl

pub head_within : (hops : List Hop) → length hops + 1 ≤ 32 → place_from (map hop_of hops) true ≡ Ok (HeadOf (down Doc (map hop_of hops)))
head_within hops h = rw (depth-hops hops, le-ltb 32 (suc (length hops)) (omega (arith, h))) refl

pub element_within : (hops : List Hop) → length hops ≤ 32 → place_from (map hop_of hops) false ≡ Ok (At (down Doc (map hop_of hops)))
element_within hops h = rw (depth-hops hops, le-ltb 32 (length hops) h) refl

-- a key that leads nowhere ends the path
pub lost : (e : Element) (t : Option TheTag) (x : Entered) (xs : List Entered) (last : LastKey) (why : Refusal)
    → IsOrNoMemory {T = Element} (Err why) (element_at e t x.key) → IsOrNoMemory {T = Place} (Err why) (place_below e t (x ∷ xs) last)
lost e t x xs last why (inl eq) = inl (rw (← eq) refl)
lost e t x xs last why (inr eq) = inr (cc)

-- a refusal that is passed on
pub passed_on : {T : Type 0} (r : Result T Refusal) (why : Refusal) (wanted : Result T Refusal) → IsErrAnd r (λ y. y ≡ why)
    → IsOrNoMemory {T = T} (Err why) wanted → IsOrNoMemory r wanted
passed_on (Ok x) why wanted e h = absurd e
passed_on {T = T} (Err y) why wanted e h = subst (λ z. IsOrNoMemory {T = T} (Err z) wanted) (sym e) h
