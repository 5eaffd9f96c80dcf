-- Elements by their paths from the root.
use Rattle.std.proofs.Common.{◌≡◌, suc, ◌+◌, List, [], ◌∷◌, ◌++◌, map, length, Bool, true, false, refl, sym, ap, ◌∙◌, arith, append_assoc}
use Rattle.std.proofs.lemmas.List.{length-map, map-append}
use Rattle.semantics.specs.Elements.{Element, Doc, depth}
use Rattle.semantics.specs.Operations.{element_of}
use Rattle.semantics.specs.Paths.{Hop as TheHop, FieldHop, ItemHop, child, down, hops_from_root}
use Rattle.semantics.proofs.ElementPaths.{down-hops_from_root}
use Rattle.cursor.specs.declared.hop.Hop.{Hop}
use Rattle.cursor.specs.Steps.{hop_of}
use Rattle.cursor.specs.Places.{place_at}

pub depth-child : (e : Element) (k : TheHop) → depth (child e k) ≡ suc (depth e)
depth-child e (FieldHop n) = refl
depth-child e (ItemHop a) = refl

depth-down : (e : Element) (path : List TheHop) → depth (down e path) ≡ depth e + length path
depth-down e [] = omega arith
depth-down e (k ∷ path) = omega (arith, depth-down (child e k) path, depth-child e k)

-- a hop is a key
pub depth-hops : (hops : List Hop) → depth (down Doc (map hop_of hops)) ≡ length hops
depth-hops hops = omega (arith, depth-down Doc (map hop_of hops), length-map hops hop_of)

down-push : (e : Element) (path : List TheHop) (k : TheHop) → down e (path ++ k ∷ []) ≡ child (down e path) k
down-push e [] k = refl
down-push e (l ∷ path) k = down-push (child e l) path k

-- one hop more leads to a child
pub down-longer : (e : Element) (hops : List Hop) (hop : Hop) → map hop_of hops ≡ hops_from_root e
    → down Doc (map hop_of (hops ++ hop ∷ [])) ≡ child e (hop_of hop)
down-longer e hops hop is =
    ap (down Doc) (map-append hop_of hops (hop ∷ []))
    ∙ down-push Doc (map hop_of hops) (hop_of hop)
    ∙ ap (λ path. child (down Doc path) (hop_of hop)) is
    ∙ ap (λ d. child d (hop_of hop)) (down-hops_from_root e)

hops_from_root-child : (e : Element) (k : TheHop) → hops_from_root (child e k) ≡ hops_from_root e ++ k ∷ []
hops_from_root-child e (FieldHop n) = refl
hops_from_root-child e (ItemHop a) = refl

append_none : (path : List TheHop) → path ++ [] ≡ path
append_none [] = refl
append_none (k ∷ path) = ap (λ r. k ∷ r) (append_none path)

hops_below : (e : Element) (path : List TheHop) → hops_from_root (down e path) ≡ hops_from_root e ++ path
hops_below e [] = sym (append_none (hops_from_root e))
hops_below e (k ∷ path) = hops_below (child e k) path ∙ ap (λ ks. ks ++ path) (hops_from_root-child e k)
    ∙ append_assoc (hops_from_root e) (k ∷ []) path

pub hops_from_root-down : (path : List TheHop) → hops_from_root (down Doc path) ≡ path
hops_from_root-down path = hops_below Doc path

-- the hops of a place are its element's path
pub hops_from_root-place_at : (path : List TheHop) (head : Bool) → hops_from_root (element_of (place_at path head)) ≡ path
hops_from_root-place_at path true = hops_from_root-down path
hops_from_root-place_at path false = hops_from_root-down path
