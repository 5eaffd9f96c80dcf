-- A glance at a part of a document: what stands at an element and beneath it, as one list of rows.
use Rattle.std.specs.Prelude.{ℕ, ◌+◌, zero, suc, Bool, true, false, nat_lt, List, [], ◌∷◌, ◌++◌, length, map, take, Option, Some, None}
use Rattle.std.specs.List.{filter, flat_map, list_any}
use Rattle.semantics.specs.Ids.{OpId}
use Rattle.semantics.specs.Elements.{Element, Scalar, Tag, AsRegister, AsMap, AsList, Name}
use Rattle.semantics.specs.Operations.{Operation}
use Rattle.semantics.specs.Paths.{Hop, FieldHop, ItemHop, child}
use Rattle.semantics.specs.Context.{Context}
use Rattle.semantics.specs.DocumentAnswer.{is_any, visible_items, visible_names}
use Rattle.semantics.specs.View.{live, live_items, live_names, live_scalars}

-- what the questions for values, keys, items and conflicts answer at each element
pub record Shown : Type 0 where
  pub values : Element → List (OpId × Scalar)
  pub names : Element → List Name
  pub items : Element → List OpId
  pub conflicts : Element → List (OpId × Tag)

-- what a document shows
abbrev pub shown_by : Context → Shown
shown_by C = record { values = C.register; names = visible_names C; items = visible_items C; conflicts = C.presence }

-- what operations show, as a set
abbrev pub live_shown : List Operation → Shown
live_shown O = record { values = live_scalars O; names = live_names O; items = live_items O; conflicts = live O }

-- t and u are one tag
abbrev pub is_same_tag : Tag → Tag → Bool
is_same_tag AsRegister AsRegister = true
is_same_tag AsMap AsMap = true
is_same_tag AsList AsList = true
is_same_tag _ _ = false

-- the kinds of value that stand there: each of these tags that occurs, once
abbrev pub kinds_of : List (OpId × Tag) → List Tag
kinds_of xs = filter (λ t. list_any (λ x. is_same_tag t x.1) xs) (AsRegister ∷ AsMap ∷ AsList ∷ [])

-- One element: how far it is beneath the one that was asked about, the hop by which it was entered from its parent, the kinds of value that
-- stand there, its values, and whether something stands beneath it that isn't shown because it is too deep.
pub record Row : Type 0 where
  pub depth : ℕ
  pub entered : Option Hop
  pub kinds : List Tag
  pub values : List (OpId × Scalar)
  pub is_cut : Bool

-- the row of an element
abbrev pub row_at : Shown → ℕ → Option Hop → Element → Bool → Row
row_at S at k e cut = record { depth = at; entered = k; kinds = kinds_of (S.conflicts e); values = S.values e; is_cut = cut }

-- the hops to what stands right beneath: to the fields by their names, and then to the items in list order
abbrev pub hops_below : Shown → Element → List Hop
hops_below S e = map FieldHop (S.names e) ++ map ItemHop (S.items e)

-- an element and what stands beneath it, down to a depth: each element before what stands beneath it
abbrev pub rows_of : Shown → ℕ → ℕ → Option Hop → Element → List Row
rows_of S zero at k e = row_at S at k e (is_any (hops_below S e)) ∷ []
rows_of S (suc d) at k e = row_at S at k e false ∷ flat_map (λ h. rows_of S d (suc at) (Some h) (child e h)) (hops_below S e)

-- the first rows, and whether there are more
pub record Glance : Type 0 where
  pub rows : List Row
  pub is_cut : Bool

-- the first n of these rows, and whether there are more
abbrev pub first_rows : ℕ → List Row → Glance
first_rows n rows = record { rows = take n rows; is_cut = nat_lt n (length rows) }

-- a glance at an element: down to a depth beneath it, and at most this many elements
abbrev pub glance_of : Shown → (depth elements : ℕ) → Element → Glance
glance_of S depth elements e = first_rows elements (rows_of S depth 0 None e)

-- the row, n deeper
abbrev pub deeper : ℕ → Row → Row
deeper n r = record r { depth = n + r.depth }

-- the rows of a glance at an element, as they stand in a glance at its parent, from which it is entered by this hop
abbrev pub beneath : Hop → List Row → List Row
beneath h [] = []
beneath h (r ∷ rs) = record r { depth = 1 + r.depth; entered = Some h } ∷ map (deeper 1) rs
