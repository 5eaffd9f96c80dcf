-- The JSON of operations, as they are sent.
use Rattle.std.specs.Prelude.{ℕ, List, [], ◌∷◌, ◌++◌, codes}
use Rattle.ids.specs.declared.id.OpId.{OpId}
use Rattle.semantics.specs.Elements.{Place, At, HeadOf}
use Rattle.semantics.specs.Operations.{Mutation, Assign, Insert, Delete}
use Rattle.semantics.specs.Paths.{Hop, FieldHop, ItemHop, hops_from_root}
use Rattle.semantics.specs.Stamped.{Stamped}
use Rattle.serde_json.specs.Data.{Data, string, array, item}
use Rattle.serde_json.specs.View.{items_of}
use Rattle.operation.specs.value.Forms.{json_of}
use Rattle.wire.specs.Vectors.{count, vector_json}

-- a list of a word and other parts
abbrev pub phrase : List ℕ → List Data → Data
phrase word parts = array (item (string word) (items_of parts))

-- counter and replica
abbrev pub id_json : OpId → Data
id_json a = array (items_of (count a.counter ∷ count a.replica ∷ []))

-- the key of the root
abbrev pub root_json : Data
root_json = count 0

-- the key of a head
abbrev pub head_json : Data
head_json = count 1

-- the key of a field or an item
abbrev pub key_json : Hop → Data
key_json (FieldHop n) = string n
key_json (ItemHop a) = id_json a

-- one part of a path: a key, with the tag of what is entered there, the map before a field and the list before an item
abbrev pub entered_json : Data → Hop → Data
entered_json before (FieldHop n) = phrase (codes "m") (before ∷ [])
entered_json before (ItemHop a) = phrase (codes "l") (before ∷ [])

-- the parts from one key on
abbrev pub parts_from : Data → List Hop → List Data
parts_from before [] = []
parts_from before (k ∷ ks) = entered_json before k ∷ parts_from (key_json k) ks

-- the last key, from one key on
abbrev pub last_from : Data → List Hop → Data
last_from before [] = before
last_from before (k ∷ ks) = last_from (key_json k) ks

-- the keys that a place stands in; a head stands in its list
abbrev pub parts_of : Place → List Data
parts_of (At e) = parts_from root_json (hops_from_root e)
parts_of (HeadOf l) = parts_from root_json (hops_from_root l) ++ phrase (codes "l") (last_from root_json (hops_from_root l) ∷ []) ∷ []

-- what a place stands in, from the root down
abbrev pub path_json : Place → Data
path_json p = array (items_of (parts_of p))

-- its own key
abbrev pub last_json : Place → Data
last_json (At e) = last_from root_json (hops_from_root e)
last_json (HeadOf l) = head_json

-- what is done, and the value that is written
abbrev pub mutation_json : Mutation → Data
mutation_json (Assign v) = phrase (codes "a") (json_of v ∷ [])
mutation_json (Insert v) = phrase (codes "i") (json_of v ∷ [])
mutation_json Delete = phrase (codes "d") []

-- an operation: its id, what it depends on, where it stands, and what it does
abbrev pub operation_json : Stamped → Data
operation_json s = phrase (codes "op")
    (id_json s.id ∷ vector_json s.vector ∷ path_json s.place ∷ last_json s.place ∷ mutation_json s.mutation ∷ [])
