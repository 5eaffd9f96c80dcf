-- The replies to questions and to what was submitted, as JSON.
use Rattle.std.specs.Prelude.{ℕ, List, [], ◌∷◌, ◌++◌, codes, decimal, map, reverse}
use Rattle.ids.specs.Refusals.{number_of}
use Rattle.ids.specs.declared.id.OpId.{OpId}
use Rattle.ids.specs.declared.refusal.Refusal.{Refusal}
use Rattle.semantics.specs.Elements.{Scalar, Tag, AsRegister, AsMap, AsList}
use Rattle.semantics.specs.Questions.{Answer, ValuesAre, KeysAre, ItemsAre, ConflictsAre, VectorIs, Refused}
use Rattle.semantics.specs.LegalAnswer.{Reply, Made, RefusedAt, KeptAt, KnownAt, Reading, Answered, MissingAre}
use Rattle.serde_json.specs.Data.{Data, string, array}
use Rattle.serde_json.specs.View.{items_of}
use Rattle.document.specs.value.Forms.{scalar_json}
use Rattle.wire.specs.Operations.{id_json, operation_json, phrase}
use Rattle.wire.specs.Vectors.{count, vector_json}

-- as `E22`
abbrev pub refusal_name : Refusal → List ℕ
refusal_name why = codes "E" ++ decimal (number_of why)

-- ---- readings

-- the word of a tag
abbrev pub tag_name : Tag → List ℕ
tag_name AsMap = codes "map"
tag_name AsList = codes "list"
tag_name AsRegister = codes "reg"

-- an id with its value
abbrev pub row_json : OpId × Scalar → Data
row_json v = array (items_of (id_json v.0 ∷ scalar_json v.1 ∷ []))

-- an id with its tag
abbrev pub conflict_json : OpId × Tag → Data
conflict_json x = array (items_of (id_json x.0 ∷ string (tag_name x.1) ∷ []))

-- the reply to a question, for a token that has seen this many entries
abbrev pub answer_json : ℕ → Answer → Data
answer_json seen (ValuesAre vs) = phrase (codes "reading") (count seen ∷ array (items_of (map row_json vs)) ∷ [])
answer_json seen (KeysAre names) = phrase (codes "reading") (count seen ∷ array (items_of (map string names)) ∷ [])
answer_json seen (ItemsAre ids) = phrase (codes "reading") (count seen ∷ array (items_of (map id_json ids)) ∷ [])
answer_json seen (ConflictsAre xs) = phrase (codes "reading") (count seen ∷ array (items_of (map conflict_json xs)) ∷ [])
answer_json seen (VectorIs v) = phrase (codes "reading") (count seen ∷ vector_json v ∷ [])
answer_json seen (Refused why) = phrase (codes "refused") (string (refusal_name why) ∷ count seen ∷ [])

-- the same; missing operations are written the oldest first
abbrev pub reading_json : ℕ → Reading → Data
reading_json seen (Answered a) = answer_json seen a
reading_json seen (MissingAre ss) = phrase (codes "reading") (count seen ∷ array (items_of (map operation_json (reverse ss))) ∷ [])

-- ---- replies

-- the answer to what was submitted
abbrev pub reply_json : Reply → Data
reply_json (Made id position) = phrase (codes "made") (id_json id ∷ count position ∷ [])
reply_json (RefusedAt why length) = phrase (codes "refused") (string (refusal_name why) ∷ count length ∷ [])
reply_json (KeptAt length) = phrase (codes "kept") (count length ∷ [])
reply_json (KnownAt length) = phrase (codes "known") (count length ∷ [])
