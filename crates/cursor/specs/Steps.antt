-- Steps, tags and keys of the program as those of the definitions.
use Rattle.semantics.specs.Elements.{Tag as TheTag, AsMap, AsList, AsRegister}
use Rattle.semantics.specs.Paths.{Hop as TheHop, FieldHop, ItemHop}
use Rattle.semantics.specs.Questions.{Step as TheStep, Get as TheGet, Idx as TheIdx, ById}
use Rattle.cursor.specs.declared.expression.Step.{Step}
use Rattle.cursor.specs.declared.expression.Step.TheVariants as step
use Rattle.cursor.specs.declared.hop.Hop.{Hop}
use Rattle.cursor.specs.declared.hop.Hop.TheVariants.{Field, Item}
use Rattle.cursor.specs.declared.hop.Last.{Last}
use Rattle.cursor.specs.declared.hop.Last.TheVariants as last
use Rattle.cursor.specs.declared.tag.Tag.{Tag}
use Rattle.cursor.specs.declared.tag.Tag.TheVariants.{Map, List, Reg}
use Rattle.cursor.specs.Places.{LastKey, DocKey, FieldName, ItemId, HeadKey}

-- a step
abbrev pub step_of : Step → TheStep
step_of (step.Get key) = TheGet key
step_of (step.Idx index) = TheIdx index
step_of (step.Item id) = ById id

-- a tag
abbrev pub tag_of : Tag → TheTag
tag_of Map = AsMap
tag_of List = AsList
tag_of Reg = AsRegister

-- a key of a path
abbrev pub hop_of : Hop → TheHop
hop_of (Field key) = FieldHop key
hop_of (Item id) = ItemHop id

-- a last key
abbrev pub last_key : Last → LastKey
last_key last.Doc = DocKey
last_key (last.Key key) = FieldName key.now
last_key (last.Elem id) = ItemId id
last_key last.Head = HeadKey
