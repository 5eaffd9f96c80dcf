-- Keys, parts of a path and the fields of an operation: the program's types as those of the definitions.
use Rattle.std.specs.Prelude.{ℕ, Option, Some, None}
use Rattle.semantics.specs.Elements.{Tag}
use Rattle.operation.specs.cursor.Steps.{tag_of}
use Rattle.operation.specs.cursor.Places.{LastKey, DocKey, FieldName, ItemId, HeadKey}
use Rattle.operation.specs.cursor.declared.tag.Tag.{Tag as TheTag}
use Rattle.serde_json.specs.View.{view}
use Rattle.wire.specs.Places.{Entered}
use Rattle.wire.specs.Reading.{Fields}
use Rattle.wire.specs.declared.places.WrittenKey.{WrittenKey}
use Rattle.wire.specs.declared.places.WrittenKey.TheVariants.{Root, Head, Field, Item}
use Rattle.wire.specs.declared.places.Part.{Part}
use Rattle.wire.specs.declared.reading.OperationFields.{OperationFields}

-- a key
abbrev pub key_meant : WrittenKey → LastKey
key_meant Root = DocKey
key_meant Head = HeadKey
key_meant (Field name) = FieldName name
key_meant (Item id) = ItemId id

-- a part of a path
abbrev pub part_meant : Part → Entered
part_meant p = record { key = key_meant p.key; tag = tag_of p.entered }

-- the tag with which something was entered, if it was
abbrev pub entered_as : Option TheTag → Option Tag
entered_as None = None
entered_as (Some t) = Some (tag_of t)

-- how many keys are still to come: one, if something was entered
abbrev pub keys_ahead : Option TheTag → ℕ
keys_ahead None = 0
keys_ahead (Some t) = 1

-- the fields of an operation
abbrev pub fields_meant : OperationFields → Fields
fields_meant f = record {
  id = view f.id.now;
  vector = view f.vector.now;
  path = view f.path.now;
  last = view f.last.now;
  mutation = view f.mutation.now;
}
