-- Where a presence holds its entries.
use Rattle.std.specs.Prelude.{[], ◌∷◌}
use Rattle.cursor.specs.declared.tag.Tag.{Tag}
use Rattle.columns.specs.Entries.{Entries, id_of}
use Rattle.columns.specs.declared.held_tags.HeldTags.{HeldTags}
use Rattle.columns.specs.declared.held_tags.HeldTags.TheVariants.{Empty, Single, Many, Wide}

-- the presence: an empty one has room for one entry, a single entry leaves none
abbrev pub held_tags : HeldTags → Entries Tag
held_tags Empty = record { entries = []; indices = []; room = 1 }
held_tags (Single entry) = record { entries = (id_of entry, entry.value) ∷ []; indices = entry.index ∷ []; room = 0 }
held_tags (Many list) = list.value
held_tags (Wide columns) = columns.value

-- a single entry that isn't in a list
abbrev pub IsSingleTag : HeldTags → Type 0
IsSingleTag Empty = ⊥
IsSingleTag (Single entry) = Unit {0}
IsSingleTag (Many list) = ⊥
IsSingleTag (Wide columns) = ⊥

-- entries in a list
abbrev pub IsList : HeldTags → Type 0
IsList Empty = ⊥
IsList (Single entry) = ⊥
IsList (Many list) = Unit {0}
IsList (Wide columns) = ⊥
