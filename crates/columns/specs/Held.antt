-- Where a map by id holds its entries.
use Rattle.std.specs.Prelude.{[], ◌∷◌}
use Rattle.columns.specs.Entries.{Entries, id_of}
use Rattle.columns.specs.declared.held.Held.{Held}
use Rattle.columns.specs.declared.held.Held.TheVariants.{Empty, Single, Many}

-- the map: an empty one has room for one entry, a single entry leaves none
abbrev pub held_entries : {X : Type 0} → Held X → Entries X
held_entries Empty = record { entries = []; indices = []; room = 1 }
held_entries (Single entry) = record { entries = (id_of entry, entry.value) ∷ []; indices = entry.index ∷ []; room = 0 }
held_entries (Many list) = list.value

-- a single entry that isn't in a list
abbrev pub IsSingle : {X : Type 0} → Held X → Type 0
IsSingle Empty = ⊥
IsSingle (Single entry) = Unit {0}
IsSingle (Many list) = ⊥
