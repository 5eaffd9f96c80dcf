-- Where a reader of a list reads.
use Rattle.std.specs.Prelude.{List}
use Rattle.chunks.specs.declared.reader.Place.{Place}
use Rattle.chunks.specs.declared.reader.Place.TheVariants.{Only, Parts}

-- the list that is read
abbrev pub read_list : {X : Type 0} → Place X → List X
read_list (Only items) = items.now
read_list (Parts list) = list
