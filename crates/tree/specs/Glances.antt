-- Rows and glances of the program as those of the definitions.
use Rattle.std.specs.Prelude.{◌≡◌, ℕ, Bool, nat_lt, List, [], ◌∷◌, ◌++◌, length, map, option_map, take}
use Rattle.std.specs.List.{filter}
use Rattle.semantics.specs.Elements.{Tag, AsRegister, AsMap, AsList}
use Rattle.semantics.specs.Glances.{Row as TheRow, Glance as TheGlance}
use Rattle.operation.specs.cursor.Steps.{hop_of}
use Rattle.columns.specs.Kinds.{has_kind}
use Rattle.columns.specs.declared.kinds.Kinds.{Kinds}
use Rattle.tree.specs.declared.glance.Row.{Row}
use Rattle.tree.specs.declared.glance.Glance.{Glance}
use Rattle.tree.specs.Nodes.{valued}

-- the tags of these kinds
abbrev pub tags_in : Kinds → List Tag
tags_in k = filter (has_kind k) (AsRegister ∷ AsMap ∷ AsList ∷ [])

-- a row
abbrev pub row_of : Row → TheRow
row_of r = record {
  depth = r.depth;
  entered = option_map hop_of r.entered;
  kinds = tags_in r.kinds;
  values = valued r.values.items;
  is_cut = r.is_cut;
}

-- a glance
abbrev pub glance_in : Glance → TheGlance
glance_in g = record { rows = map row_of g.rows.items; is_cut = g.is_cut }

-- `new` is the old rows, and behind them the first of all, at most n rows together; and whether there are more.
pub record IsFilled (n : ℕ) (old all new : List TheRow) (more : Bool) : Type 0 where
  pub rows : new ≡ take n (old ++ all)
  pub is_cut : more ≡ nat_lt n (length (old ++ all))
