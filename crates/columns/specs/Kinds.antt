-- The kinds of value that are present at an element.
use Rattle.std.specs.Prelude.{◌≡◌, Bool, List}
use Rattle.std.specs.List.{list_any}
use Rattle.semantics.specs.Ids.{OpId}
use Rattle.semantics.specs.Elements.{Tag as TheTag, AsRegister, AsMap, AsList}
use Rattle.semantics.specs.Glances.{is_same_tag}
use Rattle.cursor.specs.declared.tag.Tag.{Tag}
use Rattle.cursor.specs.Steps.{tag_of}
use Rattle.columns.specs.declared.kinds.Kinds.{Kinds}

-- whether a value with this tag is present
abbrev pub has_kind : Kinds → TheTag → Bool
has_kind k AsRegister = k.register
has_kind k AsMap = k.map
has_kind k AsList = k.list

-- whether one of the ids stands with this tag
abbrev pub stands_as : TheTag → List (OpId × Tag) → Bool
stands_as t es = list_any (λ e. is_same_tag t (tag_of e.1)) es

-- the kinds are the tags with which these ids stand
abbrev pub AreKinds : Kinds → List (OpId × Tag) → Type 0
AreKinds k es = (t : TheTag) → has_kind k t ≡ stands_as t es
