-- The kinds of value that stand at a node.
use Rattle.std.proofs.Common.{◌≡◌, ◌||◌, List, [], ◌∷◌, ap, refl, ◌∙◌}
use Rattle.std.specs.List.{filter, list_any}
use Rattle.semantics.specs.Ids.{OpId}
use Rattle.semantics.specs.Elements.{Tag as TheTag, AsRegister, AsMap, AsList}
use Rattle.semantics.specs.Glances.{is_same_tag, kinds_of}
use Rattle.operation.specs.cursor.declared.tag.Tag.{Tag}
use Rattle.operation.specs.cursor.Steps.{tag_of}
use Rattle.columns.specs.Kinds.{AreKinds, stands_as}
use Rattle.columns.specs.declared.kinds.Kinds.{Kinds}
use Rattle.tree.specs.Nodes.{tagged}
use Rattle.tree.specs.Glances.{tags_in}

-- the tags of a presence are those of the definitions
same_tags : (t : TheTag) (es : List (OpId × Tag)) → stands_as t es ≡ list_any (λ x. is_same_tag t x.1) (tagged es)
same_tags t [] = refl
same_tags t (e ∷ es) = ap (λ b. is_same_tag t (tag_of e.1) || b) (same_tags t es)

pub kinds_stand : (k : Kinds) (es : List (OpId × Tag)) → AreKinds k es → tags_in k ≡ kinds_of (tagged es)
kinds_stand k es are = λ i. filter (λ t. (are t ∙ same_tags t es) i) (AsRegister ∷ AsMap ∷ AsList ∷ [])
