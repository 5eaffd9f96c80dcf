use Rattle.std.proofs.Common.{◌∙◌, ◌||◌, sym, ap, List}
use Rattle.semantics.specs.Ids.{OpId}
use Rattle.cursor.specs.declared.tag.Tag.{Tag}
use Rattle.columns.specs.Entries.{Entries}
use Rattle.columns.specs.Kinds.{stands_as}
use Rattle.columns.specs.ReplicaColumns.{all_standing, standing, stands_in, with_indices}
use Rattle.columns.proofs.KindsInColumns.{stands-each, stands-tags}
use Rattle.columns.proofs.ListPuts.{tags_with}
use Rattle.columns.proofs.WithColumns.{are_new}
use Rattle.columns.proofs.tag_columns.TagColumns.kinds.Goals as goal

pub returns : goal.returns
returns c = λ t.
    let L = c.self.inside.list in
    let cs = c.self.inside.columns.items in
    let listed = with_indices L.entries L.indices in
    c.kinds_of.ensures t
    ∙ (λ i. c.kinds.ensures t i || stands_in t (standing (c.deref.ensures.value i)))
    ∙ ap (λ (es : List (OpId × Tag)). stands_as t es || stands_in t (standing cs))
    (sym (tags_with L.entries L.indices c.len.ensures.indexed))
    ∙ ap (λ b. b || stands_in t (standing cs)) (stands-tags t listed)
    ∙ sym (stands-each t (standing cs) listed (are_new L cs c.self.invariant.0.apart))
    ∙ sym (stands-tags t (all_standing L cs))
    ∙ ap (λ (m : Entries Tag). stands_as t m.entries) c.self.view_is
