use Rattle.std.proofs.Common.{◌≡◌, ◌∙◌, sym, ap, subst, List}
use Rattle.std.specs.Prelude.{IfOk}
use Rattle.std.specs.FinMap.{is_sorted}
use Rattle.semantics.specs.Ids.{OpId, id_cmp}
use Rattle.cursor.specs.declared.tag.Tag.{Tag}
use Rattle.columns.specs.Entries.{Entries}
use Rattle.columns.specs.ReplicaColumns.{put_each, standing, tags_of, with_indices}
use Rattle.columns.proofs.ListPuts.{tags_with}
use Rattle.columns.proofs.WithColumns.{tags-each}
use Rattle.columns.proofs.tag_columns.TagColumns.copy.Goals as goal

pub merge-requires-clause-sorted : goal.merge-requires-clause-sorted
merge-requires-clause-sorted c = ap (is_sorted id_cmp) c.in_ok-copy.ensures ∙ c.len.ensures.rising

pub returns : goal.returns
returns c =
    let L = c.self.inside.list in
    let cs = c.self.inside.columns.items in
    subst (λ (m : List (OpId × Tag)). IfOk c.merge.result (λ v. v.items ≡ m))
    ((λ i. put_each (tags_of (standing (c.deref.ensures.value i))) (c.in_ok-copy.ensures i))
    ∙ ap (put_each (tags_of (standing cs))) (sym (tags_with L.entries L.indices c.len.ensures.indexed))
    ∙ sym (tags-each (standing cs) (with_indices L.entries L.indices))
    ∙ ap (λ (m : Entries Tag). m.entries) c.self.view_is) c.merge.ensures
