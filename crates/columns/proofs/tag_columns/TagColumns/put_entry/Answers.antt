use Rattle.std.proofs.Common.{◌≡◌, ◌∙◌, ◌++◌, sym, ap, subst, length, IsTrue, List, ℕ, take, drop}
use Rattle.std.specs.FinMap.{put, is_sorted}
use Rattle.std.proofs.lemmas.List.{with_items_is}
use Rattle.semantics.specs.Ids.{OpId, id_cmp}
use Rattle.cursor.specs.declared.tag.Tag.{Tag}
use Rattle.columns.specs.Entries.{AreIndicesIn, Entries, put_index}
use Rattle.columns.specs.Rank.{keys_of}
use Rattle.columns.specs.ReplicaColumns.{Standing, all_standing, index_at, standing, tags_of, with_indices}
use Rattle.columns.specs.declared.replica_column.ReplicaColumn.{ReplicaColumn}
use Rattle.columns.proofs.IndexedEntries.{stand_indexed-put}
use Rattle.columns.proofs.ListPuts.{sorted_with}
use Rattle.columns.proofs.PutEach.{rising_each}
use Rattle.columns.proofs.WithColumns.{indices-put, indices_in, sorted_tags, tags-put}
use Rattle.columns.proofs.tag_columns.TagColumns.put_entry.Goals as goal

-- all ids before
abbrev before : goal.After-self-1 → List (OpId × Standing)
before c = all_standing c.self.inside.list c.self.inside.columns.items

-- all ids now
abbrev now : goal.After-self-1 → List (OpId × Standing)
now c = all_standing c.put_standing.new.list (take c.self.inside.columns.len
    (c.put_standing.new.columns ++ drop (length c.put_standing.new.columns) c.self.inside.columns.items))

is_now : (c : goal.After-self-1) → now c ≡ put id_cmp c.args.id (c.args.tag, index_at c.args.id c.args.index (before c)) (before c)
is_now c =
    ap (all_standing c.put_standing.new.list)
    (with_items_is c.self.inside.columns c.put_standing.new.columns (c.put_standing.auto.columns ∙ c.deref_mut.ensures.len))
    ∙ c.put_standing.ensures.standing
    ∙ ap (λ (xs : List ReplicaColumn). put id_cmp c.args.id
    (c.args.tag, index_at c.args.id c.args.index (all_standing c.self.inside.list xs)) (all_standing c.self.inside.list xs))
    c.deref_mut.ensures.value

rising : (c : goal.After-self-1) → IsTrue (is_sorted id_cmp (before c))
rising c =
    let L = c.self.inside.list in
    rising_each (standing c.self.inside.columns.items) (with_indices L.entries L.indices)
    (sorted_with L.entries L.indices c.len.ensures.indexed ∙ c.len.ensures.rising)

entries : (c : goal.After-self-1) → tags_of (now c) ≡ put id_cmp c.args.id c.args.tag c.args.self.now.entries
entries c = ap tags_of (is_now c) ∙ tags-put c.args.id (c.args.tag, index_at c.args.id c.args.index (before c)) (before c)
    ∙ ap (λ (m : Entries Tag). put id_cmp c.args.id c.args.tag m.entries) c.self.view_is

indices : (c : goal.After-self-1)
    → indices_in (now c) ≡ put_index c.args.id c.args.index (keys_of c.args.self.now.entries) c.args.self.now.indices
indices c = ap indices_in (is_now c) ∙ indices-put c.args.id c.args.index c.args.tag (before c) (rising c)
    ∙ ap (λ (m : Entries Tag). put_index c.args.id c.args.index (keys_of m.entries) m.indices) c.self.view_is

pub returns-clause-entries : goal.returns-clause-entries
returns-clause-entries c = entries c

pub returns-clause-indices : goal.returns-clause-indices
returns-clause-indices c = indices c

pub returns-clause-indexed : goal.returns-clause-indexed
returns-clause-indexed c table at stand =
    let old = c.args.self.now in
    let sorted : IsTrue (is_sorted id_cmp old.entries) = ap (λ (m : Entries Tag). is_sorted id_cmp m.entries) (sym c.self.view_is)
    ∙ sorted_tags (before c) ∙ rising c in
    let new = stand_indexed-put table c.args.id c.args.index c.args.tag old.entries old.indices sorted at stand in
    subst (λ (is : List ℕ). AreIndicesIn table (tags_of (now c)) is) (sym (indices c))
    (subst (λ (es : List (OpId × Tag)). AreIndicesIn table es (put_index c.args.id c.args.index (keys_of old.entries) old.indices))
    (sym (entries c)) new)
