use Rattle.std.proofs.Common.{◌≡◌, ◌<◌, ◌∙◌, ◌++◌, sym, ap, subst, length, List, ℕ, take, drop}
use Rattle.std.specs.List.{All, filter}
use Rattle.std.proofs.lemmas.List.{with_items_is}
use Rattle.semantics.specs.Ids.{OpId}
use Rattle.semantics.specs.Vectors.{covers}
use Rattle.semantics.specs.Tables.{by_table}
use Rattle.semantics.specs.Context.{without}
use Rattle.version.specs.Columns.{is_uncovered}
use Rattle.std.specs.List.{zip}
use Rattle.cursor.specs.declared.tag.Tag.{Tag}
use Rattle.columns.specs.Entries.{AreIndicesIn, Entries}
use Rattle.columns.specs.Marks.{AreMarked}
use Rattle.columns.specs.ReplicaColumns.{AreCounted, IsUpTo, Standing, all_standing, replicas_of, standing, tags_of, with_indices}
use Rattle.columns.specs.declared.replica_column.ReplicaColumn.{ReplicaColumn}
use Rattle.columns.proofs.ListPuts.{indices_with}
use Rattle.columns.proofs.WithColumns.{all_kept, are_new, counted_kept, each_beside, each_column, each_own, indices_in, kept_indexed}
use Rattle.columns.proofs.WithColumns.{kept_without, kept_zip, stays}
use Rattle.columns.proofs.tag_columns.TagColumns.clear.Goals as goal

pub clear-requires : goal.clear-requires
clear-requires c =
    let L = c.self.inside.list in
    let cs = c.self.inside.columns.items in
    let within = λ (i : ℕ). i < length c.args.vector.now in
    subst (All within) (indices_with L.entries L.indices c.len.ensures.indexed)
    (each_beside within (standing cs) (with_indices L.entries L.indices) (are_new L cs c.self.invariant.0.apart)
    (subst (λ (m : Entries Tag). All within m.indices) (sym c.self.view_is) c.requires))

pub clear_columns-self-inside-requires-clause-within : goal.clear_columns-self-inside-requires-clause-within
clear_columns-self-inside-requires-clause-within c =
    let L = c.self.inside.list in
    let cs = c.self.inside.columns.items in
    let within = λ (i : ℕ). i < length c.args.vector.now in
    subst (λ (xs : List ReplicaColumn). All (λ (d : ReplicaColumn). 0 < length d.counters.items → within d.index) xs)
    (sym c.deref_mut.ensures.value)
    (each_column within cs
    (each_own within (standing cs) (with_indices L.entries L.indices) (are_new L cs c.self.invariant.0.apart)
    (subst (λ (m : Entries Tag). All within m.indices) (sym c.self.view_is) c.requires)))

-- the columns now
abbrev columns_now : goal.After-self-2-1 → List ReplicaColumn
columns_now c = take c.self.inside.columns.len
    (c.clear_columns-self-inside.new.columns ++ drop (length c.clear_columns-self-inside.new.columns) c.self.inside.columns.items)

are_now : (c : goal.After-self-2-1) → columns_now c ≡ c.clear_columns-self-inside.new.columns
are_now c = with_items_is c.self.inside.columns c.clear_columns-self-inside.new.columns
    (c.clear_columns-self-inside.auto.columns ∙ c.deref_mut.ensures.len)

replicas_now : (c : goal.After-self-2-1) → replicas_of (columns_now c) ≡ replicas_of c.self.inside.columns.items
replicas_now c = ap replicas_of (are_now c) ∙ c.clear_columns-self-inside.ensures.replicas
    ∙ ap (λ (xs : List ReplicaColumn). replicas_of xs) c.deref_mut.ensures.value

cleared : (c : goal.After-self-2-1)
    → standing c.clear_columns-self-inside.new.columns ≡ filter (stays c.args.vector.now) (standing c.self.inside.columns.items)
cleared c = c.clear_columns-self-inside.ensures.standing
    ∙ ap (λ (xs : List ReplicaColumn). filter (stays c.args.vector.now) (standing xs)) c.deref_mut.ensures.value

kept : (c : goal.After-self-2-1) → all_standing c.clear.new.self (columns_now c)
    ≡ filter (stays c.args.vector.now) (all_standing c.self.inside.list c.self.inside.columns.items)
kept c = ap (all_standing c.clear.new.self) (are_now c)
    ∙ all_kept c.args.vector.now c.self.inside.list c.clear.new.self c.self.inside.columns.items c.clear_columns-self-inside.new.columns
    c.self.inside.count c.clear_columns-self-inside.result c.self.invariant.0 c.len.ensures.indexed c.len-2.ensures.indexed
    c.clear.ensures.kept (cleared c) c.len.ensures.rising

-- the count is that of what stays
counted_now : (c : goal.After-self-2-1) → AreCounted c.clear.new.self (columns_now c) c.clear_columns-self-inside.result
counted_now c =
    subst (λ (xs : List ReplicaColumn). AreCounted c.clear.new.self xs c.clear_columns-self-inside.result) (sym (are_now c))
    (counted_kept c.args.vector.now c.self.inside.list c.clear.new.self c.self.inside.columns.items c.clear_columns-self-inside.new.columns
    c.self.inside.count c.clear_columns-self-inside.result c.self.invariant.0 c.len.ensures.indexed c.len-2.ensures.indexed
    c.clear.ensures.kept (cleared c) c.clear_columns-self-inside.ensures.rising
    (c.clear_columns-self-inside.ensures.replicas
    ∙ ap (λ (xs : List ReplicaColumn). replicas_of xs) c.deref_mut.ensures.value)
    (subst (λ (xs : List ReplicaColumn). (m : List (OpId × Standing)) → All (IsUpTo m) xs
    → All (IsUpTo m) c.clear_columns-self-inside.new.columns) c.deref_mut.ensures.value c.clear_columns-self-inside.ensures.up_to)
    c.len.ensures.rising c.clear_columns-self-inside.ensures.counted)

pub invariant_of-self : goal.invariant_of-self
invariant_of-self c = (counted_now c, subst (AreMarked c.self.inside.marks) (sym (replicas_now c)) c.self.invariant.1)

pub returns-clause-kept : goal.returns-clause-kept
returns-clause-kept c =
    let v = c.args.vector.now in
    ap (λ m. zip (tags_of m) (indices_in m)) (kept c)
    ∙ kept_zip v (all_standing c.self.inside.list c.self.inside.columns.items)
    ∙ ap (λ (m : Entries Tag). filter (λ e. is_uncovered v (e.0.0.counter, e.1)) (zip m.entries m.indices)) c.self.view_is

pub returns-clause-without : goal.returns-clause-without
returns-clause-without c table distinct wide stand =
    let v = c.args.vector.now in
    ap tags_of (kept c)
    ∙ kept_without table v (all_standing c.self.inside.list c.self.inside.columns.items) distinct wide
    (subst (λ (m : Entries Tag). AreIndicesIn table m.entries m.indices) (sym c.self.view_is) stand)
    ∙ ap (λ (m : Entries Tag). without (covers (by_table table v)) m.entries) c.self.view_is

pub returns-clause-indexed : goal.returns-clause-indexed
returns-clause-indexed c table stand =
    let v = c.args.vector.now in
    subst (λ (m : List (OpId × Standing)). AreIndicesIn table (tags_of m) (indices_in m)) (sym (kept c))
    (kept_indexed table v (all_standing c.self.inside.list c.self.inside.columns.items)
    (subst (λ (m : Entries Tag). AreIndicesIn table m.entries m.indices) (sym c.self.view_is) stand))
