use Rattle.std.proofs.Common.{rules, ◌≡◌, ◌<◌, ◌∙◌, ℕ, List, not, ap, sym, subst, length}
use Rattle.std.proofs.lemmas.List.{length-map}
use Rattle.std.proofs.lemmas.Fn.{filter_same}
use Rattle.std.specs.List.{All, zip, filter, items_where_true}
use Rattle.semantics.specs.Ids.{OpId, id_cmp}
use Rattle.semantics.specs.Vectors.{covers}
use Rattle.semantics.specs.Tables.{by_table}
use Rattle.semantics.specs.Context.{without}
use Rattle.version.specs.Columns.{is_uncovered}
use Rattle.version.proofs.PairedColumns.{zip-items_where_true}
use Rattle.columns.specs.Entries.{Entries, AreIndicesIn, entries_of, id_of, indices_of}
use Rattle.columns.specs.declared.entry.Entry.{Entry}
use Rattle.columns.proofs.Columns.{is_left, marks-left, marks_of, kept-map, kept-filter, marks-tested, rising_kept, length-entries_of}
use Rattle.columns.proofs.IndexedEntries.{marks-cover, stand_indexed-kept}
use Rattle.columns.proofs.entry_list.EntryList.clear.Given as given
use Rattle.columns.proofs.entry_list.EntryList.clear.Goals as goal

-- the entries and indices that are left, by the marks
kept : {X : Type 0} (v : List ℕ) (es new : List (Entry X)) → All (λ i. i < length v) (indices_of es) → new ≡ filter (is_left v) es
    → (entries_of new ≡ items_where_true (marks_of v es) (entries_of es))
    × (indices_of new ≡ items_where_true (marks_of v es) (indices_of es))
kept {X = X} v es new within is =
    let left : new ≡ items_where_true (marks_of v es) es = is ∙ sym (kept-filter (is_left v) es)
    ∙ ap (λ ms. items_where_true ms es) (marks-left v es within) in (
      ap entries_of left ∙ kept-map (λ (e : Entry X). (id_of e, e.value)) (marks_of v es) es,
      ap indices_of left ∙ kept-map (λ (e : Entry X). e.index) (marks_of v es) es,
    )

-- what is left of the entries
left : (g : given.Over) (c : goal.After-retain g) → All (λ i. i < length c.args.vector.now) (indices_of c.self.inside.entries.items)
    → (entries_of c.retain.new.self.items
    ≡ items_where_true (marks_of c.args.vector.now c.self.inside.entries.items) (entries_of c.self.inside.entries.items))
    × (indices_of c.retain.new.self.items
    ≡ items_where_true (marks_of c.args.vector.now c.self.inside.entries.items) (indices_of c.self.inside.entries.items))
left g c within = kept c.args.vector.now c.self.inside.entries.items c.retain.new.self.items within
    (filter_same _ (is_left c.args.vector.now) _ (λ x b f' k. search rules) _ _ c.retain.ensures.kept)

inside : (g : given.Over) (c : goal.After-retain g) → All (λ i. i < length c.args.vector.now) (indices_of c.self.inside.entries.items)
inside g c = subst (λ (m : Entries g.row.T.Denot). All (λ i. i < length c.args.vector.now) m.indices) (sym c.self.view_is) c.requires

pub invariant_of-self : goal.invariant_of-self
invariant_of-self g c =
    let es = c.self.inside.entries.items in
    rw (left g c (inside g c)).0 (rising_kept id_cmp (marks_of c.args.vector.now es) (entries_of es) c.self.invariant)

pub returns-clause-kept : goal.returns-clause-kept
returns-clause-kept g c =
    let es = c.self.inside.entries.items in
    let v = c.args.vector.now in
    let both = left g c (inside g c) in
    (λ t. zip (both.0 t) (both.1 t))
    ∙ zip-items_where_true (marks_of v es) (entries_of es) (indices_of es)
    (length-map es (λ (e : Entry g.row.T.Denot). e.index) ∙ sym (length-entries_of es))
    ∙ ap (λ ms. items_where_true ms (zip (entries_of es) (indices_of es))) (marks-tested v es)
    ∙ kept-filter (λ (e : (OpId × g.row.T.Denot) × ℕ). is_uncovered v (e.0.0.counter, e.1)) (zip (entries_of es) (indices_of es))
    ∙ ap (λ (m : Entries g.row.T.Denot). filter (λ e. is_uncovered v (e.0.0.counter, e.1)) (zip m.entries m.indices)) c.self.view_is

pub returns-clause-without : goal.returns-clause-without
returns-clause-without g c table distinct wide stand =
    let es = c.self.inside.entries.items in
    let v = c.args.vector.now in
    let old : AreIndicesIn table (entries_of es) (indices_of es) = subst
    (λ (m : Entries g.row.T.Denot). AreIndicesIn table m.entries m.indices) (sym c.self.view_is) stand in
    (left g c (inside g c)).0
    ∙ ap (λ ms. items_where_true ms (entries_of es)) (marks-cover table v es distinct wide old)
    ∙ kept-filter (λ (e : OpId × g.row.T.Denot). not (covers (by_table table v) e.0)) (entries_of es)
    ∙ ap (λ (m : Entries g.row.T.Denot). without (covers (by_table table v)) m.entries) c.self.view_is

pub returns-clause-indexed : goal.returns-clause-indexed
returns-clause-indexed g c table stand =
    let es = c.self.inside.entries.items in
    let old : AreIndicesIn table (entries_of es) (indices_of es) = subst
    (λ (m : Entries g.row.T.Denot). AreIndicesIn table m.entries m.indices) (sym c.self.view_is) stand in
    let both = left g c (inside g c) in
    rw (both.0, both.1) (stand_indexed-kept table (marks_of c.args.vector.now es) (entries_of es) (indices_of es) old)
