use Rattle.std.proofs.Common.{◌≡◌, ◌≤◌, ◌∙◌, ◌∷◌, [], ℕ, Bool, cond, nat_le, List, length, ap, sym, subst}
use Rattle.std.specs.Prelude.{slice_index}
use Rattle.ids.specs.Members.{AreDistinct}
use Rattle.semantics.specs.Context.{without}
use Rattle.semantics.specs.Vectors.{covers}
use Rattle.semantics.specs.Tables.{by_table}
use Rattle.cursor.specs.declared.tag.Tag.{Tag}
use Rattle.columns.specs.Entries.{Entries, AreIndicesIn, id_of}
use Rattle.columns.specs.HeldTags.{held_tags}
use Rattle.columns.specs.declared.entry.Entry.{Entry}
use Rattle.columns.specs.declared.held_tags.HeldTags.TheVariants.{Single}
use Rattle.columns.proofs.IndexedEntries.{single_without}
use Rattle.columns.proofs.presence.Presence.clear.Goals as goal

-- what is left of a map with a single entry, by the test of its index
left : (table v : List ℕ) (e : Entry Tag) (m : Entries Tag) (is_covered : Bool) → held_tags (Single e) ≡ m
    → is_covered ≡ nat_le e.counter (slice_index v e.index)
    → AreDistinct table → length table ≤ length v → AreIndicesIn table m.entries m.indices
    → cond is_covered [] ((id_of e, e.value) ∷ []) ≡ without (covers (by_table table v)) m.entries
left table v e m is_covered seen is distinct wide stand =
    let alone : AreIndicesIn table ((id_of e, e.value) ∷ []) (e.index ∷ []) = subst
    (λ (n : Entries Tag). AreIndicesIn table n.entries n.indices)
    (sym seen) stand in
    ap (λ b. cond b [] ((id_of e, e.value) ∷ [])) is
    ∙ sym (single_without table v (id_of e) e.index e.value distinct wide alone)
    ∙ ap (λ (n : Entries Tag). without (covers (by_table table v)) n.entries) seen

pub returns-then-covers-clause-without : goal.returns-then-covers-clause-without
returns-then-covers-clause-without c table distinct wide stand =
    let seen : held_tags (Single c.in-Single.entry) ≡ c.args.self.now = ap held_tags (sym c.in-Single.is) ∙ c.self.view_is in
    rw c.take_single.ensures.empty
    (left table c.args.vector.now c.in-Single.entry c.args.self.now _ seen
    (sym c.if-covers.true ∙ c.covers.ensures) distinct wide stand)

pub returns-else-covers-clause-without : goal.returns-else-covers-clause-without
returns-else-covers-clause-without c table distinct wide stand =
    let seen : held_tags (Single c.in-Single.entry) ≡ c.args.self.now = ap held_tags (sym c.in-Single.is) ∙ c.self.view_is in
    left table c.args.vector.now c.in-Single.entry c.args.self.now _ seen (sym c.if-covers.false ∙ c.covers.ensures) distinct wide stand
