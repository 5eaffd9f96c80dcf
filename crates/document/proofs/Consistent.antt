-- What a document holds at first and after one more entry, and what its vector is.
use Rattle.std.proofs.Common.{◌≡◌, ℕ, ◌≤◌, true, cond, List, [], ◌∷◌, ◌++◌, length, Bool, false, Option, Some, None, refl, sym, ap, ◌∙◌}
use Rattle.std.proofs.Common.{subst, arith}
use Rattle.std.specs.Prelude.{IsFalse}
use Rattle.std.proofs.lemmas.List.{length-append}
use Rattle.ids.specs.Members.{AreDistinct, is_member}
use Rattle.ids.specs.Vectors.{IsNamed, most_named, names_only}
use Rattle.ids.specs.Tables.{joined, lacks_room}
use Rattle.ids.proofs.FewNamed.{few_named}
use Rattle.ids.proofs.Tables.{distinct_joined, has_room, joined_itself}
use Rattle.semantics.specs.Ids.{OpId}
use Rattle.semantics.specs.Elements.{Element}
use Rattle.semantics.specs.Operations.{slot_of}
use Rattle.semantics.specs.LegalHistory.{greatest_of, has_id}
use Rattle.semantics.specs.Vectors.{Vector, IsCanonical, greatest, raise}
use Rattle.semantics.specs.NamedIds.{vector_of}
use Rattle.semantics.specs.Context.{apply, doc, empty, has_item}
use Rattle.semantics.specs.Stamped.{Stamped, MayFollow, loose_operation, operation_after}
use Rattle.semantics.specs.Entries.{Entry, applied, stamped_in, stamped_entries}
use Rattle.semantics.specs.Questions.{Question}
use Rattle.semantics.specs.DocumentAnswer.{document_answer}
use Rattle.semantics.specs.View.{view}
use Rattle.semantics.proofs.AppliedVectors.{canonical-vector_of, legal_counters, greatest-vector_of, greatest_within}
use Rattle.semantics.proofs.DocumentIsView.{document_is_view}
use Rattle.semantics.proofs.EntryHistories.{length-applied}
use Rattle.semantics.proofs.LegalFacts.{among_from}
use Rattle.semantics.proofs.LooseApply.{apply_loose}
use Rattle.semantics.proofs.NamedOperations.{legal}
use Rattle.semantics.proofs.PlacedItems.{item_among, prev_there}
use Rattle.tree.specs.Trees.{FitsIn, IsPlaced, Planted, document}
use Rattle.oplog.proofs.JoinedTables.{members_joined}
use Rattle.oplog.proofs.KnownMembers.{names_applied, names_known}
use Rattle.document.specs.Documents.{IsConsistent, MayFollowEntries}

pub kept_first : (table : List ℕ) (v : Vector) (t : Planted) → AreDistinct table → length table ≤ most_named → v ≡ []
    → t.table ≡ table → document t ≡ empty → IsConsistent table v [] t
kept_first table v t distinct few none fits content = record {
  distinct = distinct;
  few = few;
  members = tt;
  vector = none;
  legal = tt;
  fits = fits;
  content = content;
}

-- a table that has room for a replica is still small when it has joined
few_joined : (p : ℕ) (ps : List ℕ) → lacks_room ps p ≡ false → length ps ≤ most_named → length (joined p ps) ≤ most_named
few_joined p ps fits few = by (is_member ps p) refl
  where
    by : (b : Bool) → is_member ps p ≡ b → length (cond b ps (ps ++ p ∷ [])) ≤ most_named
    by true e = few
    by false e = (let room = has_room ps p e fits in let l = length-append ps (p ∷ []) in omega (arith, room, l))

-- the table once the entry's replica has joined it, the vector raised to the entry's id, and the tree with its operation applied
pub kept_next : (table grown : List ℕ) (v next : Vector) (G : List Entry) (e : Entry) (a : OpId) (t u : Planted) → (stamped_in e).id ≡ a
    → IsConsistent table v G t
    → MayFollowEntries G e
    → lacks_room table (stamped_in e).id.replica ≡ false
    → grown ≡ joined (stamped_in e).id.replica table
    → u.table ≡ joined a.replica t.table
    → document u ≡ apply (document t) (loose_operation (stamped_in e))
    → next ≡ raise a v
    → IsConsistent grown next (e ∷ G) u
kept_next table grown v next G e a t u same h may room joins kept applied_to raised =
    let p = (stamped_in e).id.replica in
    subst (λ ps. IsConsistent ps next (e ∷ G) u) (sym joins) (record {
      distinct = distinct_joined p table h.distinct;
      few = few_joined p table room h.few;
      members = (members_joined p table G h.members, joined_itself p table);
      vector = raised ∙ ap (λ b. raise b v) (sym same) ∙ ap (raise (stamped_in e).id) h.vector;
      legal = (h.legal, may);
      fits = kept ∙ (λ i. joined (sym same i).replica (h.fits i));
      content = applied_to ∙ ap (λ C. apply C (loose_operation (stamped_in e))) h.content ∙ sym (apply_loose (applied G) (stamped_in e));
    })

-- an operation that may follow fits into the tree
pub fits : (table : List ℕ) (v : Vector) (G : List Entry) (t : Planted) (s : Stamped) → IsConsistent table v G t → MayFollow (applied G) s
    → IsPlaced (document t) s
fits table v G t s h may = subst (λ C. FitsIn C s.id (slot_of s.mutation s.place)) (sym h.content)
    (by (slot_of s.mutation s.place) refl) where
      by : (o : Option (Element × Option OpId)) → slot_of s.mutation s.place ≡ o → FitsIn (doc (applied G)) s.id o
      by None is = tt
      by (Some slot) is = (
        prev_there (applied G) (operation_after (applied G) s) (legal (stamped_entries G) h.legal) may.follows slot.0 slot.1 is,
        fresh (has_item s.id ((doc (applied G)).order slot.0)) refl (item_among (applied G) slot.0 s.id),
      )
        where
          fresh : (there : Bool) → has_item s.id ((doc (applied G)).order slot.0) ≡ there
              → (has_item s.id ((doc (applied G)).order slot.0) ≡ true → has_id (applied G) s.id ≡ true)
              → IsFalse (has_item s.id ((doc (applied G)).order slot.0))
          fresh false is among = is
          fresh true is among = let x = among_from (applied G) s.id (among is) in absurd (may.follows.new_id x.0 x.1 x.2)

module _ (table : List ℕ) (v : Vector) (G : List Entry) (t : Planted) (h : IsConsistent table v G t) where
  pub is_named : IsNamed v
  is_named =
      let l = legal (stamped_entries G) h.legal in
      let canonical = canonical-vector_of (applied G) (legal_counters (applied G) l) in
      let few = few_named table (vector_of (applied G)) canonical (names_applied table G h.members l) in
      subst IsNamed (sym h.vector) (record { canonical = canonical; few = omega (arith, few, h.few) })

  pub greatest_applied : greatest v ≡ greatest_of (λ a. true) (applied G)
  greatest_applied = ap greatest h.vector ∙ greatest-vector_of (applied G)

  pub within_length : greatest v ≤ length G
  within_length =
      let n = greatest_within (applied G) (legal (stamped_entries G) h.legal) in
      let w = length-applied G in
      omega (arith, greatest_applied, n, w)

  -- the replicas that an operation names, if it may follow
  pub names_known_there : (s : Stamped) → IsCanonical s.vector → MayFollow (applied G) s → names_only t.table s.vector ≡ true
  names_known_there s canonical may = ap (λ ps. names_only ps s.vector) h.fits
      ∙ names_known table G s.vector h.members canonical may.attained

  pub answer_is_view : (q : Question) → document_answer (applied G) q ≡ view (applied G) q
  answer_is_view q = document_is_view (applied G) (legal (stamped_entries G) h.legal) q
