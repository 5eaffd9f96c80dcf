-- The positions of the operations of a history, and what they say of its ids.
use Rattle.std.proofs.Common.{◌≡◌, ◌≢◌, inl, inr, ℕ, suc, ◌<◌, Bool, true, false, not, cond, ◌&&◌, ◌==◌, List, [], ◌∷◌, length, Option}
use Rattle.std.proofs.Common.{Some, None, is_some, refl, sym, ap, ◌∙◌, subst, true≢false, arith}
use Rattle.std.proofs.lemmas.Bool.{and_from, and_left, and_right, cases_eq, eq-eqb, ne_eqb, or_from, or_left, or_right}
use Rattle.semantics.specs.Ids.{OpId, is_same_id}
use Rattle.semantics.specs.LegalHistory.{has_id}
use Rattle.semantics.specs.Vectors.{Vector, at, is_at_most}
use Rattle.semantics.specs.Stamped.{IsLegalStamped, operation_after}
use Rattle.semantics.specs.Entries.{Entry, applied, entry_at, stamped_in, stamped_entries}
use Rattle.semantics.specs.Faults.{is_open}
use Rattle.semantics.proofs.AbsentIds.{fresh}
use Rattle.semantics.proofs.LegalFacts.{counter_pos}
use Rattle.semantics.proofs.NamedOperations.{follows_named, legal}
use Rattle.semantics.proofs.Orders.{id_itself, ids_from_test}
use Rattle.oplog.specs.Logs.{position_of}
use Rattle.oplog.proofs.PlacedIds.{placed}
use Rattle.document.specs.Checks.{entry_there, is_beyond, opens}

-- a position is one of the entries
position_within : (G : List Entry) (a : OpId) (n : ℕ) → position_of a G ≡ Some n → n < length G
position_within [] a n is = cc
position_within (e ∷ G) a n is = at_test (is_same_id (stamped_in e).id a) (position_within G a n) is
  where
    at_test : (b : Bool) → (position_of a G ≡ Some n → n < length G) → cond b (Some (length G)) (position_of a G) ≡ Some n
        → n < suc (length G)
    at_test true rest here = let same : length G ≡ n = (cc) in omega arith
    at_test false rest later = let h = rest later in omega arith

-- one more entry leaves the entries at older positions as they are
one_more : (e : Entry) (G : List Entry) (a : OpId) → entry_there (position_of a G) (e ∷ G) ≡ entry_there (position_of a G) G
one_more e G a = by (position_of a G) refl
  where
    by : (o : Option ℕ) → position_of a G ≡ o → entry_there o (e ∷ G) ≡ entry_there o G
    by None is = refl
    by (Some n) is = ap (λ b. cond b (Some e) (entry_at n G))
        (ne_eqb (length G) n (λ s. (let h = position_within G a n is in absurd (omega arith))))

-- the newest entry, or one before it
opens_first : (e : Entry) (G : List Entry) (v : Vector) (a : OpId) → is_same_id (stamped_in e).id a ≡ true
    → opens (e ∷ G) v a ≡ not (is_at_most (stamped_in e).vector v)
opens_first e G v a same =
    ap (λ b. is_beyond v (entry_there (cond b (Some (length G)) (position_of a G)) (e ∷ G))) same
    ∙ ap (λ b. is_beyond v (cond b (Some e) (entry_at (length G) G))) (eq-eqb (length G) (length G) refl)

opens_later : (e : Entry) (G : List Entry) (v : Vector) (a : OpId) → is_same_id (stamped_in e).id a ≡ false
    → opens (e ∷ G) v a ≡ opens G v a
opens_later e G v a other =
    ap (λ b. is_beyond v (entry_there (cond b (Some (length G)) (position_of a G)) (e ∷ G))) other
    ∙ ap (is_beyond v) (one_more e G a)

-- if an operation that the vector names opens it, it is open
pub opened : (G : List Entry) (v : Vector) (a : OpId) → a.counter ≡ at v a.replica → opens G v a ≡ true
    → is_open (stamped_entries G) v ≡ true
opened [] v a named h = absurd (true≢false (sym h))
opened (e ∷ G) v a named h = by (is_same_id (stamped_in e).id a) refl (opened G v a named)
  where
    by : (b : Bool) → is_same_id (stamped_in e).id a ≡ b → (opens G v a ≡ true → is_open (stamped_entries G) v ≡ true)
        → is_open (stamped_entries (e ∷ G)) v ≡ true
    by true same rest =
        or_left (((stamped_in e).id.counter == at v (stamped_in e).id.replica) && not (is_at_most (stamped_in e).vector v))
        (is_open (stamped_entries G) v)
        (and_from ((stamped_in e).id.counter == at v (stamped_in e).id.replica) (not (is_at_most (stamped_in e).vector v))
        (eq-eqb (stamped_in e).id.counter (at v (stamped_in e).id.replica)
        (subst (λ (x : OpId). x.counter ≡ at v x.replica) (sym (ids_from_test (stamped_in e).id a same)) named))
        (sym (opens_first e G v a same) ∙ h))
    by false other rest =
        or_right (((stamped_in e).id.counter == at v (stamped_in e).id.replica) && not (is_at_most (stamped_in e).vector v))
        (is_open (stamped_entries G) v)
        (rest (sym (opens_later e G v a other) ∙ h))

-- if no operation that it names does, it isn't
pub not_opened : (G : List Entry) (v : Vector) → IsLegalStamped (stamped_entries G)
    → ((a : OpId) → a.counter ≢ 0 → a.counter ≡ at v a.replica → opens G v a ≡ false) → is_open (stamped_entries G) v ≡ false
not_opened [] v l none = refl
not_opened (e ∷ G) v l none =
    or_from (((stamped_in e).id.counter == at v (stamped_in e).id.replica) && not (is_at_most (stamped_in e).vector v))
    (is_open (stamped_entries G) v) here (not_opened G v l.0 before)
  where
    here : (((stamped_in e).id.counter == at v (stamped_in e).id.replica) && not (is_at_most (stamped_in e).vector v)) ≡ false
    here = elim (cases_eq (stamped_in e).id.counter (at v (stamped_in e).id.replica)) [
      | inl named ↦
          and_right ((stamped_in e).id.counter == at v (stamped_in e).id.replica) (not (is_at_most (stamped_in e).vector v))
          (sym (opens_first e G v (stamped_in e).id (id_itself (stamped_in e).id))
          ∙ none (stamped_in e).id
          (λ z. (let pos = counter_pos (applied (e ∷ G)) (legal (stamped_entries (e ∷ G)) l) (operation_after (applied G) (stamped_in e))
          (inl refl) in
          omega arith))
          named)
      | inr other ↦
          and_left ((stamped_in e).id.counter == at v (stamped_in e).id.replica) (not (is_at_most (stamped_in e).vector v))
          (ne_eqb (stamped_in e).id.counter (at v (stamped_in e).id.replica) other)
    ]

    unplaced : (a : OpId) (o : Option ℕ) → is_some o ≡ false → is_beyond v (entry_there o G) ≡ false
    unplaced a None none' = refl
    unplaced a (Some n) none' = absurd (true≢false none')

    before : (a : OpId) → a.counter ≢ 0 → a.counter ≡ at v a.replica → opens G v a ≡ false
    before a n named = by (is_same_id (stamped_in e).id a) refl
      where
        by : (b : Bool) → is_same_id (stamped_in e).id a ≡ b → opens G v a ≡ false
        by true same = unplaced a (position_of a G)
            (placed G a ∙ ap (has_id (applied G)) (sym (ids_from_test (stamped_in e).id a same)) ∙ fresh (follows_named l.1))
        by false other = sym (opens_later e G v a other) ∙ none a n named
