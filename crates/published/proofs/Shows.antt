-- A step that only adds entries to what is shown preserves the rule of the copies.
use Rattle.std.proofs.Common.{Option, None, Some, option_to_list, ◌≡◌, ◌≢◌, ℕ, ◌+◌, Bool, true, false, cond, List, [], ◌∷◌, ◌++◌, fold}
use Rattle.std.proofs.Common.{refl}
use Rattle.std.proofs.Common.{sym, ap, ◌∙◌, subst, ⊎_elim, arith}
use Rattle.std.specs.Prelude.{IsFalse, length}
use Rattle.std.proofs.lemmas.Bool.{leb-false}
use Rattle.std.proofs.lemmas.List.{append-nil}
use mathlib.Core.Option.{some}
use lib.ListN.{get_elem?}
use Rattle.crossbeam_utils.specs.Register.{Admits, Turns, TurnsAt}
use Rattle.atomic_table.proofs.Lists.{at_set, at_snoc}
use Rattle.logbook.specs.Pages.{Book, Named}
use Rattle.ids.specs.Tables.{lacks_room}
use Rattle.semantics.specs.Making.{is_full}
use Rattle.semantics.specs.Entries.{Entry as TheEntry, IsEntryHistory, stamped_in}
use Rattle.semantics.specs.Joining.{table_after, HadRoom}
use Rattle.semantics.specs.Limits.{most_entries}
use Rattle.semantics.specs.WorldHistory.{BeginsWith}
use Rattle.semantics.proofs.Beginnings.{no_shorter}
use Rattle.semantics.proofs.GrownEngines.{begins_trans}
use Rattle.semantics.proofs.JoinedReplicas.{had_room_before}
use Rattle.document.specs.operation.declared.command.Entry.{Entry}
use Rattle.document.specs.operation.Ops.{entry_of, op_in}
use Rattle.document.specs.oplog.Logs.{history}
use Rattle.document.proofs.oplog.Oldest.{history-more}
use Rattle.published.specs.declared.seen.View.{View}
use Rattle.published.specs.Beginnings.{Beginning, IsHistoryOfEngine}
use Rattle.document.specs.Lawful.{is_lawful}
use Rattle.published.specs.Copies.{HoldsOfCopies, Sees, Snapshot, IsSnapshot, Pending, appended_to, applied_to, reader_of, snapshot}
use Rattle.semantics.specs.Publication.{Publication}
use Rattle.published.specs.Publishers.{IsPublisher}
use Rattle.semantics.proofs.EntryBeginnings.{begins_self, history_begun}
use Rattle.document.proofs.LawfulNext.{lawful_next}

pub no_history : (own : ℕ) (table : List ℕ) → IsHistoryOfEngine own table []
no_history own table = record { legal = tt; known = tt; few = omega arith }

-- a beginning of a history of the engine is one
pub engine_begun : (own : ℕ) (table : List ℕ) (G F : List TheEntry) → BeginsWith G F → IsHistoryOfEngine own table G
    → IsHistoryOfEngine own table F
engine_begun own table G F b h = record {
  legal = history_begun own G F b h.legal;
  known = had_room_before table b.0 F (subst (HadRoom table) b.1 h.known);
  few = (let l = no_shorter G F b in omega (arith, h.few));
}

module _ (book : Book) (own : ℕ) (table : List ℕ) where
  -- every history begins with the empty one
  from_none : (G : List TheEntry) → BeginsWith G []
  from_none G = (G, sym (append-nil G))

  -- a new token, which has read nothing
  pub admits : Admits (HoldsOfCopies book own table) (reader_of [] 0)
  admits x views h = (
    h.0,
    λ token v at. ⊎_elim (h.1 token v)
        (λ (e : reader_of [] 0 ≡ v). subst (λ (z : View). BeginsWith x.entries (history z.read)) e (from_none x.entries))
        (at_snoc views (reader_of [] 0) v token at),
  )

  -- new copies
  pub begins : (x : Snapshot) → x ≡ snapshot book table [] → HoldsOfCopies book own table x (reader_of [] 0 ∷ [])
  begins x is = (
    (
      is ∙ ap (λ (s : Snapshot). snapshot book table s.log) (sym is),
      subst (λ (s : Snapshot). IsHistoryOfEngine own table (history s.log))
          (sym is) (no_history own table),
    ),
    λ token v at. ⊎_elim (λ (e : get_elem? {A = View} [] token ≡ some v). absurd (nothing token v e))
        (λ (e : reader_of [] 0 ≡ v). subst (λ (z : View). BeginsWith x.entries (history z.read)) e (from_none x.entries))
        (at_snoc [] (reader_of [] 0) v token at),
  )
    where
      nothing : (token : ℕ) (v : View) → get_elem? {A = View} [] token ≡ some v → ⊥
      nothing token v e = cc

  pub rises : (token : ℕ) (v : View) (x y : Snapshot) → BeginsWith y.entries x.entries → IsSnapshot book own table y
      → TurnsAt (HoldsOfCopies book own table) token v x y (Sees book own table)
  rises token v x y up is views h at =
      let whole : y.entries ≡ history y.log = ap (λ (s : Snapshot). s.entries) is.0 in (
        reader_of y.log (v.reads + 1),
        (
          is,
          λ j u e. ⊎_elim
              (λ (t : (j ≡ token) × (reader_of y.log (v.reads + 1) ≡ u)). subst
              (λ (z : View). BeginsWith y.entries (history z.read)) t.1
              (subst (λ (G : List TheEntry). BeginsWith y.entries G) whole (begins_self y.entries)))
              (λ (t : (j ≢ token) × (get_elem? views j ≡ some u)). begins_trans y.entries x.entries (history u.read) up (h.1 j u t.1))
              (at_set views token j (reader_of y.log (v.reads + 1)) u e),
        ),
        (
          is.0,
          is.1,
          subst (λ (G : List TheEntry). BeginsWith G (history v.read)) whole
              (begins_trans y.entries x.entries (history v.read) up (h.1 token v at)),
          refl,
        ),
      )

  pub reads : (token : ℕ) (v : View) → Turns (HoldsOfCopies book own table) token v (λ x. x) (Sees book own table)
  reads token v x views h at = rises token v x x (begins_self x.entries) h.0 views h at

-- an entry that is taken in or left out leaves what was there
taken_begins : (s : Snapshot) (w : Pending) → BeginsWith (applied_to s w).entries s.entries
taken_begins s w = by (is_lawful s.table s.entries (op_in w.entry))
  where
    by : (b : Bool) → BeginsWith (cond b (appended_to s w) s).entries s.entries
    by true = (entry_of w.entry ∷ [], refl)
    by false = begins_self s.entries

pub fold_begins : (s : Snapshot) (ws : List Pending) → BeginsWith (fold applied_to s ws).entries s.entries
fold_begins s [] = begins_self s.entries
fold_begins s (w ∷ ws) = begins_trans (fold applied_to (applied_to s w) ws).entries (applied_to s w).entries s.entries
    (fold_begins (applied_to s w) ws) (taken_begins s w)

fold_sheet : (book : Book) (table : List ℕ) (s : Snapshot) (ws : List Pending) (log : List Entry)
    → fold applied_to s ws ≡ snapshot book table log → BeginsWith (history log) s.entries
fold_sheet book table s ws log all = subst (λ (z : Snapshot). BeginsWith z.entries s.entries) all (fold_begins s ws)

-- what a publish shows preserves the rule
pub shows : (book : Book) (own : ℕ) (table : List ℕ) (token : ℕ) (v : View) (x y : Snapshot) (ws : List Pending) (log : List Entry)
    → fold applied_to x ws ≡ snapshot book table log → IsHistoryOfEngine own table (history log) → y ≡ fold applied_to x ws
    → TurnsAt (HoldsOfCopies book own table) token v x y (Sees book own table)
shows book own table token v x y ws log all legal is =
    let e : y ≡ snapshot book table log = is ∙ all in
    rises book own table token v x y (subst (λ (z : Snapshot). BeginsWith z.entries x.entries) (sym is) (fold_begins x ws)) (
      e ∙ ap (λ (s : Snapshot). snapshot book table s.log) (sym e),
      subst (λ (s : Snapshot). IsHistoryOfEngine own table (history s.log))
          (sym e) legal,
    )

pub fold-snoc : (s : Snapshot) (ws : List Pending) (w : Pending) → fold applied_to s (ws ++ w ∷ []) ≡ applied_to (fold applied_to s ws) w
fold-snoc s [] w = refl
fold-snoc s (x ∷ ws) w = fold-snoc (applied_to s x) ws w

module _ (book : Book) (own : ℕ) (table : List ℕ) (s : Snapshot) (ws : List Pending) (head : Named) (all : Beginning)
    (h : IsPublisher book own table s ws head all) where
  -- all that was appended begins with what is published
  pub appended_begins : BeginsWith (history all.log) s.entries
  appended_begins = fold_sheet book table s ws all.log h.brought_up

  pub snapshot_legal : IsHistoryOfEngine own table (history s.log)
  snapshot_legal = subst (IsHistoryOfEngine own table) (ap (λ (z : Snapshot). z.entries) h.stands)
      (engine_begun own table (history all.log) s.entries appended_begins h.all_is)

  -- the history of what is shown, wherever it is
  pub shown_legal : (log : List Entry) → log ≡ s.log → IsHistoryOfEngine own table (history log)
  shown_legal log is = subst (λ (l : List Entry). IsHistoryOfEngine own table (history l)) (sym is) snapshot_legal

  pub seen_begins : (z : Publication) → record { own = own; members = table; published = s.entries; appended = history all.log } ≡ z
      → BeginsWith z.appended z.published
  seen_begins z is = subst (λ (z : Publication). BeginsWith z.appended z.published) is appended_begins

  -- what waits may be moved
  pending_moved : (t : Snapshot) (vs : List Pending) → t ≡ s → vs ≡ ws → IsPublisher book own table t vs head all
  pending_moved t vs same moved = subst (λ (z : Snapshot). IsPublisher book own table z vs head all) (sym same)
      (subst (λ (l : List Pending). IsPublisher book own table s l head all) (sym moved) h)

  -- everything that waits turns what is shown into an entry history
  pub all_pending : (t : Snapshot) (vs : List Pending) → t ≡ s → vs ≡ ws
      → (log : List Entry) × (fold applied_to t vs ≡ snapshot book table log) × IsHistoryOfEngine own table (history log)
  all_pending t vs same moved = let k = pending_moved t vs same moved in (all.log, k.brought_up, k.all_is)

  -- one more entry waits
  pub one_pending : (w : Pending) (after : Beginning) → after.log ≡ all.log ++ w.entry ∷ [] → after.book ≡ all.book → w.log ≡ after.log
      → w.book ≡ after.book
      → IsEntryHistory own (entry_of w.entry ∷ history all.log) → IsFalse (is_full (history all.log))
      → IsFalse (lacks_room (table_after table (history all.log)) (stamped_in (entry_of w.entry)).id.replica)
      → (t : Snapshot) (vs : List Pending) (m : Option Pending) → t ≡ s → vs ≡ ws → m ≡ Some w
      → IsPublisher book own table t (vs ++ option_to_list m) head after
  one_pending w after log name wlog wbook follows room fits t vs m same moved one =
      let longer : history after.log ≡ entry_of w.entry ∷ history all.log = ap history log
      ∙ history-more all.log w.entry in
      let lawful = lawful_next own table (history all.log) w.entry follows room fits in
      let k = pending_moved t vs same moved in
      let becomes : appended_to (snapshot book table all.log) w ≡ snapshot book table after.log =
      λ i. record { table = table; entries = sym longer i; log = wlog i; book = (wbook ∙ name ∙ h.book_is) i } in
      record {
        stands = k.stands;
        brought_up =
            ap (λ (o : Option Pending). fold applied_to t (vs ++ option_to_list o)) one
            ∙ fold-snoc t vs w
            ∙ ap (λ (z : Snapshot). applied_to z w) k.brought_up
            ∙ ap (λ (b : Bool). cond b (appended_to (snapshot book table all.log) w) (snapshot book table all.log)) lawful
            ∙ becomes;
        all_is = subst (IsHistoryOfEngine own table) (sym longer)
            (record {
              legal = follows;
              known = (h.all_is.known, fits);
              few = leb-false most_entries (length (history all.log)) room;
            });
        head_is = h.head_is;
        book_is = name ∙ h.book_is;
      }

-- no entry is set aside: what waits is in the log
pub flushed : (vs ws : List Pending) (m : Option Pending) → vs ++ option_to_list m ≡ ws → m ≡ None → vs ≡ ws
flushed vs ws m moved none = sym (append-nil vs) ∙ ap (λ (o : Option Pending). vs ++ option_to_list o) (sym none) ∙ moved
