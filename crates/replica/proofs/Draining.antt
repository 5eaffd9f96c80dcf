-- A drain each of whose entries is published.
use Rattle.std.proofs.Common.{◌≡◌, ℕ, ◌+◌, ◌≤◌, false, List, ◌∷◌, length, Some, None, refl, sym, ap, ◌∙◌, subst, arith}
use Rattle.ids.specs.Tables.{lacks_room}
use Rattle.semantics.specs.Stamped.{Stamped}
use Rattle.semantics.specs.Joining.{check_fault, table_after}
use Rattle.semantics.specs.Making.{is_full}
use Rattle.semantics.specs.Entries.{Entry, Peer, IsEntryHistory, stamped_entries}
use Rattle.semantics.specs.Replica.{Replica, IsRunning, operations}
use Rattle.semantics.specs.Drain.{counted, drain, drain_for, taken_with}
use Rattle.semantics.proofs.CheckedFaults.{faultless_parts}
use Rattle.semantics.proofs.Taken.{taken_running}
use Rattle.semantics.proofs.Waiting.{ready_first}
use Rattle.semantics.specs.Publication.{Publication, Holds, with_entry}
use Rattle.semantics.proofs.HandledAnswers.{part}
use Rattle.replica.specs.Replicas.{next_of}
use Rattle.replica.proofs.Turns.{appending, count_stays, counted_for, ended, ended_by_count, next_some}

-- q is r after some turns of a drain, at least this many; the entries of q were taken to be published, after which h is h0
pub record IsUnderWay (r : Replica) (h0 h : Publication) (q : Replica) (least : ℕ) : Type 0 where
  pub turns : ℕ
  pub enough : least ≤ turns
  pub after : q ≡ counted (drain_for turns r)
  pub holds : Holds h q
  pub published : h.published ≡ h0.published

pub begun : (r : Replica) (h : Publication) → counted r ≡ r → Holds h r → IsUnderWay r h h r 0
begun r h e k = record { turns = 0; enough = omega arith; after = sym e; holds = k; published = refl }

-- a drain that is under way
module _ {r : Replica} {h0 h : Publication} {q : Replica} {least : ℕ} (w : IsUnderWay r h0 h q least) where
  pub running : IsRunning r → IsRunning q
  running k = (part w.turns r q k w.after).running

  -- what is unlawful is dropped
  pub dropping_on : {t : Replica} → IsRunning r → (n : ℕ) × (t ≡ counted (drain_for n q)) × (t.entries ≡ q.entries)
      → IsUnderWay r h0 h t least
  dropping_on {t = t} k d =
      let p = part d.0 q t (running k) d.1 in record {
        turns = w.turns + d.0;
        enough = omega (arith, w.enough);
        after = d.1 ∙ counted_for w.turns d.0 r q w.after;
        holds = record { own = w.holds.own ∙ sym p.own; members = w.holds.members ∙ sym p.members; appended = w.holds.appended ∙ sym d.2 };
        published = w.published;
      }

  module _ {s : Stamped} (next : next_of q ≡ Some s) (faultless : check_fault q.members (stamped_entries q.entries) s ≡ None) where
    pub may_follow : IsRunning r → IsEntryHistory h.own (Peer s ∷ h.appended)
    may_follow k =
        let run = running k in
        let among = (ready_first (operations q) q.waiting run.rising s (next_some q s next).1).0 in
        let here : IsEntryHistory q.own (Peer s ∷ q.entries) = subst (λ (t : Replica). IsEntryHistory t.own t.entries)
        (ap (taken_with q s) faultless) (taken_running q s run among).history in
        subst (λ p. IsEntryHistory p (Peer s ∷ h.appended)) (sym w.holds.own)
        (subst (λ G. IsEntryHistory q.own (Peer s ∷ G)) (sym w.holds.appended) here)

    pub has_room : is_full h.appended ≡ false
    has_room = ap (is_full {X = Entry}) w.holds.appended ∙ (next_some q s next).0

    -- and its replica fits into the table
    pub fits : lacks_room (table_after h.members h.appended) s.id.replica ≡ false
    fits =
        ap (λ ps. lacks_room (table_after ps h.appended) s.id.replica) w.holds.members
        ∙ ap (λ (G : List Entry). lacks_room (table_after q.members G) s.id.replica) w.holds.appended
        ∙ (faultless_parts q.members (stamped_entries q.entries) s faultless).0

    -- one more is appended
    pub appending_on : (g : Publication) (t : Replica) → g ≡ with_entry h (Peer s) → t ≡ drain_for 1 q → IsUnderWay r h0 g t (least + 1)
    appending_on g t is e =
        let one = e ∙ appending q s next faultless in record {
          turns = w.turns + 1;
          enough = omega (arith, w.enough);
          after = e ∙ count_stays (drain_for w.turns r) q s w.after next faultless ∙ counted_for w.turns 1 r q w.after;
          holds = record {
            own = ap (λ (x : Publication). x.own) is ∙ w.holds.own ∙ sym (ap (λ (x : Replica). x.own) one);
            members = ap (λ (x : Publication). x.members) is ∙ w.holds.members ∙ sym (ap (λ (x : Replica). x.members) one);
            appended = ap (λ (x : Publication). x.appended) is ∙ ap (λ G. Peer s ∷ G) w.holds.appended
                ∙ sym (ap (λ (x : Replica). x.entries) one);
          };
          published = ap (λ (x : Publication). x.published) is ∙ w.published;
        }

  -- the publication has another name
  pub renamed : (g : Publication) → g ≡ h → IsUnderWay r h0 g q least
  renamed g e = subst (λ (x : Publication). IsUnderWay r h0 x q least) (sym e) w

  pub whole_where_none : IsRunning r → next_of q ≡ None → q ≡ counted (drain r)
  whole_where_none k none = w.after ∙ ap counted (sym (ended w.turns r k (dropless none)))
    where
      dropless : next_of q ≡ None → next_of (drain_for w.turns r) ≡ None
      dropless e = ap next_of (sym w.after) ∙ e

  pub whole_by_count : IsRunning r → length r.waiting ≤ least → q ≡ counted (drain r)
  whole_by_count k le = w.after ∙ ap counted (sym (ended_by_count w.turns r k (omega (arith, le, w.enough))))
