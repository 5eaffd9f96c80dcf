-- What is unlawful is dropped, one after another.
use Rattle.std.proofs.Common.{◌≡◌, ℕ, suc, min, ◌+◌, ◌<◌, List, length, refl, sym, ap, ◌∙◌, subst, arith}
use Rattle.std.proofs.lemmas.List.{length-map}
use Rattle.ids.specs.Members.{is_member}
use Rattle.semantics.specs.Ids.{OpId}
use Rattle.semantics.specs.LegalHistory.{IsAmong}
use Rattle.semantics.specs.Stamped.{Stamped}
use Rattle.semantics.specs.Replica.{IsRunning}
use Rattle.semantics.specs.Drain.{counted, drain_for, without_waiting}
use Rattle.semantics.proofs.Taken.{taken_running}
use Rattle.semantics.proofs.Waiting.{without_one}
use Rattle.inbox.specs.operation.declared.op.Op.{Op}
use Rattle.inbox.specs.operation.Ops.{stamped_of}
use Rattle.inbox.specs.document.Documents.{Contents}
use Rattle.inbox.specs.Inboxes.{waiting_in}
use Rattle.replica.specs.Replicas.{Running, IsReplica, replica_of}
use Rattle.replica.specs.Turns.{IsDropped}
use Rattle.replica.proofs.Leaving.{next_among, still_alone}
use Rattle.replica.proofs.Turns.{counted_for, counted_running, dropping, turn}

-- q is r after this many turns, of which each dropped what is unlawful
pub record IsDropping (r q : Running) : Type 0 where
  pub turns : ℕ
  pub after : replica_of q ≡ counted (drain_for turns (replica_of r))
  pub entries : q.document.entries ≡ r.document.entries
  pub good : IsReplica q

-- at first nothing is dropped
pub none_dropped : (r : Running) → IsReplica r → IsDropping r r
none_dropped r h = record {
  turns = 0;
  after = λ i. record (replica_of r) { dropped = all i };
  entries = refl;
  good = h;
}
  where
    all : r.dropped ≡ min r.dropped 18446744073709551615
    all = let c = h.count in omega arith

-- what is reserved changes nothing of it
pub reserved : (r q : Running) → IsDropping r q → (k : Contents) → k.members ≡ q.document.members → k.entries ≡ q.document.entries
    → IsDropping r (record q { document = k })
reserved r q d k table entries = record {
  turns = d.turns;
  after = same ∙ d.after;
  entries = entries ∙ d.entries;
  good = record {
    running = subst IsRunning (sym same) d.good.running;
    member = ap (λ ps. is_member ps q.own) table ∙ d.good.member;
    alone = d.good.alone;
    count = d.good.count;
  };
}
  where
    same : replica_of (record q { document = k }) ≡ replica_of q
    same = λ i. record {
      own = q.own;
      members = table i;
      entries = entries i;
      waiting = waiting_in q.waiting;
      dropped = q.dropped;
    }

module _ (r q : Running) (d : IsDropping r q) (a : OpId) (t : IsDropped q.document q.waiting a)
    (ws : List Op) (count : ℕ) (left : waiting_in ws ≡ without_waiting a (waiting_in q.waiting))
    (among : (o : Op) → IsAmong o ws → IsAmong o q.waiting)
    (counts : count ≡ min (suc q.dropped) 18446744073709551615) where
  abbrev s : Stamped
  s = t.next

  without : waiting_in ws ≡ without_waiting s.id (waiting_in q.waiting)
  without = left ∙ ap (λ b. without_waiting b (waiting_in q.waiting)) (sym t.id)

  waits : IsAmong s (waiting_in q.waiting)
  waits = next_among q s d.good t.is_next

  after_turn : replica_of (record q { waiting = ws; dropped = count }) ≡ counted (drain_for 1 (replica_of q))
  after_turn =
      (λ i. record { own = q.own; members = q.document.members; entries = q.document.entries; waiting = without i; dropped = counts i })
      ∙ sym (dropping (replica_of q) s t.why t.is_next t.fault)

  -- one more is dropped
  pub dropped_one : IsDropping r (record q { waiting = ws; dropped = count })
  dropped_one = record {
    turns = d.turns + 1;
    after = after_turn ∙ counted_for d.turns 1 (replica_of r) (replica_of q) d.after;
    entries = d.entries;
    good = record {
      running = subst IsRunning (sym after_turn)
          (counted_running (drain_for 1 (replica_of q)) _
          (subst IsRunning (sym (turn (replica_of q) s t.is_next)) (taken_running (replica_of q) s d.good.running waits)));
      member = d.good.member;
      alone = still_alone q ws d.good among;
      count = omega (arith, counts);
    };
  }

  -- and one fewer waits
  pub fewer : length ws < length q.waiting
  fewer =
      let one = without_one s (waiting_in q.waiting) d.good.running.rising waits in
      let new = ap length without in
      let now = length-map ws stamped_of in
      let was = length-map q.waiting stamped_of in
      omega (arith, one, new, now, was)
