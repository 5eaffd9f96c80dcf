-- The entries that are called stored are those of any longer history, and are a history of the engine.
use Rattle.std.proofs.Common.{◌≡◌, ◌≤◌, ◌∙◌, ℕ, List, length, ap, subst, arith}
use Rattle.semantics.specs.Entries.{Entry, first_entries}
use Rattle.semantics.specs.Joining.{HadRoom}
use Rattle.semantics.specs.WorldHistory.{BeginsWith}
use Rattle.semantics.proofs.Beginnings.{begins_first, first_of_longer, no_shorter}
use Rattle.semantics.proofs.EntryBeginnings.{history_begun}
use Rattle.semantics.proofs.JoinedReplicas.{had_room_before}
use Rattle.peer_sync.specs.engine.published.Beginnings.{IsHistoryOfEngine}

pub same_stored : (n : ℕ) (G F : List Entry) → BeginsWith G F → n ≤ length F → first_entries n G ≡ first_entries n F
same_stored n G F b l = ap (first_entries n) b.1 ∙ first_of_longer n b.0 F l

pub stored_history : (own : ℕ) (members : List ℕ) (n : ℕ) (G : List Entry) → IsHistoryOfEngine own members G
    → IsHistoryOfEngine own members (first_entries n G)
stored_history own members n G h =
    let F : List Entry = first_entries n G in
    let b : BeginsWith G F = begins_first n G in record {
      legal = history_begun own G F b h.legal;
      known = had_room_before members b.0 F (subst (HadRoom members) b.1 h.known);
      few = (let l = no_shorter G F b in omega (arith, h.few));
    }
