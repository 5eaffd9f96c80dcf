-- How a writer handles the submissions that it takes, one after another, where an allocation may fail in the middle.
use Rattle.std.specs.Prelude.{◌≡◌, ◌⊎◌, ℕ, ◌≤◌, Bool, true, false, cond, nat_lt, ⊤, List, [], ◌∷◌, ◌++◌, length}
use Rattle.ids.specs.declared.refusal.Refusal.{Refusal}
use Rattle.ids.specs.declared.refusal.Refusal.TheVariants.{NoMemory, BadFloor}
use Rattle.semantics.specs.Stamped.{Stamped}
use Rattle.semantics.specs.LegalAnswer.{Request, OfCommand, OfPeer, Submitted, Reply, RefusedAt}
use Rattle.semantics.specs.Entries.{Entry, Own, Peer}
use Rattle.semantics.specs.Replica.{Replica, IsRunning}
use Rattle.semantics.specs.Delivery.{answer_to, deliver}
use Rattle.semantics.specs.Drain.{counted, drain, drain_for}
use Rattle.semantics.specs.WriteSteps.{after_submission, reply_to, reply_delivered}
use Rattle.semantics.specs.Engine.{Handled}
use Rattle.semantics.specs.PeerAnswers.{IsAnswerWith}

-- a writer's replica, and whether a failed allocation ended its last drain early
pub record Handler : Type 0 where
  pub replica : Replica
  pub behind : Bool

-- q is r after a drain; one that ended early has made some turns
abbrev pub DrainsTo : Replica → Bool → Replica → Type 0
DrainsTo r true q = (n : ℕ) × (q ≡ counted (drain_for n r))
DrainsTo r false q = q ≡ counted (drain r)

-- what resuming does, by whether the last drain ended early
abbrev pub ResumesIf : Bool → Handler → Handler → Type 0
ResumesIf true w v = DrainsTo w.replica v.behind v.replica
ResumesIf false w v = v ≡ w

-- v is w after it resumed a drain that had ended early; it may have ended early again
abbrev pub Resumes : Handler → Handler → Type 0
Resumes w v = ResumesIf w.behind w v

-- whether a drain that had ended early is still owed after the item: the drain that follows a delivery makes up for it
abbrev pub still_behind : Handler → Submitted → Bool
still_behind w x = cond (nat_lt (length w.replica.entries) x.floor) w.behind (after_request x.request)
  where
    after_request : Request → Bool
    after_request (OfCommand c) = w.behind
    after_request (OfPeer s) = false

-- the submission is handled by the rules, and every allocation succeeded
pub record IsWhole (w : Handler) (x : Submitted) (y : Reply) (v : Handler) : Type 0 where
  pub reply : y ≡ reply_to w.replica x
  pub replica : v.replica ≡ after_submission w.replica x
  pub behind : v.behind ≡ still_behind w x

-- the submission is refused with NoMemory, and nothing has changed; that an allocation failed isn't said
pub record IsTurnedAway (w : Handler) (x : Submitted) (y : Reply) (v : Handler) : Type 0 where
  pub floor : x.floor ≤ length w.replica.entries
  pub reply : y ≡ RefusedAt NoMemory (length w.replica.entries)
  pub same : v ≡ w

-- a peer's operation is delivered, and the drain after it ends early, as after a failed allocation
pub record IsCutShort (w : Handler) (x : Submitted) (y : Reply) (v : Handler) : Type 0 where
  pub stamped : Stamped
  pub request : x.request ≡ OfPeer stamped
  pub floor : x.floor ≤ length w.replica.entries
  pub replica : DrainsTo (deliver w.replica stamped) true v.replica
  pub reply : y ≡ reply_delivered (length v.replica.entries) (answer_to w.replica stamped)
  pub behind : v.behind ≡ true

-- handling the submission x gives the reply y, and leads from w to v
abbrev pub Handles : Handler → Submitted → Reply → Handler → Type 0
Handles w x y v = IsWhole w x y v ⊎ IsTurnedAway w x y v ⊎ IsCutShort w x y v

-- these submissions are handled one after another, and none is skipped
abbrev pub Runs : Handler → List Handled → Handler → Type 0
Runs w [] v = v ≡ w
Runs w (h ∷ hs) v = (u : Handler) × Handles w h.submitted h.reply u × Runs u hs v

-- entries that handling x appends: own ones are of its command
abbrev pub AreFor : Submitted → List Entry → Type 0
AreFor x [] = ⊤
AreFor x (Own client serial c s ∷ G) = (client ≡ x.client) × (serial ≡ x.serial) × (x.request ≡ OfCommand c) × AreFor x G
AreFor x (Peer s ∷ G) = AreFor x G

-- t is the replica r after the submission x was handled, which may be answered y with a notice of what t has
pub record IsAfter (r : Replica) (x : Submitted) (y : Reply) (t : Replica) : Type 0 where
  pub own : t.own ≡ r.own
  pub members : t.members ≡ r.members
  pub more : List Entry
  pub entries : t.entries ≡ more ++ r.entries
  pub for_it : AreFor x more
  pub running : IsRunning t
  pub answer : IsAnswerWith t.own t.members t.entries x y

-- the refusal isn't one of the rules: an allocation failed, or the floor is above the history
abbrev pub is_outside_rules : Refusal → Bool
is_outside_rules NoMemory = true
is_outside_rules BadFloor = true
is_outside_rules _ = false
