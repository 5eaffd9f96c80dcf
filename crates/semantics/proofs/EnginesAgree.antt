-- In a run without lines of any origin, engines that have published the same ids answer alike.
use Rattle.std.proofs.Common.{◌≡◌, ℕ, List}
use Rattle.ids.specs.Configurations.{Configuration}
use Rattle.semantics.specs.Ids.{OpId}
use Rattle.semantics.specs.Operations.{Operation}
use Rattle.semantics.specs.LegalHistory.{has_id}
use Rattle.semantics.specs.Questions.{Question}
use Rattle.semantics.specs.DocumentAnswer.{document_answer}
use Rattle.semantics.specs.Stamped.{IsLegalStamped}
use Rattle.semantics.specs.Entries.{stamped_entries, applied}
use Rattle.semantics.specs.OneWorld.{AreWithin}
use Rattle.semantics.specs.Engine.{Engine, published_entries}
use Rattle.semantics.specs.World.{WorldStep}
use Rattle.semantics.specs.WorldHistory.{IsEngineAfter}
use Rattle.semantics.specs.WorldExchange.{HaveOwnNumbers, AreWithoutLines}
use Rattle.semantics.proofs.NamedOperations.{legal}
use Rattle.semantics.proofs.EntryHistories.{entries_legal}
use Rattle.semantics.proofs.Beginnings.{first_history}
use Rattle.semantics.proofs.RunsAgree.{histories_agree}
use Rattle.semantics.proofs.TrackedEngines.{IsEngineOf}
use Rattle.semantics.proofs.SentOperations.{published_within}
use Rattle.semantics.proofs.EnginesOfOneWorld.{one_world}

-- what an engine of a world has published is a legal history of it

pub published_legal : (K : List Operation) (E : Engine) → IsEngineOf K E → IsLegalStamped (stamped_entries (published_entries E))
published_legal K E h = entries_legal E.replica.own (published_entries E)
    (first_history E.replica.own E.published E.replica.entries h.settled.world.running.history)

pub published_of_world : (K : List Operation) (E : Engine) → IsEngineOf K E → AreWithin (applied (published_entries E)) K
published_of_world K E h x m = h.settled.world.within x (published_within E x m)

pub engines_agree : (cs : List Configuration) (steps : List WorldStep) → HaveOwnNumbers cs → AreWithoutLines steps
    → (d e : ℕ) (D E : Engine) → IsEngineAfter cs steps d D → IsEngineAfter cs steps e E
    → ((a : OpId) → has_id (applied (published_entries D)) a ≡ has_id (applied (published_entries E)) a) → (q : Question)
    → document_answer (applied (published_entries D)) q ≡ document_answer (applied (published_entries E)) q
engines_agree cs steps own known d e D E p q same x =
    let w = one_world cs steps own known in
    let first = w.1.engines d D p in
    let second = w.1.engines e E q in
    histories_agree w.0 (applied (published_entries D)) (applied (published_entries E)) w.1.legal
    (legal (stamped_entries (published_entries D)) (published_legal w.0 D first))
    (legal (stamped_entries (published_entries E)) (published_legal w.0 E second))
    (published_of_world w.0 D first) (published_of_world w.0 E second) same x
