-- In every run, replicas that hold the same ids hold the same operations.
use Rattle.std.proofs.Common.{◌≡◌, ℕ, List, subst, sym, ◌∙◌}
use Rattle.semantics.specs.Ids.{OpId}
use Rattle.semantics.specs.Operations.{Operation}
use Rattle.semantics.specs.LegalHistory.{IsLegal, IsAmong, has_id, HaveSameOperations}
use Rattle.semantics.specs.Questions.{Question}
use Rattle.semantics.specs.DocumentAnswer.{document_answer}
use Rattle.semantics.specs.Replica.{operations}
use Rattle.semantics.specs.OneWorld.{AreWithin}
use Rattle.semantics.specs.Runs.{Replicas, IsReached}
use Rattle.semantics.proofs.AbsentIds.{has_id-among}
use Rattle.semantics.proofs.LegalFacts.{among_from, same_operation}
use Rattle.semantics.proofs.DocumentIsView.{document_is_view, document_is_view_of_set}
use Rattle.semantics.proofs.GrowingWorld.{legal_entries}
use Rattle.semantics.proofs.ReachedWorlds.{one_world}

-- in one world what has an id has its operation
held : (K H J : List Operation) → IsLegal K → AreWithin H K → AreWithin J K → ((a : OpId) → has_id H a ≡ has_id J a) → (o : Operation)
    → IsAmong o H → IsAmong o J
held K H J l wh wj same o m =
    let x = among_from J o.id (sym (same o.id) ∙ has_id-among H o o.id m refl_id) in
    subst (λ y. IsAmong y J) (same_operation K l x.0 o (wj x.0 x.1) (wh o m) x.2) x.1
  where
    refl_id : o.id ≡ o.id
    refl_id i = o.id

same_ids_same_operations : (K H J : List Operation) → IsLegal K → AreWithin H K → AreWithin J K → ((a : OpId) → has_id H a ≡ has_id J a)
    → HaveSameOperations H J
same_ids_same_operations K H J l wh wj same o = (held K H J l wh wj same o, held K J H l wj wh (λ a. sym (same a)) o)

-- in one world histories that have the same ids answer alike
pub histories_agree : (K H J : List Operation) → IsLegal K → IsLegal H → IsLegal J → AreWithin H K → AreWithin J K
    → ((a : OpId) → has_id H a ≡ has_id J a) → (q : Question) → document_answer H q ≡ document_answer J q
histories_agree K H J l lh lj wh wj same q = document_is_view H lh q
    ∙ sym (document_is_view_of_set J H lj (same_ids_same_operations K H J l wh wj same) q)

pub runs_agree : (members : ℕ → List ℕ) (W : Replicas) → IsReached members W → (p q : ℕ)
    → ((a : OpId) → has_id (operations (W p)) a ≡ has_id (operations (W q)) a)
    → (x : Question) → document_answer (operations (W p)) x ≡ document_answer (operations (W q)) x
runs_agree members W r p q same x =
    let w = one_world members W r in
    histories_agree w.0 (operations (W p)) (operations (W q)) w.1 (legal_entries (W p) (w.2 p).running)
    (legal_entries (W q) (w.2 q).running) (w.2 p).within (w.2 q).within same x
