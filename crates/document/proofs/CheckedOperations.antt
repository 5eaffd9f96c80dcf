-- The test for room in the table, and the tests against the history behind it.
use Rattle.std.proofs.Common.{◌≡◌, ℕ, true, false, List, Some, None, Result, Ok, Err, sym, ap, ◌∙◌, true≢false}
use Rattle.std.specs.Prelude.{◌↔◌, IsOk, IsFalse, MatchResult, ⊤}
use Rattle.ids.specs.Tables.{lacks_room}
use Rattle.ids.specs.declared.refusal.Refusal.{Refusal}
use Rattle.ids.specs.declared.refusal.Refusal.TheVariants.{UnknownReplica}
use Rattle.semantics.specs.Stamped.{Stamped, IsLegalStamped, MayFollow}
use Rattle.semantics.specs.Entries.{Entry, applied, stamped_entries}
use Rattle.semantics.specs.Faults.{StandsAlone, fault_of}
use Rattle.semantics.specs.Joining.{check_fault, table_after}
use Rattle.semantics.proofs.CheckedFaults.{lacking_fault, fitting_fault}
use Rattle.document.proofs.ReceivedFaults.{lawful}

module _ (ms table : List ℕ) (G : List Entry) (s : Stamped) (grown : table ≡ table_after ms G) where
  -- the table that is tested is that of the history
  pub tested : {b : _} → lacks_room table s.id.replica ≡ b → lacks_room (table_after ms G) s.id.replica ≡ b
  tested is = ap (λ t. lacks_room t s.id.replica) (sym grown) ∙ is

  pub fault_lacking : lacks_room table s.id.replica ≡ true → check_fault ms (stamped_entries G) s ≡ Some UnknownReplica
  fault_lacking is = lacking_fault ms (stamped_entries G) s (tested is)

  pub fault_fitting : lacks_room table s.id.replica ≡ false → (r : Result ⊤ Refusal)
      → MatchResult r (λ _. fault_of (stamped_entries G) s ≡ None) (λ why. fault_of (stamped_entries G) s ≡ Some why)
      → MatchResult r (λ _. check_fault ms (stamped_entries G) s ≡ None) (λ why. check_fault ms (stamped_entries G) s ≡ Some why)
  fault_fitting is (Ok u) fault = fitting_fault ms (stamped_entries G) s (tested is) ∙ fault
  fault_fitting is (Err why) fault = fitting_fault ms (stamped_entries G) s (tested is) ∙ fault

  -- without room it is refused, and with room the history decides
  pub lawful_lacking : lacks_room table s.id.replica ≡ true → (r : Result ⊤ Refusal) → (IsOk r → ⊥)
      → IsOk r ↔ (IsFalse (lacks_room (table_after ms G) s.id.replica) × MayFollow (applied G) s)
  lawful_lacking is r none = (λ ok. absurd (none ok), λ both. absurd (true≢false (sym (tested is) ∙ both.0)))

  pub lawful_fitting : lacks_room table s.id.replica ≡ false → IsLegalStamped (stamped_entries G) → (r : Result ⊤ Refusal)
      → MatchResult r (λ _. fault_of (stamped_entries G) s ≡ None) (λ why. fault_of (stamped_entries G) s ≡ Some why)
      → StandsAlone s → IsOk r ↔ (IsFalse (lacks_room (table_after ms G) s.id.replica) × MayFollow (applied G) s)
  lawful_fitting is legal r fault alone =
      let decided = lawful G s legal r fault alone in
      (λ ok. (tested is, decided.0 ok), λ both. decided.1 both.1)
