-- The first test of a ready operation and the tests against the history, apart.
use Rattle.std.proofs.Common.{◌≡◌, ℕ, Bool, true, false, cond, List, Some, None, refl, sym, ap, ◌∙◌}
use Rattle.ids.specs.Tables.{lacks_room}
use Rattle.ids.specs.declared.refusal.Refusal.TheVariants.{UnknownReplica}
use Rattle.semantics.specs.Stamped.{Stamped}
use Rattle.semantics.specs.Faults.{fault_of}
use Rattle.semantics.specs.Joining.{table_with, check_fault}

module _ (ms : List ℕ) (F : List Stamped) (s : Stamped) where
  pub lacking_fault : lacks_room (table_with ms F) s.id.replica ≡ true → check_fault ms F s ≡ Some UnknownReplica
  lacking_fault e = ap (λ b. cond b (Some UnknownReplica) (fault_of F s)) e

  pub fitting_fault : lacks_room (table_with ms F) s.id.replica ≡ false → check_fault ms F s ≡ fault_of F s
  fitting_fault e = ap (λ b. cond b (Some UnknownReplica) (fault_of F s)) e

  -- where no test fails, there is room, and no fault against the history
  pub faultless_parts : check_fault ms F s ≡ None → (lacks_room (table_with ms F) s.id.replica ≡ false) × (fault_of F s ≡ None)
  faultless_parts h = by (lacks_room (table_with ms F) s.id.replica) refl
    where
      by : (b : Bool) → lacks_room (table_with ms F) s.id.replica ≡ b
          → (lacks_room (table_with ms F) s.id.replica ≡ false) × (fault_of F s ≡ None)
      by true e = (let z : Some UnknownReplica ≡ None = sym (lacking_fault e) ∙ h in cc)
      by false e = (e, sym (fitting_fault e) ∙ h)
