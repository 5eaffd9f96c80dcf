-- An entry history is legal, and the vector of all that was applied stands for it.
use Rattle.std.proofs.Common.{◌≡◌, inl, inr, ℕ, suc, ◌≤◌, Bool, true, false, ◌&&◌, List, [], ◌∷◌, length, Ok, refl, sym, ap, ◌∙◌, subst}
use Rattle.semantics.specs.Ids.{id_at}
use Rattle.semantics.specs.Operations.{Operation}
use Rattle.semantics.specs.LegalHistory.{IsLegal, has_id}
use Rattle.semantics.specs.Vectors.{Vector, at, covers}
use Rattle.semantics.specs.NamedIds.{StandsFor, NamesAll}
use Rattle.semantics.specs.Stamped.{Stamped, operation_after, operations_of, MayFollow, IsLegalStamped}
use Rattle.semantics.specs.Making.{Command, make}
use Rattle.semantics.specs.Entries.{Entry, Own, Peer, stamped_entries, IsEntryHistory}
use Rattle.semantics.proofs.AbsentIds.{has_id-among}
use Rattle.semantics.proofs.VectorCounters.{covers-from}
use Rattle.semantics.proofs.NamedOperations.{vector_counts_id, vector_cases, legal}
use Rattle.semantics.proofs.MadeLawful.{made_lawful}

-- the vector of all that was applied stands for it
pub all_named : (G : List Operation) (v : Vector) → NamesAll G v → StandsFor v (has_id G) G
all_named G v h = record {
  same = λ a. same_bool (has_id G a) (covers v a)
      (λ t. covers-from v a (subst (λ (n : ℕ). a.counter ≤ n) (sym (h a.replica)) (vector_counts_id G a t)));
  attained = λ p n. elim (vector_cases G p) [
    | inl z ↦ absurd (n (h p ∙ z))
    | inr r ↦ has_id-among G r.0 (id_at (at v p) p) r.1
        (let c : r.0.id.counter ≡ at v p = r.3 ∙ sym (h p) in let q : r.0.id.replica ≡ p = r.2 in
        λ i. record { counter = c i; replica = q i })
  ];
}
  where
    same_bool : (b c : Bool) → (b ≡ true → c ≡ true) → b ≡ (b && c)
    same_bool true c f = sym (f refl)
    same_bool false c f = refl

pub own_may_follow : (G : List Operation) (s : Stamped) → IsLegal G → NamesAll G s.vector → (p : ℕ) (c : Command)
    → make G p c ≡ Ok (operation_after G s) → MayFollow G s
own_may_follow G s l n p c k =
    record { attained = (all_named G s.vector n).attained; follows = (made_lawful G l p c (operation_after G s) k).0 }

-- an entry history is legal
pub entries_legal : (p : ℕ) (G : List Entry) → IsEntryHistory p G → IsLegalStamped (stamped_entries G)
entries_legal p [] h = tt
entries_legal p (Own client serial c s ∷ G) h =
    let before = entries_legal p G h.0 in
    (before, own_may_follow (operations_of (stamped_entries G)) s (legal (stamped_entries G) before) h.1 p c h.2)
entries_legal p (Peer s ∷ G) h = (entries_legal p G h.0, h.1)

-- each entry has one operation
pub length-applied : (G : List Entry) → length (operations_of (stamped_entries G)) ≡ length G
length-applied [] = refl
length-applied (e ∷ G) = ap suc (length-applied G)
