-- What is recorded of a history determines its operations.
use Rattle.std.proofs.Common.{◌≡◌, ℕ, List, [], ◌∷◌, map, Ok, Err, Result, refl, sym, ap, ◌∙◌, subst, cond, nat_lt, length, suc, Bool, true}
use Rattle.std.proofs.Common.{false}
use Rattle.semantics.specs.Operations.{Operation}
use Rattle.semantics.specs.Stamped.{Stamped, operation_after}
use Rattle.semantics.specs.Making.{Command, make}
use Rattle.ids.specs.declared.refusal.Refusal.{Refusal}
use Rattle.semantics.specs.Entries.{Entry, Own, Peer, IsEntryHistory, applied, first_entries}
use Rattle.semantics.specs.Journals.{Recorded, Commanded, Received, recorded}

-- the records after the first
abbrev after_first : List Recorded → List Recorded
after_first [] = []
after_first (x ∷ xs) = xs

-- the command, or the operation, of the first record
abbrev first_command : Command → List Recorded → Command
first_command d (Commanded a c ∷ xs) = c
first_command d _ = d

abbrev first_operation : Stamped → List Recorded → Stamped
first_operation d (Received s ∷ xs) = s
first_operation d _ = d

abbrev operation_in : Operation → Result Operation Refusal → Operation
operation_in d (Ok o) = o
operation_in d (Err why) = d

pub same_operations : (p : ℕ) (G F : List Entry) → IsEntryHistory p G → IsEntryHistory p F → map recorded G ≡ map recorded F
    → applied G ≡ applied F
same_operations p [] [] hg hf e = refl
same_operations p [] (f ∷ F) hg hf e = absurd (cc)
same_operations p (e ∷ G) [] hg hf h = absurd (cc)
same_operations p (Own k n c s ∷ G) (Own j m d t ∷ F) hg hf e =
    let before : applied G ≡ applied F = same_operations p G F hg.0 hf.0 (ap after_first e) in
    let o : Operation = operation_after (applied G) s in
    let made : make (applied F) p d ≡ Ok o =
    (λ i. make (sym before i) p (first_command c (sym e i))) ∙ hg.2 in
    let same : o ≡ operation_after (applied F) t = ap (operation_in o) (sym made ∙ hf.2) in
    λ i. same i ∷ before i
same_operations p (Peer s ∷ G) (Peer t ∷ F) hg hf e =
    let before : applied G ≡ applied F = same_operations p G F hg.0 hf.0 (ap after_first e) in
    λ i. operation_after (before i) (first_operation s (e i)) ∷ before i
same_operations p (Own k n c s ∷ G) (Peer t ∷ F) hg hf e = absurd (cc)
same_operations p (Peer s ∷ G) (Own j m d t ∷ F) hg hf e = absurd (cc)

-- histories with the same records are as long
pub same_length : (G F : List Entry) → map recorded G ≡ map recorded F → length G ≡ length F
same_length [] [] e = refl
same_length [] (f ∷ F) e = absurd (cc)
same_length (g ∷ G) [] e = absurd (cc)
same_length (g ∷ G) (f ∷ F) e = ap suc (same_length G F (ap after_first e))

-- and so are their beginnings
pub first_records : (m : ℕ) (G F : List Entry) → map recorded G ≡ map recorded F
    → map recorded (first_entries m G) ≡ map recorded (first_entries m F)
first_records m [] [] e = refl
first_records m [] (f ∷ F) e = absurd (cc)
first_records m (g ∷ G) [] e = absurd (cc)
first_records m (g ∷ G) (f ∷ F) e =
    ap (λ n. map recorded (cond (nat_lt n m) (g ∷ G) (first_entries m G))) (same_length G F (ap after_first e))
    ∙ by (first_records m G F (ap after_first e)) (nat_lt (length F) m)
  where
    by : map recorded (first_entries m G) ≡ map recorded (first_entries m F) → (b : Bool)
        → map recorded (cond b (g ∷ G) (first_entries m G)) ≡ map recorded (cond b (f ∷ F) (first_entries m F))
    by rest true = e
    by rest false = rest
