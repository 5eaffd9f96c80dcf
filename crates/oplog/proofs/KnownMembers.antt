-- What is named after a history of members' operations: members alone.
use Rattle.std.proofs.Common.{◌≡◌, ◌≢◌, ◌<◌, inl, inr, ℕ, Bool, true, cond, max, List, [], ◌∷◌, refl, sym, ap, subst, ◌∙◌, arith}
use Rattle.std.specs.List.{list_all}
use Rattle.std.proofs.lemmas.Bool.{and_from, ne_eqb}
use Rattle.ids.specs.Members.{is_member}
use Rattle.ids.specs.Vectors.{names_only}
use Rattle.ids.proofs.CanonicalVectors.{at_first}
use Rattle.semantics.specs.Ids.{OpId, id_at}
use Rattle.semantics.specs.Operations.{Operation}
use Rattle.semantics.specs.LegalHistory.{IsAmong, IsLegal, has_id}
use Rattle.semantics.specs.NamedIds.{IsAttained, vector_of}
use Rattle.semantics.specs.Vectors.{Vector, AreAbove, IsCanonical, at}
use Rattle.semantics.specs.Entries.{Entry, applied}
use Rattle.semantics.proofs.AppliedVectors.{at-vector_of, canonical-vector_of, legal_counters}
use Rattle.semantics.proofs.EntryHistories.{all_named}
use Rattle.semantics.proofs.LegalFacts.{among_from}
use Rattle.oplog.specs.Logs.{AreOfMembers}

-- ---- what a canonical vector names

above_among : (p : ℕ) (v : Vector) → AreAbove p v → (a : OpId) → IsAmong a v → p < a.replica
above_among p [] h a m = absurd m
above_among p (b ∷ v) h a (inl e) = subst (λ (c : OpId). p < c.replica) (sym e) h.0
above_among p (b ∷ v) h a (inr m) = above_among p v h.1 a m

-- for each replica in it its counter there, which isn't 0
pub at_among : (v : Vector) → IsCanonical v → (a : OpId) → IsAmong a v → (at v a.replica ≡ a.counter) × (a.counter ≢ 0)
at_among [] c a m = absurd m
at_among (b ∷ v) c a (inl e) =
    subst (λ (x : OpId). (at (b ∷ v) x.replica ≡ x.counter) × (x.counter ≢ 0)) (sym e) (at_first b v c.1, c.0)
at_among (b ∷ v) c a (inr m) =
    let rest = at_among v c.2 a m in
    let above = above_among b.replica v c.1 a m in
    let other = ne_eqb b.replica a.replica (λ same. absurd (omega (arith, same, above))) in
    (ap (λ t. cond t (max b.counter (at v a.replica)) (at v a.replica)) other ∙ rest.0, rest.1)

pub attained_all : (H : List Operation) (v : Vector) → IsCanonical v → IsAttained H v → (a : OpId) → IsAmong a v → has_id H a ≡ true
attained_all H v c h a m =
    let named = at_among v c a m in
    let id : id_at (at v a.replica) a.replica ≡ a = ap (λ n. id_at n a.replica) named.0 in
    subst (λ (b : OpId). has_id H b ≡ true) id (h a.replica (λ none. named.1 (sym named.0 ∙ none)))

-- ---- members

among_members : (table : List ℕ) (G : List Entry) → AreOfMembers table G → (x : Operation) → IsAmong x (applied G)
    → is_member table x.id.replica ≡ true
among_members table [] h x m = absurd m
among_members table (e ∷ G) h x (inl p) = subst (λ (y : Operation). is_member table y.id.replica ≡ true) (sym p) h.1
among_members table (e ∷ G) h x (inr m) = among_members table G h.0 x m

all_from : (f : OpId → Bool) (v : Vector) → ((a : OpId) → IsAmong a v → f a ≡ true) → list_all f v ≡ true
all_from f [] each = refl
all_from f (a ∷ v) each = and_from (f a) (list_all f v) (each a (inl refl)) (all_from f v (λ b m. each b (inr m)))

-- a vector whose counters are those of operations there
pub names_known : (ps : List ℕ) (G : List Entry) (v : Vector) → AreOfMembers ps G → IsCanonical v → IsAttained (applied G) v
    → names_only ps v ≡ true
names_known ps G v all canonical attained =
    all_from (λ (a : OpId). is_member ps a.replica) v
    (λ a m. let x = among_from (applied G) a (attained_all (applied G) v canonical attained a m) in
    subst (λ (b : OpId). is_member ps b.replica ≡ true) x.2 (among_members ps G all x.0 x.1))

-- the vector of all that was applied
pub names_applied : (ps : List ℕ) (G : List Entry) → AreOfMembers ps G → IsLegal (applied G) → names_only ps (vector_of (applied G)) ≡ true
names_applied ps G all legal =
    names_known ps G (vector_of (applied G)) all (canonical-vector_of (applied G) (legal_counters (applied G) legal))
    (all_named (applied G) (vector_of (applied G)) (at-vector_of (applied G))).attained
