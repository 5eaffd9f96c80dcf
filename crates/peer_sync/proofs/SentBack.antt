-- What is sent is read back.
use Rattle.std.proofs.Common.{◌≡◌, ℕ, List, [], ◌∷◌, ◌++◌, map, IsTrue, Result, Ok, sym, ap, ◌∙◌, subst}
use Rattle.std.specs.List.{All}
use Rattle.std.proofs.lemmas.List.Elements.{All-nil, All-cons, All-head, All-tail}
use Rattle.ids.specs.declared.refusal.Refusal.{Refusal}
use Rattle.semantics.specs.Stamped.{Stamped}
use Rattle.semantics.specs.Vectors.{Vector}
use Rattle.engine.specs.operation.declared.op.Op.{Op}
use Rattle.engine.specs.operation.Ops.{stamped_of}
use Rattle.wire.specs.Bundles.{bundle_form}
use Rattle.wire.specs.Messages.{hello_form}
use Rattle.wire.specs.Sent.{CanBeSent, are_counters}
use Rattle.peer_sync.specs.Sending.{without_end}
use Rattle.peer_sync.proofs.EndedLines.{without_end-ended}

-- a vector's line with its line feed
pub hello_back : (v w : Vector) (line text : List ℕ) → w ≡ v → text ≡ line ++ 10 ∷ []
    → (IsTrue (are_counters w) → hello_form line ≡ Ok w) → IsTrue (are_counters v) → hello_form (without_end text) ≡ Ok v
hello_back v w line text is ended back sent =
    ap hello_form (ap without_end ended ∙ without_end-ended line) ∙ back (subst (λ (u : Vector). IsTrue (are_counters u)) (sym is) sent)
    ∙ ap Ok is

-- the vector that was read is the one that the hello has
pub same_vector : (w v : Vector) (text line : List ℕ) → line ≡ text → hello_form line ≡ Ok w → hello_form text ≡ Ok v → w ≡ v
same_vector w v text line is read form =
    let here : hello_form text ≡ Ok w = subst (λ (l : List ℕ). hello_form l ≡ Ok w) is read in
    let equal : ◌≡◌ {A = Result Vector Refusal} (Ok w) (Ok v) = sym here ∙ form in
    cc

unmapped : {X Y : Type 0} (P : X → Type 0) (f : Y → X) (ys : List Y) → All P (map f ys) → All (λ y. P (f y)) ys
unmapped P f [] h = All-nil (λ y. P (f y))
unmapped P f (y ∷ ys) h = All-cons (λ x. P (f x)) y ys (All-head P (f y) (map f ys) h) (unmapped P f ys (All-tail P (f y) (map f ys) h))

-- a bundle, if it is read as its operations
pub answer_back : (xs ys : List Op) (ss : List Stamped) (text : List ℕ) → ys ≡ xs → map stamped_of xs ≡ ss
    → (All (λ (o : Op). CanBeSent (stamped_of o)) ys → bundle_form [] text ≡ Ok (map stamped_of ys)) → All CanBeSent ss
    → bundle_form [] text ≡ Ok ss
answer_back xs ys ss text slice is back sent =
    let all : map stamped_of ys ≡ ss = ap (map stamped_of) slice ∙ is in
    back (unmapped CanBeSent stamped_of ys (subst (λ (rs : List Stamped). All CanBeSent rs) (sym all) sent)) ∙ ap Ok all
