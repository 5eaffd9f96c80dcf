-- A legal answer stays one as the history grows.
use Rattle.std.proofs.Common.{◌≡◌, inl, inr, ℕ, ◌≤◌, List, [], ◌∷◌, ◌++◌, length, refl, sym, ap, ◌∙◌, subst, arith}
use Rattle.semantics.specs.Stamped.{Stamped}
use Rattle.semantics.specs.Making.{Command}
use Rattle.semantics.specs.Entries.{Entry}
use Rattle.semantics.specs.LegalAnswer.{Request, OfCommand, OfPeer, Submitted, Reply, Made, RefusedAt, KeptAt, KnownAt, IsLegalAnswer}
use Rattle.semantics.specs.Delivery.{Delivered, Kept, Known, NotKept}
use Rattle.semantics.specs.WorldHistory.{BeginsWith, IsNotBelow}
use Rattle.semantics.specs.PeerAnswers.{answer_with, WasAnswered, IsPeerAnswer, IsAnswer}
use Rattle.semantics.proofs.Replies.{made_stays, refused_stays}
use Rattle.semantics.proofs.Beginnings.{first_of_longer, no_shorter}

command_stays : (p : ℕ) (more F : List Entry) (x : Submitted) (c : Command) (y : Reply) → IsLegalAnswer p F x c y
    → IsLegalAnswer p (more ++ F) x c y
command_stays p [] F x c y a = a
command_stays p (e ∷ more) F x c y a = one y (command_stays p more F x c y a)
  where
    one : (z : Reply) → IsLegalAnswer p (more ++ F) x c z → IsLegalAnswer p (e ∷ more ++ F) x c z
    one (Made a n) h = made_stays p (more ++ F) e x c a n h
    one (RefusedAt why m) h = refused_stays p (more ++ F) e x c why m h
    one (KeptAt m) h = h
    one (KnownAt m) h = h

was_longer : (p : ℕ) (ps : List ℕ) (more F : List Entry) (s : Stamped) (floor m : ℕ) (d : Delivered) → WasAnswered p ps F s floor m d
    → WasAnswered p ps (more ++ F) s floor m d
was_longer p ps more F s floor m d a = record {
  k = a.k;
  from = a.from;
  to = a.to;
  within = (let l : length F ≤ length (more ++ F) = no_shorter (more ++ F) F (more, refl) in omega (arith, a.within));
  waiting = a.waiting;
  answer = ap (λ (G : List Entry). answer_with p ps G a.waiting s) (first_of_longer a.k more F (omega (arith, a.to, a.within))) ∙ a.answer;
}

receipt_stays : (p : ℕ) (ps : List ℕ) (more F : List Entry) (x : Submitted) (s : Stamped) (y : Reply) → IsPeerAnswer p ps F x s y
    → IsPeerAnswer p ps (more ++ F) x s y
receipt_stays p ps more F x s (Made a n) h = h
receipt_stays p ps more F x s (KeptAt m) h = was_longer p ps more F s x.floor m Kept h
receipt_stays p ps more F x s (KnownAt m) h = was_longer p ps more F s x.floor m Known h
receipt_stays p ps more F x s (RefusedAt why m) (inl h) = inl (was_longer p ps more F s x.floor m (NotKept why) h)
receipt_stays p ps more F x s (RefusedAt why m) (inr (inl h)) = inr
    (inl (h.0, h.1, (let l : length F ≤ length (more ++ F) = no_shorter (more ++ F) F (more, refl) in omega (arith, h.2))))
receipt_stays p ps more F x s (RefusedAt why m) (inr (inr h)) = inr
    (inr (h.0, h.1, (let l : length F ≤ length (more ++ F) = no_shorter (more ++ F) F (more, refl) in omega (arith, h.2))))

pub answer_stays : (p : ℕ) (ps : List ℕ) (G F : List Entry) (x : Submitted) (y : Reply) → BeginsWith G F → IsAnswer p ps F x y
    → IsAnswer p ps G x y
answer_stays p ps G F x y b a = subst (λ (K : List Entry). IsAnswer p ps K x y) (sym b.1) (of_request x.request refl a)
  where
    of_request : (q : Request) → x.request ≡ q → IsAnswer p ps F x y → IsAnswer p ps (b.0 ++ F) x y
    of_request (OfCommand c) is = rw is (λ h. (command_stays p b.0 F x c y h.0, h.1))
    of_request (OfPeer s) is = rw is (receipt_stays p ps b.0 F x s y)

-- the reply is legal and not below the item's floor
abbrev pub IsGoodReply : (own : ℕ) (members : List ℕ) → List Entry → Submitted → Reply → Type 0
IsGoodReply p ps G x r = IsAnswer p ps G x r × IsNotBelow x.floor r

-- A good reply stays one as the history grows.
pub good_in_longer : (p : ℕ) (ps : List ℕ) (G F : List Entry) (x : Submitted) (r : Reply) → BeginsWith G F → IsGoodReply p ps F x r
    → IsGoodReply p ps G x r
good_in_longer p ps G F x r b h = (answer_stays p ps G F x r b h.0, h.1)
