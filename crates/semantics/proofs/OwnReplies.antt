-- What a replica itself replies is legal.
use Rattle.std.proofs.Common.{◌≡◌, inl, ℕ, suc, ◌<◌, cond, List, [], ◌∷◌, length, Some, Err, refl, sym, ap, subst, arith, eq-eqb}
use Rattle.std.proofs.lemmas.Bool.{le-leb}
use Rattle.ids.specs.declared.refusal.Refusal.{Refusal}
use Rattle.semantics.specs.Stamped.{Stamped}
use Rattle.semantics.specs.Making.{Command, make}
use Rattle.semantics.specs.Entries.{Entry, Own, Peer, applied, entry_at, first_entries, IsAbove}
use Rattle.semantics.specs.LegalAnswer.{Submitted, Made, RefusedAt, LacksSerial, IsLegalAnswer}

pub newest_at : (e : Entry) (G : List Entry) → entry_at (length G) (e ∷ G) ≡ Some e
newest_at e G = ap (λ b. cond b (Some e) (entry_at (length G) G)) (eq-eqb (length G) (length G) refl)

pub own_made : (p : ℕ) (G : List Entry) (x : Submitted) (c : Command) (s : Stamped)
    → IsLegalAnswer p (Own x.client x.serial c s ∷ G) x c (Made s.id (length G))
own_made p G x c s = (s, newest_at (Own x.client x.serial c s) G, refl)

pub all_first : (G : List Entry) → first_entries (length G) G ≡ G
all_first [] = refl
all_first (e ∷ G) = ap (λ b. cond b (e ∷ G) (first_entries (suc (length G)) G)) (le-leb (suc (length G)) (suc (length G)) (omega arith))

-- a serial above all is none of them
pub above_lacks : (client serial : ℕ) (G : List Entry) → IsAbove client serial G → LacksSerial client serial G
above_lacks client serial [] h = tt
above_lacks client serial (Own k n c s ∷ G) h = (λ e f. (let l : n < serial = h.0 e in omega arith), above_lacks client serial G h.1)
above_lacks client serial (Peer s ∷ G) h = above_lacks client serial G h

pub own_refused : (p : ℕ) (G : List Entry) (x : Submitted) (c : Command) (why : Refusal) → IsAbove x.client x.serial G
    → make (applied G) p c ≡ Err why → IsLegalAnswer p G x c (RefusedAt why (length G))
own_refused p G x c why above e = (
  omega arith,
  inl (subst (λ F. make (applied F) p c ≡ Err why) (sym (all_first G)) e),
  subst (LacksSerial x.client x.serial) (sym (all_first G)) (above_lacks x.client x.serial G above),
)
