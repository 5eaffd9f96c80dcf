-- A world grows by what one replica makes, and the others stay replicas of it.
use Rattle.std.proofs.Common.{◌≡◌, ◌⊎◌, inl, inr, ℕ, ◌<◌, ◌≤◌, true, List, length, sym, ◌∙◌, arith}
use Rattle.std.proofs.lemmas.Bool.{ltb-true, lt-ltb}
use Rattle.semantics.specs.Operations.{Operation}
use Rattle.semantics.specs.LegalHistory.{IsLegal, IsAmong, has_id}
use Rattle.semantics.specs.Stamped.{Stamped}
use Rattle.semantics.specs.Making.{is_full}
use Rattle.semantics.specs.Entries.{Entry}
use Rattle.semantics.specs.Replica.{Replica, operations}
use Rattle.semantics.specs.OneWorld.{AreWithin, IsOfWorld}
use Rattle.semantics.specs.Exchange.{IsSettled}
use Rattle.semantics.specs.WorldHistory.{BeginsWith}
use Rattle.semantics.proofs.Beginnings.{no_shorter}

-- L is the world K later: all that is new was made by replica p
pub record IsGrownBy (p : ℕ) (K L : List Operation) : Type 0 where
  pub legal : IsLegal L
  pub within : AreWithin K L
  pub new : (x : Operation) → IsAmong x L → IsAmong x K ⊎ (x.id.replica ≡ p)

pub grown_not : (p : ℕ) (K : List Operation) → IsLegal K → IsGrownBy p K K
grown_not p K l = record { legal = l; within = λ x m. m; new = λ x m. inl m }

pub grown_further : (p : ℕ) (K L M : List Operation) → IsGrownBy p K L → IsGrownBy p L M → IsGrownBy p K M
grown_further p K L M k l = record {
  legal = l.legal;
  within = λ x m. l.within x (k.within x m);
  new = λ x m. elim (l.new x m) [ inl n ↦ k.new x n | inr e ↦ inr e ];
}

pub of_grown : (K L : List Operation) (s : Stamped) → AreWithin K L → IsOfWorld K s → IsOfWorld L s
of_grown K L s w h = record { history = h.history; legal = h.legal; within = λ x m. w x (h.within x m); there = h.there }

-- a settled replica stays settled as another one makes something
pub settled_elsewhere : (p q : ℕ) (K L : List Operation) (r : Replica) → (p ≡ q → ⊥) → IsGrownBy p K L → IsSettled K q r → IsSettled L q r
settled_elsewhere p q K L r other g h = record {
  world = record {
    own = h.world.own;
    running = h.world.running;
    within = λ x m. g.within x (h.world.within x m);
    made = made;
    waits = λ s m. of_grown K L s g.within (h.world.waits s m);
    none_dropped = h.world.none_dropped;
  };
  end = h.end;
  few = h.few;
}
  where
    made : (x : Operation) → IsAmong x L → x.id.replica ≡ q → has_id (operations r) x.id ≡ true
    made x m e = elim (g.new x m) [ inl n ↦ h.world.made x n e | inr f ↦ absurd (other (sym f ∙ e)) ]

-- a full history stays full
pub full_stays : (G F : List Entry) → BeginsWith G F → is_full F ≡ true → is_full G ≡ true
full_stays G F b e =
    let full : 1048575 < length F = ltb-true 1048575 (length F) e in
    let longer : length F ≤ length G = no_shorter G F b in
    lt-ltb 1048575 (length G) (omega arith)
