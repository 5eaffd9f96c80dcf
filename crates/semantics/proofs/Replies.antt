-- Replies and readings stay legal as a history grows, and a serial stands in it once.
use Rattle.std.proofs.Common.{◌≡◌, ◌⊎◌, ℕ, suc, ◌<◌, ◌≤◌, Bool, true, false, cond, ◌==◌, nat_lt, List, [], ◌∷◌, length, Some, Err, refl}
use Rattle.std.proofs.Common.{sym, ap, ◌∙◌, subst, arith, eqb-true}
use Rattle.std.proofs.lemmas.Bool.{ne_eqb, leb-true}
use Rattle.ids.specs.declared.refusal.Refusal.{Refusal}
use Rattle.ids.specs.declared.refusal.Refusal.TheVariants.{NoMemory, BadFloor}
use Rattle.semantics.specs.Ids.{OpId}
use Rattle.semantics.specs.Stamped.{Stamped}
use Rattle.semantics.specs.Making.{Command, make}
use Rattle.semantics.specs.Entries.{Entry, Own, Peer, applied, entry_at, first_entries, IsAbove, IsEntryHistory}
use Rattle.semantics.specs.LegalAnswer.{Submitted, Made, RefusedAt, IsCause, LacksSerial, IsLegalAnswer, IsLegalReading, Asked, Reading}
use Rattle.semantics.specs.LegalAnswer.{reading_of}

pub entry_below : (n : ℕ) (G : List Entry) (e : Entry) → entry_at n G ≡ Some e → n < length G
entry_below n [] e h = cc
entry_below n (f ∷ G) e h = at_test (entry_below n G e) (length G == n) refl h
  where
    at_test : (entry_at n G ≡ Some e → n < length G) → (b : Bool) → (length G == n) ≡ b → cond b (Some f) (entry_at n G) ≡ Some e
        → n < suc (length G)
    at_test rest true t k = let is : length G ≡ n = eqb-true (length G) n t in omega arith
    at_test rest false t k = let below : n < length G = rest k in omega arith

pub entry_stays : (n : ℕ) (G : List Entry) (f e : Entry) → entry_at n G ≡ Some e → entry_at n (f ∷ G) ≡ Some e
entry_stays n G f e h =
    let below : n < length G = entry_below n G e h in
    ap (λ b. cond b (Some f) (entry_at n G)) (ne_eqb (length G) n (λ is. absurd (omega arith))) ∙ h

pub first_stay : (m : ℕ) (G : List Entry) (f : Entry) → m ≤ length G → first_entries m (f ∷ G) ≡ first_entries m G
first_stay m G f h = ap (λ b. cond b (f ∷ G) (first_entries m G)) (lt-false (nat_lt (length G) m) refl)
  where
    lt-false : (b : Bool) → nat_lt (length G) m ≡ b → nat_lt (length G) m ≡ false
    lt-false false e = e
    lt-false true e = let k : length G < m = leb-true (suc (length G)) m e in absurd (omega arith)

pub made_stays : (p : ℕ) (G : List Entry) (e : Entry) (x : Submitted) (c : Command) (a : OpId) (n : ℕ) → IsLegalAnswer p G x c (Made a n)
    → IsLegalAnswer p (e ∷ G) x c (Made a n)
made_stays p G e x c a n h = (h.0, entry_stays n G e (Own x.client x.serial c h.0) h.1, h.2)

pub refused_stays : (p : ℕ) (G : List Entry) (e : Entry) (x : Submitted) (c : Command) (why : Refusal) (m : ℕ)
    → IsLegalAnswer p G x c (RefusedAt why m) → IsLegalAnswer p (e ∷ G) x c (RefusedAt why m)
refused_stays p G e x c why m h = (let l : m ≤ length G = h.0 in omega arith, stays.0, stays.1)
  where
    stays : (IsCause p (e ∷ G) x c m why) × LacksSerial x.client x.serial (first_entries m (e ∷ G))
    stays = subst
        (λ F. ((make (applied F) p c ≡ Err why) ⊎ (why ≡ NoMemory) ⊎ ((why ≡ BadFloor) × (m < x.floor))) × LacksSerial x.client x.serial F)
        (sym (first_stay m G e h.0)) (h.1, h.2)

pub reading_stays : (G : List Entry) (e : Entry) (m : ℕ) (q : Asked) (r : Reading) → IsLegalReading G m q r → IsLegalReading (e ∷ G) m q r
reading_stays G e m q r h = (let l : m ≤ length G = h.0 in omega arith, h.1 ∙ ap (λ F. reading_of F q) (sym (first_stay m G e h.0)))

-- ---- serials

pub before : (p : ℕ) (e : Entry) (G : List Entry) → IsEntryHistory p (e ∷ G) → IsEntryHistory p G
before p (Own k n c s) G h = h.0
before p (Peer s) G h = h.0

serial_below : (client serial above : ℕ) (c : Command) (s : Stamped) (n : ℕ) (G : List Entry) → IsAbove client above G
    → entry_at n G ≡ Some (Own client serial c s) → serial < above
serial_below client serial above c s n [] h e = cc
serial_below client serial above c s n (Own k j d t ∷ G) h e = at_test (serial_below client serial above c s n G h.1) (length G == n) e
  where
    at_test : (entry_at n G ≡ Some (Own client serial c s) → serial < above) → (b : Bool)
        → cond b (Some (Own k j d t)) (entry_at n G) ≡ Some (Own client serial c s) → serial < above
    at_test rest true q =
        let same : k ≡ client = cc in
        let is : j ≡ serial = cc in
        let l : j < above = h.0 same in
        omega arith
    at_test rest false q = rest q
serial_below client serial above c s n (Peer t ∷ G) h e = at_test (serial_below client serial above c s n G h) (length G == n) e
  where
    at_test : (entry_at n G ≡ Some (Own client serial c s) → serial < above) → (b : Bool)
        → cond b (Some (Peer t)) (entry_at n G) ≡ Some (Own client serial c s) → serial < above
    at_test rest true q = absurd (no q)
      where
        no : Some (Peer t) ≡ Some (Own client serial c s) → ⊥
        no w = cc
    at_test rest false q = rest q

-- a client's serial isn't that of the newest entry and of an older one
newest_alone : (p : ℕ) (e : Entry) (G : List Entry) (client serial n : ℕ) (c d : Command) (s t : Stamped) → IsEntryHistory p (e ∷ G)
    → e ≡ Own client serial c s → entry_at n G ≡ Some (Own client serial d t) → ⊥
newest_alone p (Peer u) G client serial n c d s t h e k = no e
  where
    no : Peer u ≡ Own client serial c s → ⊥
    no w = cc
newest_alone p (Own i j b u) G client serial n c d s t h e k =
    let who : i ≡ client = cc in
    let which : j ≡ serial = cc in
    let l : serial < j = serial_below client serial j d t n G (subst (λ q. IsAbove q j G) who h.3) k in
    omega arith

pub serial_once : (p : ℕ) (G : List Entry) (client serial n m : ℕ) (c d : Command) (s t : Stamped) → IsEntryHistory p G
    → entry_at n G ≡ Some (Own client serial c s) → entry_at m G ≡ Some (Own client serial d t) → n ≡ m
serial_once p [] client serial n m c d s t h e f = cc
serial_once p (x ∷ G) client serial n m c d s t h e f = at_tests (serial_once p G client serial n m c d s t (before p x G h))
    (length G == n) refl e (length G == m) refl f
  where
    at_tests : (entry_at n G ≡ Some (Own client serial c s) → entry_at m G ≡ Some (Own client serial d t) → n ≡ m)
        → (a : Bool) → (length G == n) ≡ a → cond a (Some x) (entry_at n G) ≡ Some (Own client serial c s)
        → (b : Bool) → (length G == m) ≡ b → cond b (Some x) (entry_at m G) ≡ Some (Own client serial d t) → n ≡ m
    at_tests rest true u q true v w = sym (eqb-true (length G) n u) ∙ eqb-true (length G) m v
    at_tests rest true u q false v w = (let is : x ≡ Own client serial c s = cc in
        absurd (newest_alone p x G client serial m c d s t h is w))
    at_tests rest false u q true v w = (let is : x ≡ Own client serial d t = cc in
        absurd (newest_alone p x G client serial n d c t s h is q))
    at_tests rest false u q false v w = rest q w
