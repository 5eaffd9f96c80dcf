-- The rest of a history that comes in requests, one operation after the other.
use Rattle.std.proofs.Common.{◌≡◌, ◌⊎◌, inl, inr, suc, ◌≤◌, Bool, true, false, not, cond, List, [], ◌∷◌, ◌++◌, map, reverse, length, refl}
use Rattle.std.proofs.Common.{sym, ap, ◌∙◌, subst, append_assoc, true≢false, arith}
use Rattle.std.proofs.lemmas.List.{reverse-append, map-append}
use Rattle.semantics.specs.Ids.{OpId}
use Rattle.semantics.specs.Operations.{Operation}
use Rattle.semantics.specs.LegalHistory.{IsAmong, has_id}
use Rattle.semantics.specs.Vectors.{Vector, covers}
use Rattle.semantics.specs.Stamped.{Stamped, operations_of, IsLegalStamped}
use Rattle.semantics.specs.Entries.{missing}
use Rattle.semantics.specs.LegalAnswer.{Request, OfPeer}
use Rattle.semantics.specs.Replica.{Replica, operations}
use Rattle.semantics.specs.OneWorld.{AreWithin}
use Rattle.semantics.proofs.CompleteExchange.{one_more}

-- The history F goes on from a beginning, and these requests are for the rest, the oldest first: each operation is the next
-- request, or the base had it.
pub data Comes (base : List Operation) (F : List Stamped) : List Stamped → List Request → Type 0 where
  End : Comes base F F []
  Had : (s : Stamped) (there : List Stamped) (qs : List Request) → has_id base s.id ≡ true → Comes base F (s ∷ there) qs
      → Comes base F there qs
  Next : (s : Stamped) (there : List Stamped) (qs : List Request) → Comes base F (s ∷ there) qs → Comes base F there (OfPeer s ∷ qs)

-- r has all operations of the history
abbrev pub HasThose : Replica → List Stamped → Type 0
HasThose r F = (i : OpId) → has_id (operations_of F) i ≡ true → has_id (operations r) i ≡ true

pub those_from : (r : Replica) (F : List Stamped) → ((s : Stamped) → IsAmong s F → has_id (operations r) s.id ≡ true) → HasThose r F
those_from r [] h = λ i e. absurd (true≢false (sym e))
those_from r (s ∷ F) h = one_more s F r (h s (inl refl)) (those_from r F (λ x m. h x (inr m)))

-- P holds of each of these
abbrev pub AllAre : (Stamped → Type 0) → List Stamped → Type 0
AllAre P F = (s : Stamped) → IsAmong s F → P s

pub one_more_is : (P : Stamped → Type 0) (s : Stamped) (F : List Stamped) → P s → AllAre P F → AllAre P (s ∷ F)
one_more_is P s F p h x (inl e) = subst P (sym e) p
one_more_is P s F p h x (inr m) = h x m

-- P holds of each of these, unless L holds
pub all_unless : (P : Stamped → Type 0) (L : Type 0) (F : List Stamped) → ((s : Stamped) → IsAmong s F → P s ⊎ L) → AllAre P F ⊎ L
all_unless P L [] h = inl (λ s m. absurd m)
all_unless P L (s ∷ F) h = elim (h s (inl refl)) [
  | inr l ↦ inr l
  | inl p ↦ elim (all_unless P L F (λ x m. h x (inr m))) [ inr l ↦ inr l | inl q ↦ inl (one_more_is P s F p q) ]
]

-- the first request is for an operation, and P holds of those before it
pub record HasNext (base : List Operation) (F : List Stamped) (P : Stamped → Type 0) (q : Request) (qs : List Request) : Type 0 where
  pub operation : Stamped
  pub before : List Stamped
  pub is : q ≡ OfPeer operation
  pub had : AllAre P before
  pub comes : Comes base F (operation ∷ before) qs

module _ (base : List Operation) (F : List Stamped) where
  -- what a vector doesn't cover comes, where the base has what it covers
  pub comes_from : (v : Vector) (more there : List Stamped) (qs : List Request)
      → ((s : Stamped) → IsAmong s more → covers v s.id ≡ true → has_id base s.id ≡ true)
      → Comes base F (more ++ there) qs → Comes base F there (map OfPeer (reverse (missing v more)) ++ qs)
  comes_from v [] there qs had h = h
  comes_from v (s ∷ more) there qs had h = at_test (comes_from v more there) (covers v s.id) refl
    where
      as_first : (M : List Stamped) → map OfPeer (reverse M) ++ OfPeer s ∷ qs ≡ map OfPeer (reverse (s ∷ M)) ++ qs
      as_first M =
          sym (append_assoc (map OfPeer (reverse M)) (OfPeer s ∷ []) qs)
          ∙ ap (λ (rs : List Request). rs ++ qs)
          (sym (map-append OfPeer (reverse M) (s ∷ [])) ∙ ap (map OfPeer) (sym (reverse-append (s ∷ []) M)))

      at_test : ((rs : List Request) → ((x : Stamped) → IsAmong x more → covers v x.id ≡ true → has_id base x.id ≡ true)
          → Comes base F (more ++ there) rs → Comes base F there (map OfPeer (reverse (missing v more)) ++ rs))
          → (b : Bool) → covers v s.id ≡ b
          → Comes base F there (map OfPeer (reverse (cond (not b) (s ∷ missing v more) (missing v more))) ++ qs)
      at_test rest true e = rest qs (λ x m. had x (inr m)) (Had s (more ++ there) qs (had s (inl refl) e) h)
      at_test rest false e = subst (Comes base F there) (as_first (missing v more))
          (rest (OfPeer s ∷ qs) (λ x m. had x (inr m)) (Next s (more ++ there) qs h))

  pub beginning_legal : (there : List Stamped) (qs : List Request) → Comes base F there qs → IsLegalStamped F → IsLegalStamped there
  beginning_legal _ _ End l = l
  beginning_legal there qs (Had s _ _ e h) l = (beginning_legal (s ∷ there) qs h l).0
  beginning_legal there _ (Next s _ qs h) l = (beginning_legal (s ∷ there) qs h l).0

  pub beginning_within : (K : List Operation) (there : List Stamped) (qs : List Request) → Comes base F there qs
      → AreWithin (operations_of F) K → AreWithin (operations_of there) K
  beginning_within K _ _ End w = w
  beginning_within K there qs (Had s _ _ e h) w = λ x m. beginning_within K (s ∷ there) qs h w x (inr m)
  beginning_within K there _ (Next s _ qs h) w = λ x m. beginning_within K (s ∷ there) qs h w x (inr m)

  pub beginning_among : (there : List Stamped) (qs : List Request) → Comes base F there qs → (x : Stamped) → IsAmong x there → IsAmong x F
  beginning_among _ _ End x m = m
  beginning_among there qs (Had s _ _ e h) x m = beginning_among (s ∷ there) qs h x (inr m)
  beginning_among there _ (Next s _ qs h) x m = beginning_among (s ∷ there) qs h x (inr m)

  pub beginning_shorter : (there : List Stamped) (qs : List Request) → Comes base F there qs → length there ≤ length F
  beginning_shorter _ _ End = omega arith
  beginning_shorter there qs (Had s _ _ e h) =
      let l : suc (length there) ≤ length F = beginning_shorter (s ∷ there) qs h in
      omega (arith, l)
  beginning_shorter there _ (Next s _ qs h) =
      let l : suc (length there) ≤ length F = beginning_shorter (s ∷ there) qs h in
      omega (arith, l)

  module _ (P : Stamped → Type 0) (based : (s : Stamped) → has_id base s.id ≡ true → P s) where
    pub next_comes : (there : List Stamped) (all : List Request) → Comes base F there all → AllAre P there
        → (q : Request) (qs : List Request) → all ≡ q ∷ qs → HasNext base F P q qs
    next_comes _ _ End had q qs e = cc
    next_comes there all (Had s _ _ b h) had q qs e = next_comes (s ∷ there) all h (one_more_is P s there (based s b) had) q qs e
    next_comes there _ (Next s _ all h) had q qs e =
        let first : OfPeer s ≡ q = cc in
        let rest : all ≡ qs = cc in
        record { operation = s; before = there; is = sym first; had = had; comes = subst (Comes base F (s ∷ there)) rest h }

    -- where no request is left, P holds of all the history
    pub all_came : (there : List Stamped) (all : List Request) → Comes base F there all → AllAre P there → all ≡ [] → AllAre P F
    all_came _ _ End had e = had
    all_came there all (Had s _ _ b h) had e = all_came (s ∷ there) all h (one_more_is P s there (based s b) had) e
    all_came there _ (Next s _ all h) had e = cc
