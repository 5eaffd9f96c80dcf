-- Vectors by their counters.
use Rattle.std.proofs.Common.{◌≡◌, ◌≢◌, ◌⊎◌, inl, inr, ℕ, ◌≤◌, max, Bool, true, false, cond, ◌==◌, nat_le, List, [], ◌∷◌, refl, sym, ap}
use Rattle.std.proofs.Common.{◌∙◌, subst, true≢false, arith, le_trans}
use Rattle.std.specs.List.{list_all, list_any}
use Rattle.std.proofs.Math.Nat.{le-max_left, le-max_right, max-le}
use Rattle.std.proofs.lemmas.Bool.{or_parts, or_from, and_parts, and_from, leb-true, le-leb, eqb-true, eq-eqb}
use Rattle.semantics.specs.Ids.{OpId}
use Rattle.semantics.specs.Operations.{Operation}
use Rattle.semantics.specs.NamedIds.{greatest_counter}
use Rattle.semantics.specs.Vectors.{Vector, at, greatest, covers, is_at_most}
use Rattle.semantics.specs.Stamped.{Stamped}
use Rattle.semantics.specs.Faults.{is_ready}

at_both : (b : Bool) (c m n : ℕ) → (b ≡ true → c ≤ n) → m ≤ n → cond b (max c m) m ≤ n
at_both true c m n h k = max-le (h refl) k
at_both false c m n h k = k

-- each counter is within a bound where each id named is
pub at-within : (f : ℕ → ℕ) (v : Vector) → list_all (λ a. nat_le a.counter (f a.replica)) v ≡ true → (p : ℕ) → at v p ≤ f p
at-within f [] h p = omega arith
at-within f (a ∷ v) h p =
    let both = and_parts (nat_le a.counter (f a.replica)) (list_all (λ x. nat_le x.counter (f x.replica)) v) h in
    at_both (a.replica == p) a.counter (at v p) (f p)
    (λ e. subst (λ (q : ℕ). a.counter ≤ f q) (eqb-true a.replica p e) (leb-true a.counter (f a.replica) both.0))
    (at-within f v both.1 p)

at_first : (b : Bool) (c m : ℕ) → b ≡ true → c ≤ cond b (max c m) m
at_first true c m e = le-max_left c m
at_first false c m e = absurd (true≢false (sym e))

at_rest : (b : Bool) (c m : ℕ) → m ≤ cond b (max c m) m
at_rest true c m = le-max_right c m
at_rest false c m = omega arith

pub within-at : (f : ℕ → ℕ) (v : Vector) → ((p : ℕ) → at v p ≤ f p) → list_all (λ a. nat_le a.counter (f a.replica)) v ≡ true
within-at f [] h = refl
within-at f (a ∷ v) h =
    and_from (nat_le a.counter (f a.replica)) (list_all (λ x. nat_le x.counter (f x.replica)) v)
    (le-leb a.counter (f a.replica)
    (le_trans (at_first (a.replica == a.replica) a.counter (at v a.replica) (eq-eqb a.replica a.replica refl)) (h a.replica)))
    (within-at f v (λ p. le_trans (at_rest (a.replica == p) a.counter (at v p)) (h p)))

pub at_most-at : (u v : Vector) → is_at_most u v ≡ true → (p : ℕ) → at u p ≤ at v p
at_most-at u v h p = at-within (at v) u h p

pub at_most-from : (u v : Vector) → ((p : ℕ) → at u p ≤ at v p) → is_at_most u v ≡ true
at_most-from u v h = within-at (at v) u h

pub ready-at : (G : List Operation) (s : Stamped) → is_ready G s ≡ true → (p : ℕ) → at s.vector p ≤ greatest_counter G p
ready-at G s h p = at-within (greatest_counter G) s.vector h p

pub ready-from : (G : List Operation) (s : Stamped) → ((p : ℕ) → at s.vector p ≤ greatest_counter G p) → is_ready G s ≡ true
ready-from G s h = within-at (greatest_counter G) s.vector h

at_greatest_here : (b : Bool) (c m g : ℕ) → m ≤ g → cond b (max c m) m ≤ max c g
at_greatest_here true c m g h = max-le (le-max_left c g) (le_trans h (le-max_right c g))
at_greatest_here false c m g h = le_trans h (le-max_right c g)

pub at_greatest : (v : Vector) (p : ℕ) → at v p ≤ greatest v
at_greatest [] p = omega arith
at_greatest (a ∷ v) p = at_greatest_here (a.replica == p) a.counter (at v p) (greatest v) (at_greatest v p)

-- the greater of two is one of them
pub max_cases : (a b : ℕ) → (max a b ≡ a) ⊎ (max a b ≡ b)
max_cases a b = grind arith

-- the greatest counter is 0 or that of a replica
pub greatest_at : (v : Vector) → (greatest v ≡ 0) ⊎ ((p : ℕ) × (at v p ≡ greatest v))
greatest_at [] = inl refl
greatest_at (a ∷ v) =
    let first : a.counter ≤ at (a ∷ v) a.replica = at_first (a.replica == a.replica) a.counter (at v a.replica)
    (eq-eqb a.replica a.replica refl) in
    let above : at (a ∷ v) a.replica ≤ max a.counter (greatest v) = at_greatest (a ∷ v) a.replica in
    elim (max_cases a.counter (greatest v)) [
      | inl e ↦ inr (a.replica, squeeze a.counter (at (a ∷ v) a.replica) (max a.counter (greatest v)) first above e)
      | inr e ↦ elim (greatest_at v) [
        | inl z ↦ inl (e ∙ z)
        | inr r ↦ (let k : at v r.0 ≤ at (a ∷ v) r.0 = at_rest (a.replica == r.0) a.counter (at v r.0) in
            inr (r.0, squeeze (at v r.0) (at (a ∷ v) r.0) (max a.counter (greatest v)) k (at_greatest (a ∷ v) r.0) (e ∙ sym r.1)))
      ]
    ]
  where
    squeeze : (c x m : ℕ) → c ≤ x → x ≤ m → m ≡ c → x ≡ m
    squeeze c x m h k e = omega arith

any_none_here : (f : ℕ → Bool) (b : Bool) (q p c m : ℕ) → ((b ≡ true) → q ≡ p) → f q ≡ false → (m ≢ 0 → f p ≡ false)
    → cond b (max c m) m ≢ 0 → f p ≡ false
any_none_here f true q p c m e h k n = ap f (sym (e refl)) ∙ h
any_none_here f false q p c m e h k n = k n

pub none-at : (f : ℕ → Bool) (v : Vector) → list_any (λ a. f a.replica) v ≡ false → (p : ℕ) → at v p ≢ 0 → f p ≡ false
none-at f [] h p n = absurd (n refl)
none-at f (a ∷ v) h p n =
    let both = or_parts (f a.replica) (list_any (λ x. f x.replica) v) h in
    any_none_here f (a.replica == p) a.replica p a.counter (at v p) (eqb-true a.replica p) both.0 (none-at f v both.1 p) n

pub none-from : (f : ℕ → Bool) (v : Vector) → ((p : ℕ) → f p ≡ false) → list_any (λ a. f a.replica) v ≡ false
none-from f [] h = refl
none-from f (a ∷ v) h = or_from (f a.replica) (list_any (λ x. f x.replica) v) (h a.replica) (none-from f v h)

pub covers-at : (v : Vector) (a : OpId) → covers v a ≡ true → a.counter ≤ at v a.replica
covers-at v a h = leb-true a.counter (at v a.replica) h

pub covers-from : (v : Vector) (a : OpId) → a.counter ≤ at v a.replica → covers v a ≡ true
covers-from v a h = le-leb a.counter (at v a.replica) h
