-- What a configuration within its limits implies for the queue.
use Rattle.std.proofs.Common.{◌≡◌, ◌↔◌, ◌⊎◌, inl, inr, ℕ, ◌<◌, ◌≤◌, true, false, ◌&&◌, nat_le, Result, Ok, Err, sym, ap, arith}
use Rattle.std.proofs.Common.{true≢false}
use Rattle.std.specs.Prelude.{IfErr}
use Rattle.std.specs.List.{list_all}
use Rattle.std.proofs.Common.{eqb, ◌||◌, subst, List, [], ◌∷◌, length}
use Rattle.std.proofs.lemmas.Bool.{cases_Bool, eqb-true, leb-true, and_parts}
use Rattle.ids.specs.declared.refusal.Refusal.{Refusal}
use Rattle.ids.specs.declared.refusal.Refusal.TheVariants.{BadConfig, NoMemory}
use Rattle.ids.specs.Members.{are_distinct, is_member}
use Rattle.ids.specs.Configurations.{Configuration, are_members, is_from_one_to, is_within_limits, most_queue}

pub no_memory_alone : {X : Type 0} (r : Result X Refusal) (n : ℕ) → 0 < n → n ≤ most_queue
    → (r ≡ Err BadConfig) ↔ ((n ≡ 0) ⊎ (most_queue < n))
    → IfErr r (λ why. (why ≡ BadConfig) ⊎ (why ≡ NoMemory)) → IfErr r (λ why. why ≡ NoMemory)
no_memory_alone (Ok x) n low high iff e = e
no_memory_alone (Err why) n low high iff (inl bad) = absurd (past (iff.0 (ap Err bad)))
  where
    past : (n ≡ 0) ⊎ (most_queue < n) → ⊥
    past (inl z) = omega (arith, z, low)
    past (inr z) = omega (arith, z, high)
no_memory_alone (Err why) n low high iff (inr memory) = memory

member_above_zero : (ps : List ℕ) (q : ℕ) → list_all (λ p. nat_le 1 p) ps ≡ true → is_member ps q ≡ true → nat_le 1 q ≡ true
member_above_zero [] q all m = absurd (true≢false (sym m))
member_above_zero (p ∷ ps) q all m =
    let parts = and_parts (nat_le 1 p) (list_all (λ r. nat_le 1 r) ps) all in
    by (cases_Bool (eqb p q)) parts.0 (member_above_zero ps q parts.1)
  where
    by : (eqb p q ≡ true) ⊎ (eqb p q ≡ false) → nat_le 1 p ≡ true → (is_member ps q ≡ true → nat_le 1 q ≡ true) → nat_le 1 q ≡ true
    by (inl e) above rest = subst (λ k. nat_le 1 k ≡ true) (eqb-true p q e) above
    by (inr e) above rest = rest (subst (λ b. (b || is_member ps q) ≡ true) e m)

-- n is from 1 to the limit
abbrev pub IsFromOneTo : ℕ → ℕ → Type 0
IsFromOneTo limit n = (1 ≤ n) × (n ≤ limit)

from_one_to : (limit n : ℕ) → is_from_one_to limit n ≡ true → IsFromOneTo limit n
from_one_to limit n h =
    let parts = and_parts (nat_le 1 n) (nat_le n limit) h in (leb-true 1 n parts.0, leb-true n limit parts.1)

-- what the limits imply
pub record HasLimits (c : Configuration) : Type 0 where
  pub own : 1 ≤ c.own
  pub clients : IsFromOneTo 64 c.clients
  pub readers : IsFromOneTo 64 c.readers
  pub queue : IsFromOneTo most_queue c.queue
  pub batch : IsFromOneTo 256 c.batch

pub limits : (c : Configuration) → is_within_limits c ≡ true → HasLimits c
limits c h =
    let t = and_parts _ (is_from_one_to 4294967295 c.serials) h in
    let u = and_parts _ (is_from_one_to 256 c.batch) t.0 in
    let v = and_parts _ (is_from_one_to most_queue c.queue) u.0 in
    let w = and_parts _ (is_from_one_to 64 c.readers) v.0 in
    let x = and_parts _ (is_from_one_to 64 c.clients) w.0 in
    let y = and_parts (are_members c.members) (is_member c.members c.own) x.0 in
    let numbers = and_parts (is_from_one_to 64 (length c.members) && list_all (λ p. nat_le 1 p) c.members) (are_distinct c.members) y.0 in
    let all = and_parts (is_from_one_to 64 (length c.members)) (list_all (λ p. nat_le 1 p) c.members) numbers.0 in
    record {
      own = leb-true 1 c.own (member_above_zero c.members c.own all.1 y.1);
      clients = from_one_to 64 c.clients x.1;
      readers = from_one_to 64 c.readers w.1;
      queue = from_one_to most_queue c.queue v.1;
      batch = from_one_to 256 c.batch u.1;
    }
