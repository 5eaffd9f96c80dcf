-- When a replica can be opened, and its invariant then.
use Rattle.std.proofs.Common.{◌≡◌, ◌⊎◌, inl, inr, ℕ, ◌≤◌, Bool, true, false, ◌&&◌, ◌==◌, nat_le, List, [], ◌∷◌, refl, ap, ◌∙◌, arith}
use Rattle.std.specs.Prelude.{IsTrue, IsFalse}
use Rattle.std.specs.List.{list_all}
use Rattle.std.proofs.lemmas.Bool.{and_parts, or_from, leb-true, ne_eqb}
use Rattle.ids.specs.Members.{is_member}
use Rattle.ids.specs.Configurations.{are_members}
use Rattle.replica.specs.Replicas.{Running, IsReplica}

no_zero : (ps : List ℕ) → list_all (λ p. nat_le 1 p) ps ≡ true → is_member ps 0 ≡ false
no_zero [] e = refl
no_zero (p ∷ ps) e =
    let both = and_parts (nat_le 1 p) (list_all (λ q. nat_le 1 q) ps) e in
    let above : 1 ≤ p = leb-true 1 p both.0 in
    or_from (p == 0) (is_member ps 0) (ne_eqb p 0 (λ z. absurd (omega arith))) (no_zero ps both.1)

-- 0 is no member, and neither is a number that isn't among the members
pub none_opened : (ps : List ℕ) (p : ℕ) → (p ≡ 0) ⊎ IsFalse (is_member ps p) → IsFalse (are_members ps && is_member ps p)
none_opened ps p why = by (are_members ps) refl why where
  by : (b : Bool) → are_members ps ≡ b → (p ≡ 0) ⊎ IsFalse (is_member ps p) → IsFalse (b && is_member ps p)
  by false e w = refl
  by true e (inl zero) = ap (is_member ps) zero ∙ no_zero ps (and_parts _ _ (and_parts _ _ e).0).1
  by true e (inr absent) = absent

-- a replica with no history and nothing that waits
pub opened : (r : Running) → r.document.entries ≡ [] → r.waiting ≡ [] → r.dropped ≡ 0 → IsTrue (is_member r.document.members r.own)
    → IsReplica r
opened r entries waiting none member = record {
  running = record {
    history = rw entries tt;
    alone = rw waiting (λ s among. absurd among);
    foreign = rw waiting (λ s among. absurd among);
    unapplied = rw waiting (λ s among. absurd among);
    rising = rw waiting tt;
  };
  member = member;
  alone = rw waiting (λ o among. absurd among);
  count = omega (arith, none);
}
