-- Once all of a receipt is handled, each operation of the history that came in it is applied, or the engine's own history is full,
-- and the operation waits or was refused for that, or its table has no room for a replica of the history.
use Rattle.std.proofs.Common.{◌≡◌, inl, inr, ℕ, ◌+◌, ◌<◌, ◌≤◌, false, cond, ◌&&◌, ◌==◌, nat_le, nat_lt, List, [], Some, sym, ap, ◌∙◌, subst}
use Rattle.std.proofs.Common.{arith, slice_get}
use Rattle.std.proofs.lemmas.Bool.{and_parts, false_from_ne_true, eqb-true, leb-true, ltb-true, ne_eqb}
use Rattle.std.proofs.lemmas.List.{append-nil}
use Rattle.semantics.specs.Operations.{Operation}
use Rattle.semantics.specs.LegalHistory.{IsAmong}
use Rattle.semantics.specs.Stamped.{Stamped}
use Rattle.semantics.specs.LegalAnswer.{Submitted}
use Rattle.semantics.specs.Engine.{Engine}
use Rattle.semantics.specs.World.{World, WorldStep, world_after}
use Rattle.semantics.specs.WorldExchange.{AreWithoutLines, IsHandledBelow, WasRefusedFull}
use Rattle.semantics.proofs.SoundWorlds.{IsSoundWorld}
use Rattle.semantics.proofs.EnginesOfOneWorld.{further_by_run}
use Rattle.semantics.proofs.OpenedWorlds.{IsWorldOf}
use Rattle.semantics.proofs.ComingHistory.{AllAre, all_came}
use Rattle.semantics.proofs.ComingItems.{is_of_receipt, awaited, HasArrived, IsComing, coming_kept}
use Rattle.semantics.proofs.StartedReceipts.{awaited_after}

none_awaited : (A : Engine) (c first many serial count : ℕ) → serial ≡ cond (count == 0) 0 first → count ≡ many
    → IsHandledBelow A c (serial + count) → awaited c first (first + many) A.queue ≡ []
none_awaited A c first many serial count start all handled =
    ap (awaited c first (first + many)) (sym (append-nil A.queue)) ∙ awaited_after c first (first + many) A.queue [] none
  where
    none : (x : Submitted) → IsAmong x A.queue → is_of_receipt c first (first + many) x ≡ false
    none x m = false_from_ne_true (is_of_receipt c first (first + many) x) (λ t.
        let one = and_parts (x.client == c) (nat_le first x.serial && nat_lt x.serial (first + many)) t in
        let two = and_parts (nat_le first x.serial) (nat_lt x.serial (first + many)) one.1 in
        let from : first ≤ x.serial = leb-true first x.serial two.0 in
        let below : x.serial < first + many = ltb-true x.serial (first + many) two.1 in
        let over : serial + count ≤ x.serial = handled x m (eqb-true x.client c one.0) in
        let some : (count == 0) ≡ false = ne_eqb count 0 (λ e. absurd (omega (arith, e, all, from, below))) in
        let is : serial ≡ first = start ∙ ap (λ b. cond b 0 first) some in
        omega (arith, is, all, from, below, over))

-- what was refused under serials of the receipt was so under those that the reply to it named
refused_named : (A : Engine) (c first many serial count : ℕ) → serial ≡ cond (count == 0) 0 first → count ≡ many → (s : Stamped)
    → WasRefusedFull A c first (first + many) s → WasRefusedFull A c serial (serial + count) s
refused_named A c first many serial count start all s x =
    let some : (count == 0) ≡ false = ne_eqb count 0 (λ e. absurd (omega (arith, e, all, x.from, x.below))) in
    let is : serial ≡ first = start ∙ ap (λ b. cond b 0 first) some in
    let end : first + many ≡ serial + count = omega (arith, is, all) in
    subst (λ n. WasRefusedFull A c serial n s) end (subst (λ n. WasRefusedFull A c n (first + many) s) (sym is) x)

pub came_through : (c first many serial count : ℕ) (base : List Operation) (F : List Stamped)
    → serial ≡ cond (count == 0) 0 first → count ≡ many
    → (K : List Operation) (W : World) (steps : List WorldStep) → IsSoundWorld W → AreWithoutLines steps → IsWorldOf K W
    → (a : ℕ) (G : Engine) → slice_get W.engines a ≡ Some G → IsComing c first (first + many) base F K G
    → (A : Engine) → slice_get (world_after W steps).engines a ≡ Some A → IsHandledBelow A c (serial + count)
    → AllAre (HasArrived F c serial (serial + count) A) F
came_through c first many serial count base F start all K W steps sound known is a G there coming A e handled =
    let claim : List Operation → Engine → Type 0 = IsComing c first (first + many) base F in
    let later = further_by_run claim (coming_kept c first (first + many) base F) a K W steps sound known is
    (λ X q. (let same : G ≡ X = cc in subst (claim K) same coming)) in
    let x = later.claim A e in
    let came = all_came base F (HasArrived F c first (first + many) A) (λ s t. inl (x.based s.id t)) x.there
    (awaited c first (first + many) A.queue) x.comes x.came (none_awaited A c first many serial count start all handled) in
    λ s m. elim (came s m) [
      | inl t ↦ inl t
      | inr (inl f) ↦ inr
          (inl (f.0, elim f.1 [ inl w ↦ inl w | inr r ↦ inr (refused_named A c first many serial count start all s r) ]))
      | inr (inr k) ↦ inr (inr k)
    ]
