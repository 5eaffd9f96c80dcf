-- If a world stops, each engine is between what it was and what the next step makes of it.
use Rattle.std.proofs.Common.{◌≡◌, ◌⊎◌, inl, inr, ℕ, zero, suc, ◌+◌, ◌≤◌, List, [], ◌∷◌, length, take, Option, Some, None, refl, sym}
use Rattle.std.proofs.Common.{ap, ◌∙◌, subst, add-one, arith, slice_get}
use Rattle.std.proofs.lemmas.Bool.{cases_eq}
use Rattle.std.proofs.lemmas.List.{length-set}
use Rattle.std.proofs.lemmas.Option.{same_Some, slice_get_within}
use Rattle.semantics.specs.Engine.{Engine}
use Rattle.semantics.specs.World.{World, WorldStep, engine_step, world_after, world_step}
use Rattle.semantics.proofs.SetElements.{get-set_same, get-set_other}
use Rattle.world.specs.Parts.{IsBetween}
use Rattle.world.specs.Worlds.{IsAnother, IsBetweenSteps, IsReachedWorld, MovesInPart, StopsInStep}
use Rattle.world.proofs.BetweenEngines.{begun, not_begun, stays_between}
use Rattle.world.proofs.ReachedWorlds.{after_step, reached_after, reached_at, reached_sound}
use Rattle.world.proofs.TurnedWorlds.{after_next}

-- ---- one step

-- an engine that doesn't move stays
other_stays : (W : World) (s : WorldStep) (e : ℕ) → (e ≡ s.engine → ⊥) → slice_get (world_step W s).world.engines e ≡ slice_get W.engines e
other_stays W s e other = at_engine (slice_get W.engines s.engine) refl
  where
    at_engine : (o : Option Engine) → slice_get W.engines s.engine ≡ o → slice_get (world_step W s).world.engines e ≡ slice_get W.engines e
    at_engine None is = rw is refl
    at_engine (Some E) is = rw is (get-set_other W.engines s.engine e (engine_step W.messages s.act E).engine other)

same_engine : (o : Option Engine) (E F : Engine) → o ≡ Some E → o ≡ Some F → E ≡ F
same_engine o E F e f = same_Some E F (sym e ∙ f)

-- an engine of a reached world before a step, and after it
step_between : (W : World) (s : WorldStep) → IsReachedWorld W → (e : ℕ) (E G : Engine) → slice_get W.engines e ≡ Some E
    → slice_get (world_step W s).world.engines e ≡ Some G → IsBetween E E G
step_between W s reached e E G at_E at_G = by (cases_eq e s.engine)
  where
    by : (e ≡ s.engine) ⊎ (e ≡ s.engine → ⊥) → IsBetween E E G
    by (inl is) =
        let there : slice_get W.engines s.engine ≡ Some E = ap (slice_get W.engines) (sym is) ∙ at_E in
        let moved = same_engine (slice_get (world_step W s).world.engines s.engine) (engine_step W.messages s.act E).engine G
        (after_step W s E there) (ap (slice_get (world_step W s).world.engines) (sym is) ∙ at_G) in
        subst (IsBetween E E) moved (not_begun W.messages s.act E (reached_sound E (reached_at W reached s.engine E there)))
    by (inr other) = subst (IsBetween E E) (same_engine (slice_get W.engines e) E G at_E (sym (other_stays W s e other) ∙ at_G))
        (stays_between E)

step_count : (W : World) (s : WorldStep) → length (world_step W s).world.engines ≡ length W.engines
step_count W s = at_engine (slice_get W.engines s.engine) refl
  where
    at_engine : (o : Option Engine) → slice_get W.engines s.engine ≡ o → length (world_step W s).world.engines ≡ length W.engines
    at_engine None is = rw is refl
    at_engine (Some E) is = rw is (length-set W.engines s.engine (engine_step W.messages s.act E).engine)

after_count : (W : World) (steps : List WorldStep) → length (world_after W steps).engines ≡ length W.engines
after_count W [] = refl
after_count W (s ∷ steps) = after_count (world_step W s).world steps ∙ step_count W s

-- ---- many steps

-- no step is left
all_taken : (steps : List WorldStep) (n : ℕ) → slice_get steps n ≡ None → take (suc n) steps ≡ take n steps
all_taken [] zero e = refl
all_taken [] (suc n) e = refl
all_taken (s ∷ steps) zero e = absurd (let h = e in cc)
all_taken (s ∷ steps) (suc n) e = ap (λ (ss : List WorldStep). s ∷ ss) (all_taken steps n e)

-- after n steps, each engine is between what it is then and what it is after one more
module _ (W : World) (steps : List WorldStep) (n : ℕ) (reached : IsReachedWorld W) where
  abbrev U : World
  U = world_after W (take n steps)

  U_reached : IsReachedWorld U
  U_reached = reached_after W U (take n steps) reached refl

  between_steps : (e : ℕ) (F : Engine) → slice_get U.engines e ≡ Some F → IsBetweenSteps W steps n e F
  between_steps e F at_F E G at_E at_G = subst (λ A. IsBetween E A G) (same_engine (slice_get U.engines e) E F at_E at_F)
      (by (slice_get steps n) refl)
    where
      one_more : slice_get (world_after W (take (suc n) steps)).engines e ≡ Some G
      one_more = ap (λ k. slice_get (world_after W (take k steps)).engines e) (sym (add-one n)) ∙ at_G

      by : (o : Option WorldStep) → slice_get steps n ≡ o → IsBetween E E G
      by None is =
          let same : slice_get U.engines e ≡ Some G = ap (λ ss. slice_get (world_after W ss).engines e) (sym (all_taken steps n is))
          ∙ one_more in
          subst (IsBetween E E) (same_engine (slice_get U.engines e) E G at_E same) (stays_between E)
      by (Some s) is =
          let at : slice_get (world_step U s).world.engines e
          ≡ Some G = ap (λ (V : World). slice_get V.engines e) (sym (after_next W steps n s is))
          ∙ one_more in
          step_between U s U_reached e E G at_E at

-- these were done whole
pub stops_whole : (W V : World) (steps : List WorldStep) (n : ℕ) → IsReachedWorld W → n ≤ length steps → V ≡ world_after W (take n steps)
    → StopsInStep W steps n V
stops_whole W V steps n reached l is = record {
  within = l;
  messages = ap (λ (U : World). U.messages) is;
  others = λ e other. ap (λ (U : World). slice_get U.engines e) is;
  count = ap (λ (U : World). length U.engines) is ∙ after_count W (take n steps);
  between = λ e F at. between_steps W steps n reached e F (ap (λ (U : World). slice_get U.engines e) (sym is) ∙ at);
}

-- none was
pub stops_at_once : (W : World) (steps : List WorldStep) → IsReachedWorld W → StopsInStep W steps 0 W
stops_at_once W steps reached = stops_whole W W steps 0 reached (omega arith) (ap (world_after W) (sym (none steps)))
  where
    none : (steps : List WorldStep) → take 0 steps ≡ []
    none [] = refl
    none (s ∷ steps) = refl

-- and the next one in part
pub stops_within : (W U V : World) (steps : List WorldStep) (n : ℕ) (s : WorldStep) → IsReachedWorld W → slice_get steps n ≡ Some s
    → U ≡ world_after W (take n steps) → V.messages ≡ U.messages
    → MovesInPart U.messages s U.engines V.engines → StopsInStep W steps n V
stops_within W U V steps n s reached at is messages part = record {
  within = omega (arith, slice_get_within steps n s at);
  messages = messages ∙ ap (λ (T : World). T.messages) is;
  others = λ e other. unmoved e (subst (IsAnother e) at other) ∙ ap (λ (T : World). slice_get T.engines e) is;
  count = ap (length {A = Engine}) part.moved ∙ length-set U.engines s.engine part.part ∙ ap (λ (T : World). length T.engines) is
      ∙ after_count W (take n steps);
  between = λ e F at_F E G at_E at_G.
      by e F at_F E G (ap (λ (T : World). slice_get T.engines e) is ∙ at_E)
      (ap (λ (T : World). slice_get (world_step T s).world.engines e) is ∙ next e G at_G) (cases_eq e s.engine);
}
  where
    unmoved : (e : ℕ) → (e ≡ s.engine → ⊥) → slice_get V.engines e ≡ slice_get U.engines e
    unmoved e other = ap (λ (Es : List Engine). slice_get Es e) part.moved ∙ get-set_other U.engines s.engine e part.part other

    U_reached : IsReachedWorld U
    U_reached = reached_after W U (take n steps) reached is

    next : (e : ℕ) (G : Engine) → slice_get (world_after W (take (n + 1) steps)).engines e ≡ Some G
        → slice_get (world_step (world_after W (take n steps)) s).world.engines e ≡ Some G
    next e G at_G = ap (λ (T : World). slice_get T.engines e) (sym (after_next W steps n s at))
        ∙ ap (λ k. slice_get (world_after W (take k steps)).engines e) (sym (add-one n)) ∙ at_G

    by : (e : ℕ) (F : Engine) → slice_get V.engines e ≡ Some F → (E G : Engine) → slice_get U.engines e ≡ Some E
        → slice_get (world_step U s).world.engines e ≡ Some G
        → (e ≡ s.engine) ⊎ (e ≡ s.engine → ⊥) → IsBetween E F G
    by e F at_F E G at_E at_G (inl same) =
        let A : Engine = part.engine in
        let all : Engine = (engine_step U.messages s.act A).engine in
        let its_E : A ≡ E = same_engine (slice_get U.engines s.engine) A E part.there (ap (slice_get U.engines) (sym same) ∙ at_E) in
        let set_there : slice_get V.engines s.engine ≡ Some part.part = ap (λ (Es : List Engine). slice_get Es s.engine) part.moved
        ∙ get-set_same U.engines s.engine A part.part part.there in
        let its_F : part.part
        ≡ F = same_engine (slice_get V.engines s.engine) part.part F set_there (ap (slice_get V.engines) (sym same) ∙ at_F) in
        let its_G : all
        ≡ G = same_engine (slice_get (world_step U s).world.engines s.engine) all G (after_step U s A part.there)
        (ap (slice_get (world_step U s).world.engines) (sym same) ∙ at_G) in
        let between = begun U.messages s.act A part.part (reached_sound A (reached_at U U_reached s.engine A part.there)) part.begun in
        subst (λ X. IsBetween X F G) its_E (subst (λ X. IsBetween A X G) its_F (subst (IsBetween A part.part) its_G between))
    by e F at_F E G at_E at_G (inr other) =
        let its_F : E ≡ F = same_engine (slice_get U.engines e) E F at_E (sym (unmoved e other) ∙ at_F) in
        subst (λ X. IsBetween E X G) its_F (step_between U s U_reached e E G at_E at_G)
