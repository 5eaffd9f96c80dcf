-- A new world is of the empty one, where no two engines have one own number.
use Rattle.std.proofs.Common.{◌≡◌, inr, ℕ, zero, suc, List, [], ◌∷◌, Some, refl, sym, ap, ◌∙◌, subst, arith, slice_get}
use Rattle.ids.specs.Configurations.{Configuration}
use Rattle.semantics.specs.Operations.{Operation}
use Rattle.semantics.specs.LegalHistory.{IsLegal, IsAmong}
use Rattle.semantics.specs.Stamped.{Stamped}
use Rattle.semantics.specs.OneWorld.{IsOfWorld}
use Rattle.semantics.specs.Engine.{Engine, Message, Bundle}
use Rattle.semantics.specs.World.{opened_engine, World, opened}
use Rattle.semantics.specs.WorldExchange.{HaveOwnNumbers}
use Rattle.semantics.proofs.TrackedEngines.{IsEngineOf}

-- The engines and messages of W are of the world K.
pub record IsWorldOf (K : List Operation) (W : World) : Type 0 where
  pub legal : IsLegal K
  pub numbers : (d e : ℕ) (D E : Engine) → slice_get W.engines d ≡ Some D → slice_get W.engines e ≡ Some E → D.replica.own ≡ E.replica.own
      → d ≡ e
  pub engines : (e : ℕ) (E : Engine) → slice_get W.engines e ≡ Some E → IsEngineOf K E
  pub sent : (k : ℕ) (ss : List Stamped) (s : Stamped) → slice_get W.messages k ≡ Some (Bundle ss) → IsAmong s ss → IsOfWorld K s

opened_of : (cs : List Configuration) (e : ℕ) (E : Engine) → slice_get (opened cs).engines e ≡ Some E
    → (c : Configuration) × (slice_get cs e ≡ Some c) × (opened_engine c ≡ E)
opened_of [] e E h = cc
opened_of (c ∷ cs) zero E h = (c, refl, cc)
opened_of (c ∷ cs) (suc e) E h = opened_of cs e E h

new_engine : (c : Configuration) → IsEngineOf [] (opened_engine c)
new_engine c = record {
  settled = record {
    world = record {
      own = refl;
      running = record { history = tt; alone = λ s m. absurd m; foreign = λ s m. absurd m; unapplied = λ s m. absurd m; rising = tt };
      within = λ x m. m;
      made = λ x m e. absurd m;
      waits = λ s m. absurd m;
      none_dropped = λ f. refl;
    };
    end = inr (λ s m. absurd m);
    few = omega arith;
  };
  short = omega arith;
  queued = λ x m. absurd m;
}

pub opened_world : (cs : List Configuration) → HaveOwnNumbers cs → IsWorldOf [] (opened cs)
opened_world cs own = record {
  legal = tt;
  numbers = λ d e D E p q same.
      let b = opened_of cs d D p in
      let c = opened_of cs e E q in
      own d e b.0 c.0 b.1 c.1 (ap (λ (X : Engine). X.replica.own) b.2 ∙ same ∙ sym (ap (λ (X : Engine). X.replica.own) c.2));
  engines = λ e E h. (let c = opened_of cs e E h in subst (IsEngineOf []) c.2 (new_engine c.0));
  sent = λ k ss s h m. absurd (none k ss h);
}
  where
    none : (k : ℕ) (ss : List Stamped) → slice_get {X = Message} [] k ≡ Some (Bundle ss) → ⊥
    none k ss h = cc
