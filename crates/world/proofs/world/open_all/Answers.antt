use Rattle.std.proofs.Common.{◌≡◌, ℕ, ◌+◌, List, [], ◌∷◌, ◌++◌, map, drop, drop-cons, add-one, sym, ap, ◌∙◌, append_assoc}
use Rattle.std.specs.List.{list_all}
use Rattle.std.proofs.lemmas.Bool.{and_parts}
use Rattle.ids.specs.Configurations.{Configuration, is_within_limits}
use Rattle.semantics.specs.Engine.{Engine}
use Rattle.semantics.specs.World.{opened_engine}
use Rattle.world.proofs.world.open_all.Goals as goal

pub open-requires : goal.open-requires
open-requires c =
    let cs = c.args.configs.now in
    let n : ℕ = c.loop-config.config-index in
    let x : Configuration = c.config-item.result in
    let next : drop n cs ≡ x ∷ drop (n + 1) cs = drop-cons cs n x c.loop-config-test.true
    ∙ (λ i. sym c.config-item.is i ∷ drop (sym (add-one n) i) cs) in
    (and_parts (is_within_limits x) (list_all is_within_limits (drop (n + 1) cs))
    (sym (ap (list_all is_within_limits) next) ∙ c.loop-config.invariant.within)).0

pub loop-config-preserved : goal.loop-config-preserved
loop-config-preserved c =
    let cs = c.args.configs.now in
    let n : ℕ = c.loop-config.config-index in
    let x : Configuration = c.config-item.result in
    let E : Engine = c.in_ok-open.field-0 in
    let next : drop n cs ≡ x ∷ drop (n + 1) cs = drop-cons cs n x c.loop-config-test.true
    ∙ (λ i. sym c.config-item.is i ∷ drop (sym (add-one n) i) cs) in
    let both = and_parts (is_within_limits x) (list_all is_within_limits (drop (n + 1) cs))
    (sym (ap (list_all is_within_limits) next) ∙ c.loop-config.invariant.within) in
    let made : E ≡ opened_engine x = c.in_ok-open.ensures.engine in
    let pushed = c.in_ok-push.ensures.items in
    record {
      engines =
          ap (λ (es : List Engine). es ++ map opened_engine (drop (n + 1) cs)) pushed
          ∙ append_assoc c.loop-config.engines.items (E ∷ []) (map opened_engine (drop (n + 1) cs))
          ∙ ap (λ (F : Engine). c.loop-config.engines.items ++ F ∷ map opened_engine (drop (n + 1) cs)) made
          ∙ ap (λ (ks : List Configuration). c.loop-config.engines.items ++ map opened_engine ks) (sym next)
          ∙ c.loop-config.invariant.engines;
      within = both.1;
    }
