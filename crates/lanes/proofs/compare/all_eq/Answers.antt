use Rattle.std.proofs.Common.{ℕ, List, eqb, rules, tests}
use Rattle.std.specs.Cmp.Lexicographic.{pointwise}
use Rattle.std.proofs.lemmas.Iterator.{YieldsList-from_slice, YieldsList-from_zip}
use Rattle.std.proofs.lemmas.Iterator.Search.{all_from_yields_List}
use Rattle.lanes.proofs.Chunks.{blocks_and_rest, first_decides, second_decides, equal_from_pointwise}
use Rattle.lanes.proofs.compare.all_eq.Goals as goal

pub returns-then-all : goal.returns-then-all
returns-then-all c =
    let blocks = all_from_yields_List (λ (p : List ℕ × List ℕ). pointwise eqb p.0 p.1) c.all.new.self _ c.all.result c.all.ensures.ran
    (YieldsList-from_zip (YieldsList-from_slice c.as_chunks.result.0.now cc) (YieldsList-from_slice c.as_chunks-2.result.0.now cc))
    (λ x b q k. search (rules, tests)) in
    let rest = all_from_yields_List (λ (p : ℕ × ℕ). eqb p.0 p.1) c.all-then-all.new.self _ c.all-then-all.result c.all-then-all.ensures.ran
    (YieldsList-from_zip (YieldsList-from_slice c.as_chunks.result.1.now cc) (YieldsList-from_slice c.as_chunks-2.result.1.now cc))
    (λ x b q k. search (rules, tests)) in
    let joined = blocks_and_rest eqb c.args.a.now c.args.b.now _ _ _ _ c.requires c.as_chunks.ensures.front c.as_chunks.ensures.back
    c.as_chunks-2.ensures.front c.as_chunks-2.ensures.back in
    equal_from_pointwise _ c.args.a.now c.args.b.now (second_decides _ _ _ _ _ blocks rest joined c.if-all.true)

pub returns-else-all : goal.returns-else-all
returns-else-all c =
    let blocks = all_from_yields_List (λ (p : List ℕ × List ℕ). pointwise eqb p.0 p.1) c.all.new.self _ c.all.result c.all.ensures.ran
    (YieldsList-from_zip (YieldsList-from_slice c.as_chunks.result.0.now cc) (YieldsList-from_slice c.as_chunks-2.result.0.now cc))
    (λ x b q k. search (rules, tests)) in
    let joined = blocks_and_rest eqb c.args.a.now c.args.b.now _ _ _ _ c.requires c.as_chunks.ensures.front c.as_chunks.ensures.back
    c.as_chunks-2.ensures.front c.as_chunks-2.ensures.back in
    equal_from_pointwise _ c.args.a.now c.args.b.now (first_decides _ _ _ _ blocks joined c.if-all.false)
