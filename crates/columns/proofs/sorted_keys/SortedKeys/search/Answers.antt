use Rattle.std.proofs.Common.{◌≤◌, ◌<◌, ◌+◌, ◌/◌, ◌^◌, ◌∙◌, ℕ, [], refl, sym, subst, arith, get_or}
use Rattle.semantics.specs.Elements.{name_cmp}
use Rattle.semantics.proofs.Orders.{name_total}
use Rattle.columns.specs.Keys.{Keys}
use Rattle.columns.specs.ShortKeys.{StandsFor}
use Rattle.columns.proofs.Halves.{halved}
use Rattle.columns.proofs.HintedKeys.{found_here, is_there, sought_between}
use Rattle.columns.proofs.ShortKeys.{AreShort, stands_for}
use Rattle.columns.proofs.Sought.{sought_before, sought_behind, sought_nowhere}
use Rattle.columns.proofs.sorted_keys.SortedKeys.search.Goals.{After-get}
use Rattle.columns.proofs.sorted_keys.SortedKeys.search.Goals as goal

-- one more comparison halves how many keys there may be
one_more : (most probes before first : ℕ) → 0 < most
    → ((k : ℕ) → first < 2 ^ k → (j : ℕ) × (most < 2 ^ j) × (probes + j ≤ before + k))
    → (k : ℕ) → first < 2 ^ k → (j : ℕ) × (most / 2 < 2 ^ j) × (probes + 1 + j ≤ before + k)
one_more most probes before first any few k small =
    let (j, left, room) = few k small in
    let (i, e, half) = halved most j any left in
    (i, half, omega (arith, e, room))

pub loop-low-init : goal.loop-low-init
loop-low-init c =
    record {
      sought =
          sought_between c.args.self.now.keys c.args.key.now c.args.span.low c.args.span.high c.requires.between.above
          c.requires.between.within c.requires.between.next;
      order = subst (AreShort c.args.self.now.keys c.args.self.now.numbers) (sym c.reader-order.ensures)
          (subst (λ (m : Keys). AreShort m.keys m.numbers c.self.inside.order.items) c.self.view_is
          (record { are_numbers = refl; are_prefixes = c.self.invariant.1 }));
      most = omega arith;
      probes = λ k few. (k, few, omega arith);
      counted = omega arith;
      any = λ fewer. absurd (omega (arith, fewer));
    }

pub between-middle-requires-clause-most : goal.between-middle-requires-clause-most
between-middle-requires-clause-most c =
    let most = c.loop-low.invariant.most in
    omega (arith, most)

-- what is read stands for the key in the middle
middle_stands : (c : After-get) → StandsFor c.args.self.now.keys c.args.self.now.numbers c.between-middle.result c.get.result.now
middle_stands c =
    let inside = c.between-middle.ensures.inside in
    let within = c.loop-low.invariant.sought.within in
    stands_for c.args.self.now.keys c.args.self.now.numbers c.loop-low.order c.between-middle.result c.get.result.now
    c.loop-low.invariant.order (omega (arith, inside, within)) c.get.ensures.item

pub compare-requires-clause-other : goal.compare-requires-clause-other
compare-requires-clause-other c = (c.between-middle.result, middle_stands (goal.at.compare-requires-clause-other c).After-get)

pub overflow_add-probes : goal.overflow_add-probes
overflow_add-probes c =
    let fits = c.len.type_inv in
    let all = c.len.ensures.length in
    let within = c.requires.between.within in
    let apart = c.loop-low-test.true in
    let most = c.loop-low.invariant.most in
    let room = c.requires.few in
    let (k, small, few) = c.loop-low.invariant.probes 64 (omega (arith, fits, all, within)) in
    let (j, e, half) = halved c.loop-low.most k (omega (arith, apart, most)) small in
    omega (arith, few, e, room)

pub loop-low-preserved-in-Less : goal.loop-low-preserved-in-Less
loop-low-preserved-in-Less c =
    let inv = c.loop-low.invariant in
    let apart = c.loop-low-test.true in
    let most = inv.most in
    let counted = inv.counted in
    let inside = c.between-middle.ensures.inside in
    let before = c.between-middle.ensures.before in
    let within = inv.sought.within in
    let keys = c.args.self.now.keys in
    let middle = c.between-middle.result in
    record {
      sought =
          sought_before name_cmp c.args.key.now keys c.loop-low.low c.loop-low.high middle (get_or keys middle []) inv.sought inside
          (is_there keys middle (omega (arith, inside, within)))
          (sym (c.compare.ensures middle (middle_stands (goal.at.loop-low-preserved-in-Less c).After-get) []) ∙ c.in-Less.is);
      order = subst (AreShort keys c.args.self.now.numbers) (sym c.get.ensures.same) inv.order;
      most = before;
      probes = one_more c.loop-low.most c.loop-low.probes c.args.probes.now c.args.span.high (omega (arith, apart, most)) inv.probes;
      counted = omega (arith, counted);
      any = λ fewer. omega (arith, counted);
    }

pub returns-in-Equal-clause-position : goal.returns-in-Equal-clause-position
returns-in-Equal-clause-position c =
    let inv = c.loop-low.invariant in
    let inside = c.between-middle.ensures.inside in
    let within = inv.sought.within in
    let keys = c.args.self.now.keys in
    let middle = c.between-middle.result in
    found_here keys c.args.key.now c.len.ensures.rising c.loop-low.low c.loop-low.high middle inv.sought inside
    (sym (c.compare.ensures middle (middle_stands (goal.at.returns-in-Equal-clause-position c).After-get) []) ∙ c.in-Equal.is)

pub loop-low-preserved : goal.loop-low-preserved
loop-low-preserved c =
    let inv = c.loop-low.invariant in
    let apart = c.loop-low-test.true in
    let most = inv.most in
    let counted = inv.counted in
    let inside = c.between-middle.ensures.inside in
    let behind = c.between-middle.ensures.behind in
    let within = inv.sought.within in
    let keys = c.args.self.now.keys in
    let middle = c.between-middle.result in
    record {
      sought =
          sought_behind name_cmp c.args.key.now keys c.loop-low.low c.loop-low.high middle (get_or keys middle []) inv.sought inside
          (is_there keys middle (omega (arith, inside, within))) name_total c.len.ensures.rising
          (sym (c.compare.ensures middle (middle_stands (goal.at.loop-low-preserved c).After-get) []) ∙ c.in-Greater.is);
      order = subst (AreShort keys c.args.self.now.numbers) (sym c.get.ensures.same) inv.order;
      most = omega (arith, behind);
      probes = one_more c.loop-low.most c.loop-low.probes c.args.probes.now c.args.span.high (omega (arith, apart, most)) inv.probes;
      counted = omega (arith, counted);
      any = λ fewer. omega (arith, counted);
    }

pub returns-clause-position : goal.returns-clause-position
returns-clause-position c =
    sought_nowhere name_cmp c.args.key.now c.args.self.now.keys c.loop-low.low c.loop-low.high c.loop-low.invariant.sought
    c.loop-low-test.false name_total c.len.ensures.rising
