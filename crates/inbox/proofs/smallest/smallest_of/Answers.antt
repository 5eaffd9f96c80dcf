use Rattle.std.proofs.Common.{◌≡◌, ◌≤◌, inl, inr, sym, ap, subst, arith}
use Rattle.std.specs.List.Sorted.{IsStrictlySortedBy}
use Rattle.semantics.specs.LegalHistory.{IsAmong}
use Rattle.semantics.specs.Entries.{applied}
use Rattle.semantics.specs.Ids.{id_at}
use Rattle.semantics.specs.NamedIds.{greatest_counter}
use Rattle.semantics.specs.Vectors.{at}
use Rattle.inbox.specs.declared.awaited.Awaited.{Awaited}
use Rattle.inbox.specs.Awaiting.{await_cmp, seen_at, IsSettled}
use Rattle.inbox.proofs.AwaitOrder.{all_from, apart, counter_rises, first_left, in_order, left_above, left_rising, next_or_left}
use Rattle.inbox.proofs.AwaitOrder.{none_before, rest_left, rises}
use Rattle.inbox.proofs.Blocked.{ready_at}
use Rattle.inbox.proofs.smallest.smallest_of.Goals as goal

pub returns-then-id-counter_near-clause-passed : goal.returns-then-id-counter_near-clause-passed
returns-then-id-counter_near-clause-passed c q held here o i stands is ready =
    let H = applied c.args.document.now.entries in
    let known : q.counter ≤ greatest_counter H q.replica = ready_at H o ready i (id_at q.counter q.replica) is in
    let unseen = c.requires.unseen q held in
    absurd
    (omega (
      arith,
      known,
      unseen,
      ap (greatest_counter H) here,
      c.requires.applied,
      ap (λ p. seen_at c.args.waits.now.seen p) here,
      c.counter_near.ensures,
      ap (λ v. at v c.args.id.replica) c.ids.ensures.ids,
      c.if-id-counter_near.true,
    ))

pub loop-awaited-init : goal.loop-awaited-init
loop-awaited-init c =
    let awaits = c.args.waits.now.awaits in
    let between = c.range-awaited-items.ensures.between tt in
    let all = sym c.into_iter-awaited-iterator.ensures.into_iter_gives in
    record {
      can_next = tt;
      is_finite = tt;
      from = λ q m.
          none_before awaits c.range-awaited-items.result c.args.id.replica between q (subst (IsAmong q) (sym all) m);
      rising = subst (IsStrictlySortedBy await_cmp) all
          (in_order awaits c.range-awaited-items.result c.args.id.replica between c.range-awaited-items.ensures.ordered);
      ready = c.requires.ready;
      met = λ a m. m;
      settled = λ q held from. inl
          (subst (IsAmong q) all (all_from awaits c.range-awaited-items.result c.args.id.replica between q held from));
    }

pub returns-then-ne-clause-passed : goal.returns-then-ne-clause-passed
returns-then-ne-clause-passed c q held here o i stands is ready =
    elim (c.loop-awaited.invariant.settled q held (omega (arith, here))) [
      | inl left ↦
          let next = c.in-Some.awaited.now in
          let behind = rises next q (left_above _ _ _ c.in-Some.ensures.steps c.loop-awaited.invariant.rising q left) in
          let from = c.loop-awaited.invariant.from next (first_left _ _ _ c.in-Some.ensures.steps) in
          let same : next.replica ≡ c.args.id.replica = omega (arith, behind, from, here) in
          absurd (apart next.replica c.args.id.replica c.if-ne.ensures same)
      | inr settled ↦ settled o stands ready
    ]

pub returns-then-awaited-id-clause-passed : goal.returns-then-awaited-id-clause-passed
returns-then-awaited-id-clause-passed c q held here o i stands is ready =
    elim (c.loop-awaited.invariant.settled q held (omega (arith, here))) [
      | inl left ↦
          let next = c.in-Some.awaited.now in
          let order = left_above _ _ _ c.in-Some.ensures.steps c.loop-awaited.invariant.rising q left in
          let behind = rises next q order in
          let from = c.loop-awaited.invariant.from next (first_left _ _ _ c.in-Some.ensures.steps) in
          let same : next.replica ≡ q.replica = omega (arith, behind, from, here) in
          let above : next.counter ≤ q.counter = counter_rises next q order same in
          let H = applied c.args.document.now.entries in
          let known : q.counter ≤ greatest_counter H q.replica = ready_at H o ready i (id_at q.counter q.replica) is in
          absurd (omega (arith, known, above, ap (greatest_counter H) here, c.requires.applied, c.if-awaited-id.true))
      | inr settled ↦ settled o stands ready
    ]

pub loop-awaited-preserved : goal.loop-awaited-preserved
loop-awaited-preserved c = record {
  can_next = tt;
  is_finite = tt;
  from = λ q m. c.loop-awaited.invariant.from q (rest_left _ _ _ c.in-Some.ensures.steps q m);
  rising = left_rising _ _ _ c.in-Some.ensures.steps c.loop-awaited.invariant.rising;
  ready = c.smaller-least.ensures.ready;
  met = λ a m. c.smaller-least.ensures.met a (c.loop-awaited.invariant.met a m);
  settled = λ q held from. elim (c.loop-awaited.invariant.settled q held from) [
    | inl left ↦ elim (next_or_left _ _ _ c.in-Some.ensures.steps c.loop-awaited.invariant.rising q left) [
      | inl here ↦ inr (subst
          (λ (a : Awaited).
          IsSettled (applied c.args.document.now.entries) c.args.ops.now c.smaller-least.result a.key)
          (sym here) c.smaller-least.ensures.settled)
      | inr later ↦ inl later
    ]
    | inr settled ↦ inr (λ o stands ready. c.smaller-least.ensures.met o.id (settled o stands ready))
  ];
}
