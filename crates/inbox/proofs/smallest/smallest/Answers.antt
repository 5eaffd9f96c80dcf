use Rattle.std.proofs.Common.{◌≡◌, ◌<◌, ◌≤◌, inl, inr, ℕ, length, get_or, sym, ap, subst, ◌∙◌, arith, true≢false}
use Rattle.std.proofs.lemmas.Bool.{cases_lt}
use Rattle.std.proofs.lemmas.Option.{get_or_from_slice_get, slice_get_within}
use Rattle.semantics.specs.Ids.{OpId}
use Rattle.semantics.specs.Entries.{applied}
use Rattle.semantics.specs.NamedIds.{greatest_counter, vector_of}
use Rattle.semantics.specs.Vectors.{Vector, IsCanonical, at}
use Rattle.semantics.proofs.AppliedVectors.{at-vector_of}
use Rattle.ids.proofs.SearchedVectors.{named_there}
use Rattle.inbox.specs.Awaiting.{awaited_by, IsMet, IsReadyAt}
use Rattle.inbox.proofs.Blocked.{position_at, ready_at}
use Rattle.inbox.proofs.FirstReady.{first_is_least, first_is_ready}
use Rattle.inbox.proofs.smallest.smallest.Goals as goal

pub returns-then-awaits_nothing-clause-ready : goal.returns-then-awaits_nothing-clause-ready
returns-then-awaits_nothing-clause-ready c =
    let H = applied c.args.document.now.entries in
    subst (IsReadyAt H c.args.ops.now) (sym c.first_ready-least.ensures.first)
    (first_is_ready H c.args.ops.now c.args.waits.now.ready.entries c.first_ready-least.ensures.rising
    (λ a k f. let it = c.requires.1.ready a k f in (it.op, it.stands, it.id)))

pub returns-then-awaits_nothing-clause-met : goal.returns-then-awaits_nothing-clause-met
returns-then-awaits_nothing-clause-met c k o stands ready =
    elim (c.requires.1.each k o stands) [
      | inl awaiting ↦ absurd
          (true≢false (sym awaiting.held ∙ c.awaits_nothing.ensures c.if-awaits_nothing.true (awaited_by awaiting.id k)))
      | inr may ↦ subst (λ least. IsMet least o.id) (sym c.first_ready-least.ensures.first)
          (first_is_least (applied c.args.document.now.entries) c.args.ops.now c.args.waits.now.ready.entries
          c.first_ready-least.ensures.rising k o stands may ready)
    ]

pub loop-position-init : goal.loop-position-init
loop-position-init c =
    let H = applied c.args.document.now.entries in
    let es = c.args.waits.now.ready.entries in
    record {
      ready = subst (IsReadyAt H c.args.ops.now) (sym c.first_ready-least.ensures.first)
          (first_is_ready H c.args.ops.now es c.first_ready-least.ensures.rising
          (λ a k f. let it = c.requires.1.ready a k f in (it.op, it.stands, it.id)));
      may = λ k o stands f ready.
          subst (λ least. IsMet least o.id) (sym c.first_ready-least.ensures.first)
          (first_is_least H c.args.ops.now es c.first_ready-least.ensures.rising k o stands f ready);
      passed = λ q j b held below. absurd (omega (arith, below));
    }

pub smallest_of-least-requires-clause-applied : goal.smallest_of-least-requires-clause-applied
smallest_of-least-requires-clause-applied c =
    let H = applied c.args.document.now.entries in
    let v : Vector = c.ids-applied.result.now in
    let is : v ≡ vector_of H = c.ids-applied.ensures.ids ∙ c.applied.ensures.all in
    let a : OpId = c.index-applied-position.result in
    sym (at-vector_of H a.replica) ∙ ap (λ u. at u a.replica) (sym is)
    ∙ named_there v (subst IsCanonical (sym c.ids-applied.ensures.ids) c.ids-applied.ensures.canonical) c.loop-position.position a a.replica
    c.loop-position-test.true (ap (λ (x : OpId). x.replica) (sym c.index-applied-position.is))
    ∙ ap (λ (x : OpId). x.counter) (sym c.index-applied-position.is)

pub loop-position-preserved : goal.loop-position-preserved
loop-position-preserved c =
    let v : Vector = c.ids-applied.result.now in
    let n : ℕ = c.loop-position.position in
    let a : OpId = c.index-applied-position.result in
    record {
      ready = c.smallest_of-least.ensures.ready;
      may = λ k o stands f ready. c.smallest_of-least.ensures.met o.id (c.loop-position.invariant.may k o stands f ready);
      passed = λ q j b held below there same. elim (cases_lt j n) [
        | inl before ↦ (λ o i stands is ready.
            c.smallest_of-least.ensures.met o.id (c.loop-position.invariant.passed q j b held before there same o i stands is ready))
        | inr behind ↦
            let here : j ≡ n = omega (arith, below, behind) in
            let one : b ≡ a = sym (get_or_from_slice_get v j b a there) ∙ ap (λ m. get_or v m a) here ∙ sym c.index-applied-position.is in
            c.smallest_of-least.ensures.passed q held (sym same ∙ ap (λ (x : OpId). x.replica) one)
      ];
    }

pub returns-clause-met : goal.returns-clause-met
returns-clause-met c k o stands ready =
    let H = applied c.args.document.now.entries in
    let v : Vector = c.ids-applied.result.now in
    let is : v ≡ vector_of H = c.ids-applied.ensures.ids ∙ c.applied.ensures.all in
    elim (c.requires.1.each k o stands) [
      | inl awaiting ↦
          let p : ℕ = awaiting.id.replica in
          let here : awaiting.id.counter ≤ greatest_counter H p = ready_at H o ready awaiting.index awaiting.id awaiting.there in
          let named : at v p ≡ greatest_counter H p = ap (λ u. at u p) is ∙ at-vector_of H p in
          let unseen = c.requires.1.unseen (awaited_by awaiting.id k) awaiting.held in
          let it = position_at v p (λ none. omega (arith, here, named, unseen, none)) in
          let within : it.0 < length v = slice_get_within v it.0 it.1 it.2 in
          c.loop-position.invariant.passed (awaited_by awaiting.id k) it.0 it.1 awaiting.held
          (omega (arith, within, c.loop-position-test.false)) it.2 it.3 o awaiting.index stands awaiting.there ready
      | inr may ↦ c.loop-position.invariant.may k o stands may ready
    ]
