use Rattle.std.proofs.Common.{◌≡◌, Bor, Option, Some, None, option_copied, option_map, sym, ap, subst, ◌∙◌}
use Rattle.semantics.specs.Ids.{is_smaller_id}
use Rattle.semantics.specs.Entries.{applied}
use Rattle.semantics.specs.Stamped.{Stamped}
use Rattle.document.specs.operation.declared.op.Op.{Op}
use Rattle.document.specs.operation.Ops.{stamped_of}
use Rattle.inbox.specs.Inboxes.{AreNotReady, AreRising, IsLeastReady}
use Rattle.inbox.proofs.KeyedOps.{some_of}
use Rattle.inbox.proofs.Ready.{least_first, least_ready, none_first, none_ready}
use Rattle.inbox.proofs.inbox.Inbox.smallest_ready.Goals as goal

pub smallest-requires : goal.smallest-requires
smallest-requires c = (c.self.inside.keys.entries, c.self.invariant.awaiting)

-- ---- none is ready

not_ready : (c : goal.After-from_residual) → AreNotReady (applied c.args.document.now.entries) c.args.self.now
not_ready c =
    let d = c.self.inside in
    none_ready d.ops d.keys.entries d.waits c.args.self.now c.self.invariant c.self.view_is
    (applied c.args.document.now.entries) c.in_err-least.ensures.met

pub returns-in_err-least-clause-none : goal.returns-in_err-least-clause-none
returns-in_err-least-clause-none c = rw c.from_residual.ensures (not_ready c)

pub returns-in_err-least-clause-first : goal.returns-in_err-least-clause-first
returns-in_err-least-clause-first c = rw c.from_residual.ensures
    (sym (none_first (applied c.args.document.now.entries) c.args.self.now (not_ready c)))

-- ---- the smallest is ready

least : (c : goal.After-op_at)
    → IsLeastReady (applied c.args.document.now.entries) c.args.self.now c.in_ok-least.ensures.ready.0
least c =
    let d = c.self.inside in
    let it = c.in_ok-least.ensures.ready in
    least_ready d.ops d.keys.entries d.waits c.args.self.now c.self.invariant c.self.view_is (applied c.args.document.now.entries)
    c.in_ok-least.least.1 it.0 it.1 it.3
    (λ n p stands ready. ap (is_smaller_id p.id) it.2 ∙ c.in_ok-least.ensures.met n p stands ready)

pub returns-clause-some : goal.returns-clause-some
returns-clause-some c =
    let it = c.in_ok-least.ensures.ready in
    some_of (IsLeastReady (applied c.args.document.now.entries) c.args.self.now) c.op_at.result it.0
    (c.op_at.ensures ∙ it.1) (least c)

mapped : (f : Op → Stamped) (r : Option (Bor Op)) (o : Op) → option_copied r ≡ Some o → option_map (λ x. f x.now) r ≡ Some (f o)
mapped f None o e = absurd (let no : ⊥ = cc in no)
mapped f (Some x) o e = ap (λ y. Some (f y)) (let same : x.now ≡ o = cc in same)

pub returns-clause-first : goal.returns-clause-first
returns-clause-first c =
    let it = c.in_ok-least.ensures.ready in
    mapped stamped_of c.op_at.result it.0 (c.op_at.ensures ∙ it.1)
    ∙ sym (least_first (applied c.args.document.now.entries) c.args.self.now it.0
    (subst AreRising c.self.view_is c.self.invariant.rising) (least c))
