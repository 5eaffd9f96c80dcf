use Rattle.std.proofs.Common.{◌≡◌, Bool, false, cond, Option, Some, None, sym, ap, ◌∙◌, subst}
use Rattle.semantics.specs.Entries.{stamped_entries}
use Rattle.semantics.specs.Joining.{check_fault}
use Rattle.semantics.specs.Making.{is_full}
use Rattle.semantics.specs.Stamped.{Stamped}
use Rattle.inbox.specs.operation.declared.op.Op.{Op}
use Rattle.inbox.specs.operation.Ops.{stamped_of}
use Rattle.replica.proofs.waiting.next_turn.Goals as goal

-- where the history has room, the first ready one is next
with_room : (full : Bool) (first : Option Stamped) (s : Stamped) → full ≡ false → Some s ≡ first → cond full None first ≡ Some s
with_room full first s room e = ap (λ b. cond b None first) room ∙ sym e

pub returns-in-Err-clause-turn : goal.returns-in-Err-clause-turn
returns-in-Err-clause-turn c =
    let d = c.args.document.now in
    record {
      next = stamped_of c.in-Some.op.now;
      is_next = with_room (is_full d.entries) _ _ (sym c.is_full.ensures ∙ c.if-is_full.false) c.in-Some.ensures.first;
      id = ap (λ (o : Op). o.id) (sym c.deref-in-Err.ensures);
      why = c.in-Err.field-0;
      fault = subst (λ (o : Op). check_fault d.members (stamped_entries d.entries) (stamped_of o) ≡ Some c.in-Err.field-0)
          c.deref.ensures c.in-Err.ensures;
    }
