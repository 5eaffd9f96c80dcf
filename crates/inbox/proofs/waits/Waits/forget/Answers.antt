use Rattle.std.proofs.Common.{◌≡◌, not, is_some, refl, sym, ap, ◌∙◌}
use Rattle.std.specs.FinMap.{find}
use Rattle.std.specs.FinMap.Entries.{where_key}
use Rattle.semantics.specs.Ids.{id_cmp, is_same_id}
use Rattle.document.specs.operation.declared.op.Op.{Op}
use Rattle.inbox.proofs.KeptAwaits.{unblocked}
use Rattle.inbox.proofs.waits.Waits.forget.Goals as goal

pub returns-else-is_none : goal.returns-else-is_none
returns-else-is_none c =
    let id : c.deref.result.now ≡ c.args.waiting.now = c.deref.ensures ∙ c.op.ensures in
    record {
      kept = λ q differs. refl;
      gone = unblocked c.requires.there.0 c.requires.there.1 c.args.self.now c.args.key c.args.waiting.now c.requires.there.2
          c.requires.there.3
          (ap (λ (o : Op). is_some (find id_cmp o.id c.args.self.now.ready.entries)) (sym id)
          ∙ sym (ap is_some c.remove.ensures.number) ∙ c.is_none.ensures ∙ ap not c.if-is_none.false);
      ready = c.remove.ensures.entries
          ∙ ap (λ (o : Op). where_key id_cmp (λ b. not (is_same_id o.id b)) c.args.self.now.ready.entries) id;
      seen = refl;
    }
