use Rattle.std.proofs.Common.{◌≡◌, inl, refl, sym, ap, subst, ◌∙◌, true, Some, get_or}
use Rattle.std.specs.BTreeSet.{Updates}
use Rattle.std.proofs.lemmas.Option.{slice_get-get_or}
use Rattle.semantics.specs.Ids.{OpId}
use Rattle.semantics.specs.Vectors.{Vector}
use Rattle.inbox.specs.declared.awaited.Awaited.{Awaited}
use Rattle.inbox.specs.Awaiting.{await_cmp, awaited_by}
use Rattle.inbox.proofs.KeptAwaits.{same_some}
use Rattle.inbox.proofs.waits.Waits.enter_at.Goals as goal

pub returns-in-Ok-clause-entered : goal.returns-in-Ok-clause-entered
returns-in-Ok-clause-entered c applied ahead =
    let deps : Vector = c.args.op.now.deps in
    let a : OpId = c.index-ids-position.result in
    let there : Some ahead.id ≡ Some a = sym ahead.there ∙ slice_get-get_or deps c.args.position a c.requires
    ∙ ap Some (ap (λ (v : Vector). get_or v c.args.position a) (sym c.ids.ensures.ids) ∙ sym c.index-ids-position.is) in
    let same : c.awaited_by.result ≡ awaited_by ahead.id c.args.key
    = c.awaited_by.ensures ∙ ap (λ (b : OpId). awaited_by b c.args.key) (sym (same_some there)) in
    inl (record {
      index = c.args.position;
      ahead = ahead;
      awaits = subst (λ (q : Awaited). Updates await_cmp c.args.self.now.awaits c.insert.new.self q true) same (c.in-Ok.ensures).updates;
      ready = refl;
      seen = refl;
    })
