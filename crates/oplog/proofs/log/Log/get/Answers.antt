use Rattle.std.proofs.Common.{sym, ap, ◌∙◌, slice_get}
use Rattle.std.specs.Option.{option_map}
use Rattle.operation.specs.Ops.{entry_of}
use Rattle.semantics.specs.Entries.{entry_at}
use Rattle.oplog.specs.Logs.{Logged}
use Rattle.oplog.proofs.Oldest.{entry_at-history}
use Rattle.oplog.proofs.Found.{got}
use Rattle.oplog.proofs.log.Log.get.Goals as goal

pub returns : goal.returns
returns c =
    let d = c.self.inside in
    let xs = c.deref.result.now in
    ap (λ (l : Logged). option_map (λ e. entry_of e.now) c.get.result) (sym c.self.view_is)
    ∙ got (λ e. e.now) entry_of xs c.args.position c.get.result c.get.ensures.lookup.0 c.get.ensures.lookup.1
    ∙ ap (λ entries. option_map entry_of (slice_get entries c.args.position)) c.deref.ensures.value
    ∙ sym (entry_at-history d.entries.items c.args.position)
    ∙ ap (λ (l : Logged). entry_at c.args.position l.entries) c.self.view_is
