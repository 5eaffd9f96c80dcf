use Rattle.std.proofs.Common.{sym, ap, ◌∙◌, ◌-◌, map, min, length, take, drop}
use Rattle.std.proofs.Math.Seq.{take-length}
use Rattle.std.proofs.lemmas.List.{drop-map, drop_min, length-drop}
use Rattle.operation.specs.Ops.{entry_of}
use Rattle.semantics.specs.Journals.{entries_from}
use Rattle.oplog.specs.Logs.{Logged}
use Rattle.oplog.proofs.Oldest.{reverse-twice}
use Rattle.oplog.proofs.log.Log.entries_from.Goals as goal

pub returns : goal.returns
returns c =
    let xs = c.deref.result.now in
    let p = c.args.position in
    let m = c.min.result in
    ap (map entry_of) (ap (λ n. take n (drop m xs)) (sym (length-drop m xs)) ∙ take-length (drop m xs))
    ∙ ap (λ n. map entry_of (drop n xs)) (c.min.ensures ∙ ap (min p) (c.len.ensures ∙ sym c.deref.ensures.len))
    ∙ ap (map entry_of) (drop_min p xs)
    ∙ sym (drop-map entry_of p xs)
    ∙ ap (λ entries. drop p (map entry_of entries)) c.deref.ensures.value
    ∙ ap (drop p) (sym (reverse-twice (map entry_of c.self.inside.entries.items)))
    ∙ ap (λ (l : Logged). entries_from p l.entries) c.self.view_is
