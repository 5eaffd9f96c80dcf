use Rattle.std.proofs.Common.{◌∙◌, ap, sym, arith, cond}
use Rattle.std.specs.List.{insert}
use Rattle.std.proofs.lemmas.List.{map-set}
use Rattle.std.proofs.lemmas.Option.{get_or_from_slice_get}
use Rattle.std.proofs.Math.Seq.{map-set_same}
use Rattle.semantics.specs.Ids.{id_cmp}
use Rattle.semantics.proofs.Orders.{id_total}
use Rattle.columns.specs.Rank.{StandsAt, GoesTo, keys_of, rank}
use Rattle.columns.specs.Entries.{entries_of, id_of, indices_of}
use Rattle.columns.specs.declared.entry.Entry.{Entry}
use Rattle.columns.proofs.Puts.{put_new}
use Rattle.columns.proofs.Ranks.{there_at}
use Rattle.columns.proofs.Columns.{put_own, insert-map, length-entries_of, length-keys_of}
use Rattle.columns.proofs.entry_list.put_in.Goals as goal

pub get-requires : goal.get-requires
get-requires g c =
    let es = c.args.entries.now.items in
    let s : StandsAt id_cmp c.args.id (keys_of (entries_of es)) c.in-Ok.position = c.in-Ok.ensures in
    let within = s.within in
    let long = length-keys_of (entries_of es) ∙ length-entries_of es in
    omega (arith, within, long)

pub insert-requires-clause-within : goal.insert-requires-clause-within
insert-requires-clause-within g c =
    let es = c.args.entries.now.items in
    let s : GoesTo id_cmp c.args.id (keys_of (entries_of es)) c.in-Err.position = c.in-Err.ensures in
    let within = s.within in
    let long = length-keys_of (entries_of es) ∙ length-entries_of es in
    omega (arith, within, long)

pub returns-in-Ok-clause-entries : goal.returns-in-Ok-clause-entries
returns-in-Ok-clause-entries g c =
    let es = c.args.entries.now.items in
    ap entries_of c.replace.ensures.items
    ∙ map-set (λ (e : Entry g.row.T.Denot). (id_of e, e.value)) es c.in-Ok.position _
    ∙ put_own (entries_of es) c.args.id c.args.value c.in-Ok.position c.in-Ok.ensures

pub returns-in-Ok-clause-indices : goal.returns-in-Ok-clause-indices
returns-in-Ok-clause-indices g c =
    let es = c.args.entries.now.items in
    let keys = keys_of (entries_of es) in
    let s : StandsAt id_cmp c.args.id keys c.in-Ok.position = c.in-Ok.ensures in
    ap indices_of c.replace.ensures.items
    ∙ map-set_same (λ (e : Entry g.row.T.Denot). e.index) es c.in-Ok.position _ c.get.result.now
    (ap (λ (e : Entry g.row.T.Denot). e.index) (sym (get_or_from_slice_get es c.in-Ok.position c.get.result.now c.get.result.now
    c.get.ensures)))
    ∙ ap (λ b. cond b (indices_of es) (insert (indices_of es) (rank id_cmp c.args.id keys) c.args.index))
    (sym (there_at id_cmp id_total c.args.id keys c.in-Ok.position c.args.id s.within (s.ties c.args.id)))

pub returns-in-Err-clause-entries : goal.returns-in-Err-clause-entries
returns-in-Err-clause-entries g c =
    let es = c.args.entries.now.items in
    ap entries_of c.insert.ensures.items
    ∙ insert-map (λ (e : Entry g.row.T.Denot). (id_of e, e.value)) es c.in-Err.position _
    ∙ put_new id_cmp c.args.id c.args.value (entries_of es) c.in-Err.position c.in-Err.ensures

pub returns-in-Err-clause-indices : goal.returns-in-Err-clause-indices
returns-in-Err-clause-indices g c =
    let es = c.args.entries.now.items in
    let keys = keys_of (entries_of es) in
    let s : GoesTo id_cmp c.args.id keys c.in-Err.position = c.in-Err.ensures in
    ap indices_of c.insert.ensures.items
    ∙ insert-map (λ (e : Entry g.row.T.Denot). e.index) es c.in-Err.position _
    ∙ ap (λ i. insert (indices_of es) i c.args.index) s.ranked
    ∙ ap (λ b. cond b (indices_of es) (insert (indices_of es) (rank id_cmp c.args.id keys) c.args.index)) (sym s.absent)
