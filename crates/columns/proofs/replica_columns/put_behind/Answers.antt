use Rattle.std.proofs.Common.{◌≡◌, ◌∙◌, ◌++◌, ◌∷◌, [], sym, ap, refl, get_or, set, arith}
use Rattle.cursor.specs.declared.tag.Tag.{Tag}
use Rattle.semantics.specs.Ids.{id_cmp}
use Rattle.std.specs.FinMap.{put}
use Rattle.columns.specs.ReplicaColumns.{IsSameColumn, all_standing, index_at}
use Rattle.columns.specs.declared.replica_column.ReplicaColumn.{ReplicaColumn}
use Rattle.columns.proofs.LatePuts.{listed_counted, listed_standing}
use Rattle.columns.proofs.StandingPuts.{counted_in_column, put_in_column, replica_at, replicas_written}
use Rattle.columns.proofs.UpTo.{goes_behind, not_listed, up_to_written}
use Rattle.columns.proofs.replica_columns.put_behind.Goals as goal

pub returns-then-not-fits-clause-standing : goal.returns-then-not-fits-clause-standing
returns-then-not-fits-clause-standing c =
    let cs = c.args.columns.now in
    let i = c.args.place in
    let column = get_or cs i c.index-columns-place.result in
    let read : column ≡ get_or cs i column = ap (get_or cs i) c.index-columns-place.is in
    listed_standing c.args.list.now c.put.new.self cs i column c.raise.new.self c.args.id c.args.index c.args.tag c.args.count.now
    c.requires.counted c.requires.inside read c.requires.place.is (replica_at cs i c.args.id.replica column c.requires.place.is read)
    (c.requires.greater c.index-columns-place.result) c.raise.ensures.same (λ t. (c.raise.ensures.counters t).items)
    c.raise.ensures.greatest c.len.ensures.rising c.len.ensures.indexed c.put.ensures.entries c.put.ensures.indices

pub returns-then-not-fits-clause-counted : goal.returns-then-not-fits-clause-counted
returns-then-not-fits-clause-counted c =
    let cs = c.args.columns.now in
    let i = c.args.place in
    let column = get_or cs i c.index-columns-place.result in
    let read : column ≡ get_or cs i column = ap (get_or cs i) c.index-columns-place.is in
    listed_counted c.args.list.now c.put.new.self cs i column c.raise.new.self c.args.id c.args.index c.args.tag c.args.count.now
    c.requires.counted c.requires.inside read c.requires.place.is (replica_at cs i c.args.id.replica column c.requires.place.is read)
    (c.requires.greater c.index-columns-place.result) c.raise.ensures.same (λ t. (c.raise.ensures.counters t).items)
    c.raise.ensures.greatest c.len.ensures.rising c.len.ensures.indexed c.put.ensures.entries c.put.ensures.indices

-- the column that was pushed to
same_then : (c d e : ReplicaColumn) → IsSameColumn c d → IsSameColumn d e → IsSameColumn c e
same_then c d e first then = record {
  replica = then.replica ∙ first.replica;
  index = then.index ∙ first.index;
  tag = then.tag ∙ first.tag;
}

pub returns-clause-standing : goal.returns-clause-standing
returns-clause-standing c =
    let L = c.args.list.now in
    let cs = c.args.columns.now in
    let i = c.args.place in
    let a = c.requires.counted in
    let column = get_or cs i c.index-columns-place.result in
    let read : column ≡ get_or cs i column = ap (get_or cs i) c.index-columns-place.is in
    let mine = replica_at cs i c.args.id.replica column c.requires.place.is read in
    let greater = c.requires.greater c.index-columns-place.result in
    put_in_column L cs i column c.push_reserved.new.self c.args.id c.requires.inside read a.apart c.requires.place.is
    (same_then column c.raise.new.self c.push_reserved.new.self c.raise.ensures.same c.push_reserved.ensures.same) mine
    c.len.ensures.rising c.len.ensures.indexed
    (not_listed L cs i column c.args.id c.requires.inside read a.apart a.up_to c.requires.place.is mine greater)
    (c.push_reserved.ensures.counters ∙ (λ t. (c.raise.ensures.counters t).items ++ c.args.id.counter ∷ []))
    (goes_behind L cs i column c.args.id c.requires.inside read a.apart a.up_to c.requires.place.is mine greater)
    c.args.index (sym c.raise.ensures.same.index ∙ c.if-not-fits.ensures.index refl)
    ∙ ap (λ (t : Tag). put id_cmp c.args.id (t, index_at c.args.id c.args.index (all_standing L cs)) (all_standing L cs))
    (sym c.raise.ensures.same.tag ∙ c.if-not-fits.ensures.tag refl)

pub returns-clause-counted : goal.returns-clause-counted
returns-clause-counted c =
    let L = c.args.list.now in
    let cs = c.args.columns.now in
    let i = c.args.place in
    let a = c.requires.counted in
    let column = get_or cs i c.index-columns-place.result in
    let d = c.push_reserved.new.self in
    let read : column ≡ get_or cs i column = ap (get_or cs i) c.index-columns-place.is in
    let mine = replica_at cs i c.args.id.replica column c.requires.place.is read in
    let greater = c.requires.greater c.index-columns-place.result in
    let same = same_then column c.raise.new.self d c.raise.ensures.same c.push_reserved.ensures.same in
    let new = not_listed L cs i column c.args.id c.requires.inside read a.apart a.up_to c.requires.place.is mine greater in
    let pushed = c.push_reserved.ensures.counters ∙ (λ t. (c.raise.ensures.counters t).items ++ c.args.id.counter ∷ []) in
    let behind = goes_behind L cs i column c.args.id c.requires.inside read a.apart a.up_to c.requires.place.is mine greater in
    let own = c.push_reserved.ensures.greatest ∙ c.raise.ensures.greatest in
    let is = put_in_column L cs i column d c.args.id c.requires.inside read a.apart c.requires.place.is same mine
    c.len.ensures.rising c.len.ensures.indexed new pushed behind c.args.index
    (sym c.raise.ensures.same.index ∙ c.if-not-fits.ensures.index refl) in
    counted_in_column L cs i column d c.args.id c.requires.inside read a.apart c.requires.place.is same mine
    c.len.ensures.rising c.len.ensures.indexed new pushed behind c.args.count.now
    (up_to_written (all_standing L cs) (all_standing L (set cs i d)) c.args.id
    (column.tag, index_at c.args.id c.args.index (all_standing L cs)) is cs a.up_to i column d c.requires.inside read a.apart.distinct
    c.requires.place.is same.replica (omega (arith, greater, own)) (omega (arith, own))) a (c.if-not-fits.ensures.few refl)

pub returns-then-not-fits-clause-replicas : goal.returns-then-not-fits-clause-replicas
returns-then-not-fits-clause-replicas c =
    let cs = c.args.columns.now in
    let i = c.args.place in
    let column = get_or cs i c.index-columns-place.result in
    let read : column ≡ get_or cs i column = ap (get_or cs i) c.index-columns-place.is in
    replicas_written cs i column c.raise.new.self c.args.id c.requires.inside read c.requires.counted.apart.distinct c.requires.place.is
    c.raise.ensures.same (replica_at cs i c.args.id.replica column c.requires.place.is read)

pub returns-clause-replicas : goal.returns-clause-replicas
returns-clause-replicas c =
    let cs = c.args.columns.now in
    let i = c.args.place in
    let column = get_or cs i c.index-columns-place.result in
    let read : column ≡ get_or cs i column = ap (get_or cs i) c.index-columns-place.is in
    replicas_written cs i column c.push_reserved.new.self c.args.id c.requires.inside read c.requires.counted.apart.distinct
    c.requires.place.is (same_then column c.raise.new.self c.push_reserved.new.self c.raise.ensures.same c.push_reserved.ensures.same)
    (replica_at cs i c.args.id.replica column c.requires.place.is read)
