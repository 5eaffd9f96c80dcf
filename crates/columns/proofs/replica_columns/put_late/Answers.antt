use Rattle.std.proofs.Common.{◌≡◌, ◌∙◌, ◌+◌, ◌-◌, sym, ap, cond, length, arith, get_or, set}
use Rattle.columns.proofs.ByReplica.{length_written}
use Rattle.columns.specs.ReplicaColumns.{all_standing, index_at}
use Rattle.columns.proofs.StandingPuts.{counted_late, put_missing, put_taken, replica_at, replicas_written}
use Rattle.columns.proofs.UpTo.{up_to_written}
use Rattle.columns.proofs.replica_columns.put_late.Goals as goal

pub overflow_sub-count : goal.overflow_sub-count
overflow_sub-count c =
    let cs = c.args.columns.now in
    let column = get_or cs c.args.place c.index-columns-place.result in
    let read : column ≡ get_or cs c.args.place column = ap (get_or cs c.args.place) c.index-columns-place.is in
    let written = length_written cs c.args.place column c.remove.new.self c.requires.inside read in
    let fewer = ap (λ b. length c.remove.new.self.counters.items + cond b 1 0) (sym c.if-remove.true) ∙ c.remove.ensures.gone in
    let counted = c.requires.counted.counted in
    omega (arith, written, fewer, counted)

pub returns-then-remove-clause-standing : goal.returns-then-remove-clause-standing
returns-then-remove-clause-standing c =
    let L = c.args.list.now in
    let cs = c.args.columns.now in
    let column = get_or cs c.args.place c.index-columns-place.result in
    let read : column ≡ get_or cs c.args.place column = ap (get_or cs c.args.place) c.index-columns-place.is in
    put_taken L cs c.args.place column c.remove.new.self c.args.id c.requires.inside read c.requires.counted.apart
    c.requires.place.is c.remove.ensures.same (replica_at cs c.args.place c.args.id.replica column c.requires.place.is read)
    c.put.new.self c.args.tag c.len.ensures.rising c.len.ensures.indexed c.remove.ensures.counters
    (sym c.if-remove.true ∙ c.remove.ensures.there) c.put.ensures.entries c.put.ensures.indices c.args.index

pub returns-then-remove-clause-counted : goal.returns-then-remove-clause-counted
returns-then-remove-clause-counted c =
    let L = c.args.list.now in
    let cs = c.args.columns.now in
    let i = c.args.place in
    let column = get_or cs i c.index-columns-place.result in
    let read : column ≡ get_or cs i column = ap (get_or cs i) c.index-columns-place.is in
    let d = c.remove.new.self in
    let N = c.put.new.self in
    let a = c.requires.counted in
    let mine = replica_at cs i c.args.id.replica column c.requires.place.is read in
    let same = c.remove.ensures.same in
    let is = put_taken L cs i column d c.args.id c.requires.inside read a.apart c.requires.place.is same mine N c.args.tag
    c.len.ensures.rising c.len.ensures.indexed c.remove.ensures.counters (sym c.if-remove.true ∙ c.remove.ensures.there)
    c.put.ensures.entries c.put.ensures.indices c.args.index in
    let greatest = c.remove.ensures.greatest in
    let seen = c.requires.seen c.index-columns-place.result in
    let written = length_written cs i column d c.requires.inside read in
    let fewer = ap (λ b. length d.counters.items + cond b 1 0) (sym c.if-remove.true) ∙ c.remove.ensures.gone in
    let counted = a.counted in
    counted_late L cs i column d c.args.id c.requires.inside read a.apart c.requires.place.is same mine
    N c.args.tag c.len.ensures.rising c.len.ensures.indexed c.remove.ensures.counters
    d.index c.args.count.now (c.args.count.now - 1) 1 c.put.ensures.entries c.put.ensures.indices
    (up_to_written (all_standing L cs) (all_standing N (set cs i d)) c.args.id
    (c.args.tag, index_at c.args.id c.args.index (all_standing L cs)) is cs a.up_to i column d c.requires.inside read a.apart.distinct
    c.requires.place.is same.replica (omega (arith, greatest)) (omega (arith, greatest, seen))) a fewer
    (omega (arith, written, fewer, counted))

pub returns-else-remove-clause-standing : goal.returns-else-remove-clause-standing
returns-else-remove-clause-standing c =
    let L = c.args.list.now in
    let cs = c.args.columns.now in
    let column = get_or cs c.args.place c.index-columns-place.result in
    let read : column ≡ get_or cs c.args.place column = ap (get_or cs c.args.place) c.index-columns-place.is in
    put_missing L cs c.args.place column c.remove.new.self c.args.id c.requires.inside read c.requires.counted.apart
    c.requires.place.is c.remove.ensures.same (replica_at cs c.args.place c.args.id.replica column c.requires.place.is read)
    c.put-else-remove.new.self c.args.tag c.len.ensures.rising c.len.ensures.indexed c.remove.ensures.counters
    (sym c.if-remove.false ∙ c.remove.ensures.there) c.args.index c.put-else-remove.ensures.entries c.put-else-remove.ensures.indices

pub returns-else-remove-clause-counted : goal.returns-else-remove-clause-counted
returns-else-remove-clause-counted c =
    let L = c.args.list.now in
    let cs = c.args.columns.now in
    let i = c.args.place in
    let column = get_or cs i c.index-columns-place.result in
    let read : column ≡ get_or cs i column = ap (get_or cs i) c.index-columns-place.is in
    let d = c.remove.new.self in
    let N = c.put-else-remove.new.self in
    let a = c.requires.counted in
    let mine = replica_at cs i c.args.id.replica column c.requires.place.is read in
    let same = c.remove.ensures.same in
    let is = put_missing L cs i column d c.args.id c.requires.inside read a.apart c.requires.place.is same mine N c.args.tag
    c.len.ensures.rising c.len.ensures.indexed c.remove.ensures.counters (sym c.if-remove.false ∙ c.remove.ensures.there) c.args.index
    c.put-else-remove.ensures.entries c.put-else-remove.ensures.indices in
    let greatest = c.remove.ensures.greatest in
    let seen = c.requires.seen c.index-columns-place.result in
    counted_late L cs i column d c.args.id c.requires.inside read a.apart c.requires.place.is same mine
    N c.args.tag c.len.ensures.rising c.len.ensures.indexed c.remove.ensures.counters
    c.args.index c.args.count.now c.args.count.now 0 c.put-else-remove.ensures.entries c.put-else-remove.ensures.indices
    (up_to_written (all_standing L cs) (all_standing N (set cs i d)) c.args.id
    (c.args.tag, index_at c.args.id c.args.index (all_standing L cs)) is cs a.up_to i column d c.requires.inside read a.apart.distinct
    c.requires.place.is same.replica (omega (arith, greatest)) (omega (arith, greatest, seen))) a
    (ap (λ b. length d.counters.items + cond b 1 0) (sym c.if-remove.false) ∙ c.remove.ensures.gone) (omega arith)

pub returns-then-remove-clause-replicas : goal.returns-then-remove-clause-replicas
returns-then-remove-clause-replicas c =
    let cs = c.args.columns.now in
    let i = c.args.place in
    let column = get_or cs i c.index-columns-place.result in
    let read : column ≡ get_or cs i column = ap (get_or cs i) c.index-columns-place.is in
    replicas_written cs i column c.remove.new.self c.args.id c.requires.inside read c.requires.counted.apart.distinct c.requires.place.is
    c.remove.ensures.same (replica_at cs i c.args.id.replica column c.requires.place.is read)

pub returns-else-remove-clause-replicas : goal.returns-else-remove-clause-replicas
returns-else-remove-clause-replicas c =
    let cs = c.args.columns.now in
    let i = c.args.place in
    let column = get_or cs i c.index-columns-place.result in
    let read : column ≡ get_or cs i column = ap (get_or cs i) c.index-columns-place.is in
    replicas_written cs i column c.remove.new.self c.args.id c.requires.inside read c.requires.counted.apart.distinct c.requires.place.is
    c.remove.ensures.same (replica_at cs i c.args.id.replica column c.requires.place.is read)
