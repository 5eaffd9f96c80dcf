use Rattle.std.proofs.Common.{◌-◌, ◌≤◌, ℕ, min, length, refl, sym, ap, ◌∙◌, subst, arith, vec_len, vec_capacity}
use Rattle.std.proofs.lemmas.Result.{on_ok_weaker}
use Rattle.oplog.specs.Logs.{Logged, least_room}
use Rattle.oplog.proofs.Positions.{as_many}
use Rattle.oplog.proofs.Room.{least_room-any, room_kept}
use Rattle.oplog.proofs.log.Log.reserve_one.Goals as goal

pub returns-in_err-reserve_one-clause-kept : goal.returns-in_err-reserve_one-clause-kept
returns-in_err-reserve_one-clause-kept c =
    let d = c.self.inside in
    let room = ap (λ (l : Logged). l.room) c.self.view_is in
    let kept = room_kept (vec_capacity d.entries - vec_len d.entries) (vec_capacity c.reserve.new.self - vec_len c.reserve.new.self)
    d.table c.reserve_one.new.self d.positions.items d.positions.items (omega arith) c.reserve_one.ensures.numbers
    c.reserve_one.ensures.kept (λ lt. refl) in
    omega (arith, room, kept)

pub returns-in_err-reserve_column-clause-kept : goal.returns-in_err-reserve_column-clause-kept
returns-in_err-reserve_column-clause-kept c =
    let d = c.self.inside in
    let room = ap (λ (l : Logged). l.room) c.self.view_is in
    let count = c.len.ensures.length ∙ ap length c.reserve_one.ensures.numbers in
    let kept = room_kept (vec_capacity d.entries - vec_len d.entries) (vec_capacity c.reserve.new.self - vec_len c.reserve.new.self)
    d.table c.reserve_one.new.self d.positions.items c.reserve_column.new.positions.items (omega arith) c.reserve_one.ensures.numbers
    c.reserve_one.ensures.kept (λ lt. c.reserve_column.ensures.kept (omega (arith, lt, count))) in
    omega (arith, room, kept)

pub returns-clause-room : goal.returns-clause-room
returns-clause-room c =
    let mid = c.reserve_column.new.positions.items in
    let new = c.reserve_last.new.positions.items in
    let entries = c.in_ok-reserve.ensures.ok in
    let table = c.in_ok-reserve_one.ensures.room in
    let column = c.in_ok-reserve_column.ensures.column in
    let count = c.len.ensures.length in
    let long = as_many mid new c.reserve_last.ensures.same in
    on_ok_weaker c.reserve_last.result (λ last. least_room-any 1
    (min (vec_capacity c.reserve.new.self - vec_len c.reserve.new.self)
    (min c.reserve_one.new.self.room (length new - length c.reserve_one.new.self.numbers)))
    new last (omega (arith, entries, table, column, count, long))) c.reserve_last.ensures.room

pub returns-clause-kept : goal.returns-clause-kept
returns-clause-kept c =
    let d = c.self.inside in
    let mid = c.reserve_column.new.positions.items in
    let new = c.reserve_last.new.positions.items in
    let room = ap (λ (l : Logged). l.room) c.self.view_is in
    let count = c.len.ensures.length ∙ ap length c.reserve_one.ensures.numbers in
    let n : ℕ = vec_capacity c.reserve.new.self - vec_len c.reserve.new.self in
    let kept = room_kept (vec_capacity d.entries - vec_len d.entries) n
    d.table c.reserve_one.new.self d.positions.items mid (omega arith) c.reserve_one.ensures.numbers
    c.reserve_one.ensures.kept (λ lt. c.reserve_column.ensures.kept (omega (arith, lt, count))) in
    let long = as_many mid new c.reserve_last.ensures.same in
    let base : ℕ → ℕ = λ k. min n (min c.reserve_one.new.self.room (k - length c.reserve_one.new.self.numbers)) in
    let grown : least_room (base (length mid)) mid ≤ least_room (base (length new)) new =
    subst (λ k. least_room (base (length mid)) mid ≤ least_room (base k) new) (sym long)
    (c.reserve_last.ensures.kept (base (length mid))) in
    omega (arith, room, kept, grown)

pub reserve_last-requires-clause-inside : goal.reserve_last-requires-clause-inside
reserve_last-requires-clause-inside c =
    let count = c.len.ensures.length ∙ ap length c.reserve_one.ensures.numbers in
    omega (arith, count, c.in_ok-reserve_column.ensures.column, c.self.invariant.within)
