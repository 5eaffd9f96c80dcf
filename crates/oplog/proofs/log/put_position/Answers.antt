use Rattle.std.proofs.Common.{[], ap, ◌∙◌, sym, set, subst, List, ◌<◌, arith}
use Rattle.std.specs.FinMap.{put}
use Rattle.std.proofs.lemmas.List.{map-set, get_or-map}
use Rattle.semantics.specs.Ids.{OpId, id_cmp}
use Rattle.columns.specs.Numbered.{Numbered}
use Rattle.oplog.specs.Logs.{least_room, numbers_of}
use Rattle.oplog.proofs.Room.{least_room-at, least_room-set, least_room-used, set_again}
use Rattle.oplog.proofs.log.put_position.Goals as goal

pub put-requires : goal.put-requires
put-requires c =
    let numbers = c.index_mut-numbers.result.now in
    let read = ap (λ (n : Numbered OpId). n.room) c.index_mut-numbers.ensures.value in
    let least = least_room-at 1 c.args.positions.now.items c.args.index numbers c.requires.inside in
    omega arith

pub returns-clause-numbers : goal.returns-clause-numbers
returns-clause-numbers c =
    let ns = c.args.positions.now.items in
    let numbers = c.index_mut-numbers.result.now in
    let f = λ (n : Numbered OpId). n.entries in
    map-set f ns c.args.index c.put.new.self
    ∙ ap (set (numbers_of ns) c.args.index) (c.put.ensures.entries
    ∙ ap (put id_cmp c.args.id c.args.position)
    (ap f c.index_mut-numbers.ensures.value ∙ sym (get_or-map f ns c.args.index numbers [] c.requires.inside)))

pub returns-clause-room : goal.returns-clause-room
returns-clause-room c = λ n.
    let ns = c.args.positions.now.items in
    let numbers = c.index_mut-numbers.result.now in
    let read = ap (λ (m : Numbered OpId). m.room) c.index_mut-numbers.ensures.value in
    least_room-used n ns c.args.index c.put.new.self numbers c.requires.inside (omega arith)

pub returns-clause-roomy : goal.returns-clause-roomy
returns-clause-roomy c = λ m some.
    let ns = c.args.positions.now.items in
    subst (λ (ms : List (Numbered OpId)). 0 < least_room 1 ms) (sym (set_again ns c.args.index c.put.new.self m))
    (least_room-set 1 ns c.args.index m c.requires.room some)
