-- The entry becomes the newest of the history, and its position stands in the column of its replica.
use Rattle.std.proofs.Common.{◌≡◌, ◌-◌, ◌<◌, ℕ, sym, ap, ◌∙◌, ◌∷◌, [], length, get_or, set, Some, slice_get, false, subst, arith, vec_len}
use Rattle.std.proofs.Common.{vec_capacity}
use Rattle.std.proofs.lemmas.Option.{slice_get_within}
use Rattle.std.specs.FinMap.{put}
use Rattle.ids.specs.Tables.{joined}
use Rattle.ids.proofs.Tables.{distinct_joined, joined_itself, length_joined}
use Rattle.semantics.specs.Ids.{OpId, id_cmp}
use Rattle.semantics.specs.Stamped.{Stamped}
use Rattle.semantics.specs.LegalHistory.{has_id}
use Rattle.semantics.specs.Entries.{applied, stamped_in}
use Rattle.operation.specs.declared.op.Op.{Op}
use Rattle.operation.specs.Ops.{entry_of}
use Rattle.oplog.specs.Logs.{AreOfMembers, HaveOwnIds, IsIndexed, Logged, columns_for, history, numbers_of}
use Rattle.oplog.proofs.Oldest.{history-length, history-more}
use Rattle.oplog.proofs.PlacedIds.{unplaced}
use Rattle.oplog.proofs.JoinedTables.{columns_joined, columns_more, members_joined}
use Rattle.oplog.proofs.Positions.{as_many_set}
use Rattle.oplog.proofs.Room.{least_room-any, room_parts, room_used}
use Rattle.oplog.proofs.log.Log.push.Goals as goal

pub index_or_join-index-requires-clause-room : goal.index_or_join-index-requires-clause-room
index_or_join-index-requires-clause-room c =
    let d = c.self.inside in
    (room_parts (vec_capacity d.entries - vec_len d.entries) d.table d.positions.items
    (subst (λ (l : Logged). 0 < l.room) (sym c.self.view_is) c.requires.room)).1

pub put_position-requires-clause-inside : goal.put_position-requires-clause-inside
put_position-requires-clause-inside c =
    let d = c.self.inside in
    let p = c.deref.result.now.id.replica in
    let column = (room_parts (vec_capacity d.entries - vec_len d.entries) d.table d.positions.items
    (subst (λ (l : Logged). 0 < l.room) (sym c.self.view_is) c.requires.room)).2 in
    let here = slice_get_within c.index_or_join-index.new.self.numbers c.index_or_join-index.result p c.index_or_join-index.ensures.index in
    let count = ap length c.index_or_join-index.ensures.numbers in
    let longer = length_joined p d.table.numbers in
    omega (arith, column, here, count, longer)

pub put_position-requires-clause-room : goal.put_position-requires-clause-room
put_position-requires-clause-room c =
    let d = c.self.inside in
    least_room-any _ 1 d.positions.items (subst (λ (l : Logged). 0 < l.room) (sym c.self.view_is) c.requires.room) (omega arith)

pub push_reserved-requires : goal.push_reserved-requires
push_reserved-requires c =
    let d = c.self.inside in
    let some = (room_parts (vec_capacity d.entries - vec_len d.entries) d.table d.positions.items
    (subst (λ (l : Logged). 0 < l.room) (sym c.self.view_is) c.requires.room)).0 in
    omega (arith, some)

pub invariant_of-self : goal.invariant_of-self
invariant_of-self c =
    let d = c.self.inside in
    let e = c.args.entry in
    let G = history d.entries.items in
    let x = entry_of e in
    let i = c.index_or_join-index.result in
    let p = (stamped_in x).id.replica in
    let own : c.deref.result.now.id ≡ (stamped_in x).id = ap (λ (o : Op). o.id) c.deref.ensures
    ∙ ap (λ (s : Stamped). s.id) c.op.ensures.stamped in
    let position : c.len-position.result ≡ length G = let count = history-length d.entries.items in omega arith in
    let more : history c.push_reserved.new.self.items ≡ x ∷ G = ap history c.push_reserved.ensures.items
    ∙ history-more d.entries.items e in
    let table : c.index_or_join-index.new.self.numbers ≡ joined p d.table.numbers = c.index_or_join-index.ensures.numbers
    ∙ ap (λ (a : OpId). joined a.replica d.table.numbers) own in
    let n : ℕ = length d.positions.items in
    let long : length c.put_position.new.positions.items ≡ n =
    as_many_set d.positions.items c.put_position.new.positions.items i _ c.put_position.ensures.numbers in
    let column = (room_parts (vec_capacity d.entries - vec_len d.entries) d.table d.positions.items
    (subst (λ (l : Logged). 0 < l.room) (sym c.self.view_is) c.requires.room)).2 in
    let before : numbers_of d.positions.items ≡ columns_for n (joined p d.table.numbers) G = c.self.invariant.positions_are
    ∙ columns_joined p d.table.numbers n G c.self.invariant.members column in
    let distinct = distinct_joined p d.table.numbers c.self.invariant.distinct in
    let after : numbers_of c.put_position.new.positions.items ≡ columns_for n (joined p d.table.numbers) (x ∷ G) =
    c.put_position.ensures.numbers
    ∙ (λ t. set (before t) i (put id_cmp (own t) (position t) (get_or (before t) i [])))
    ∙ columns_more G x (joined p d.table.numbers) i n distinct
    (ap (λ ps. slice_get ps i) (sym table) ∙ c.index_or_join-index.ensures.index ∙ ap (λ (a : OpId). Some a.replica) own) in
    subst (λ ps. IsIndexed ps c.put_position.new.positions.items c.push_reserved.new.self.items
    c.index_or_join-index.result) (sym table) (record {
      distinct = distinct;
      positions_are = after ∙ (λ t. columns_for (sym long t) (joined p d.table.numbers) (sym more t));
      members = subst (AreOfMembers (joined p d.table.numbers)) (sym more)
          (members_joined p d.table.numbers G c.self.invariant.members, joined_itself p d.table.numbers);
      own_ids =
          subst HaveOwnIds (sym more) (
            c.self.invariant.own_ids,
            unplaced G (stamped_in x).id
                (subst (λ (l : Logged). has_id (applied l.entries) (stamped_in (entry_of e)).id ≡ false)
                (sym c.self.view_is) c.requires.new),
          );
      roomy = c.put_position.ensures.roomy;
      within =
          (let here = slice_get_within c.index_or_join-index.new.self.numbers i _ c.index_or_join-index.ensures.index in
          let count = ap length table in omega (arith, here, count));
    })

pub returns-clause-room : goal.returns-clause-room
returns-clause-room c =
    let d = c.self.inside in
    let long = as_many_set d.positions.items c.put_position.new.positions.items c.index_or_join-index.result _
    c.put_position.ensures.numbers in
    let room = ap (λ (l : Logged). l.room) c.self.view_is in
    let used = room_used (vec_capacity d.entries - vec_len d.entries)
    (vec_capacity c.push_reserved.new.self - vec_len c.push_reserved.new.self)
    d.table c.index_or_join-index.new.self d.positions.items c.put_position.new.positions.items c.deref.result.now.id.replica (omega arith)
    c.index_or_join-index.ensures.numbers c.index_or_join-index.ensures.room long c.put_position.ensures.room in
    omega (arith, room, used)
