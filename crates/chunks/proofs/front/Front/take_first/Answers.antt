use Rattle.std.proofs.Common.{rules, ◌≡◌, ◌<◌, ◌+◌, ◌++◌, ◌∷◌, [], ◌∙◌, ap, sym, subst, length, take, drop, append_assoc, arith}
use Rattle.std.specs.List.{insert}
use Rattle.std.specs.Prelude.{min}
use Rattle.std.proofs.lemmas.List.{take-append-drop}
use Rattle.std.proofs.lemmas.List.Edits.{insert_end}
use Rattle.chunks.specs.Chunks.{AreRoomyBut, Sequence, ends_from, joined, room_at}
use Rattle.chunks.proofs.Joined.{joined_push}
use Rattle.chunks.proofs.Positions.{ends_push}
use Rattle.chunks.proofs.Spare.{but_push, room_push}
use Rattle.chunks.proofs.Spots.{last_is, many}
use Rattle.chunks.proofs.front.Front.take_first.Goals as goal

pub overflow_add-end : goal.overflow_add-end
overflow_add-end g c =
    let d = c.self.inside in
    let last = c.last.ensures ∙ last_is c.reserve_one.new.self.ends d.chunks.items (c.reserve_one.ensures.same ∙ c.self.invariant.0) in
    let long = ap (λ (m : Sequence g.row.T.Denot). length m.items) c.self.view_is in
    let few = c.requires.few in
    let half = c.len.ensures.few in
    let low : c.last.result + c.len.result < 18446744073709551616 = omega (arith, last, long, few, half) in
    search rules

pub insert-requires-clause-within : goal.insert-requires-clause-within
insert-requires-clause-within g c =
    let d = c.self.inside in
    let long = many c.reserve_one.new.self.ends d.chunks.items (c.reserve_one.ensures.same ∙ c.self.invariant.0) in
    let same = ap length c.reserve.ensures.items in
    let count : c.len-2.result ≡ length c.reserve.new.self.items = search rules in
    omega (arith, long, same, count)

pub invariant_of-self-2 : goal.invariant_of-self-2
invariant_of-self-2 g c =
    let d = c.self.inside in
    let cs = d.chunks.items in
    let h = c.replace-first.result in
    let are = c.reserve_one.ensures.same ∙ c.self.invariant.0 in
    let long = many c.reserve_one.new.self.ends cs are in
    let same = ap length c.reserve.ensures.items in
    let count : c.len-2.result ≡ length c.reserve.new.self.items = search rules in
    let end : c.len-2.result ≡ length c.reserve_one.new.self.ends = omega (arith, long, same, count) in
    let last = c.last.ensures ∙ last_is c.reserve_one.new.self.ends cs are in
    let half = c.len.ensures.length in
    let sum : c.last.result + c.len.result ≡ length (joined cs) + length h.items = omega (arith, last, half) in
    let pushed : c.push_reserved.new.self.items ≡ cs ++ h ∷ [] = c.push_reserved.ensures.items
    ∙ ap (λ xs. xs ++ h ∷ []) c.reserve.ensures.items in
    let some : 0 < h.room = subst (λ (o : Sequence g.row.T.Denot). 0 < o.room)
    (sym c.replace-first.ensures.value) c.in_ok-back.ensures.room in (
      c.insert.ensures
          ∙ ap (λ i. insert c.reserve_one.new.self.ends i (c.last.result + c.len.result)) end
          ∙ insert_end c.reserve_one.new.self.ends (c.last.result + c.len.result)
          ∙ (λ t. are t ++ sum t ∷ [])
          ∙ sym (ends_push cs h)
          ∙ ap (ends_from 0) (sym pushed),
      subst (AreRoomyBut d.put) (sym pushed) (but_push d.put cs h c.self.invariant.1 some),
    )

pub returns-clause-same : goal.returns-clause-same
returns-clause-same g c =
    let d = c.self.inside in
    let cs = d.chunks.items in
    let h = c.replace-first.result in
    let l = c.args.last.now in
    let pushed : c.push_reserved.new.self.items ≡ cs ++ h ∷ [] = c.push_reserved.ensures.items
    ∙ ap (λ xs. xs ++ h ∷ []) c.reserve.ensures.items in
    let front : h.items ≡ take c.first_part.result l.items = ap (λ (o : Sequence g.row.T.Denot). o.items) c.replace-first.ensures.value
    ∙ c.in_ok-back.ensures.items in
    let back : c.replace-first.new.dest.items ≡ drop c.first_part.result l.items
    = ap (λ (o : Sequence g.row.T.Denot). o.items) c.replace-first.ensures.after ∙ c.in_ok-back.ensures.back_items in
    (λ t. joined (pushed t) ++ back t)
    ∙ ap (λ xs. xs ++ drop c.first_part.result l.items) (joined_push cs h ∙ ap (λ xs. joined cs ++ xs) front)
    ∙ append_assoc (joined cs) (take c.first_part.result l.items) (drop c.first_part.result l.items)
    ∙ ap (λ xs. joined cs ++ xs) (take-append-drop c.first_part.result l.items)
    ∙ ap (λ (m : Sequence g.row.T.Denot). m.items ++ l.items) c.self.view_is

pub returns-clause-kept : goal.returns-clause-kept
returns-clause-kept g c =
    let d = c.self.inside in
    let cs = d.chunks.items in
    let h = c.replace-first.result in
    let pushed : c.push_reserved.new.self.items ≡ cs ++ h ∷ [] = c.push_reserved.ensures.items
    ∙ ap (λ xs. xs ++ h ∷ []) c.reserve.ensures.items in
    let some : 0 < h.room = subst (λ (o : Sequence g.row.T.Denot). 0 < o.room)
    (sym c.replace-first.ensures.value) c.in_ok-back.ensures.room in
    let room = ap (λ (m : Sequence g.row.T.Denot). m.room) c.self.view_is in
    let kept = room_push d.put cs h some in
    let now = ap (λ xs. min 1 (room_at xs d.put)) pushed in
    omega (arith, room, kept, now)
