use Rattle.std.proofs.Common.{◌≡◌, ◌<◌, ◌+◌, ◌++◌, ◌∷◌, [], ℕ, List, replicate, ap, ◌∙◌, sym, subst}
use Rattle.std.proofs.lemmas.List.{map-append, replicate-append-replicate}
use Rattle.semantics.specs.Ids.{OpId}
use Rattle.columns.specs.Numbered.{Numbered}
use Rattle.oplog.specs.Logs.{least_room, numbers_of}
use Rattle.oplog.proofs.Room.{least_room-last}
use Rattle.oplog.proofs.log.no_positions.Goals as goal

-- one more empty column
one_more : (n : ℕ) → replicate n [] ++ [] ∷ [] ≡ replicate {A = List (OpId × ℕ)} (n + 1) []
one_more n = replicate-append-replicate n 1 []

pub loop-preserved : goal.loop-preserved
loop-preserved c =
    let column = c.in_ok-column_with_room.field-0 in
    record {
      numbers =
          ap numbers_of c.in_ok-push.ensures.items
          ∙ map-append (λ (n : Numbered OpId). n.entries) c.loop.positions.items (column ∷ [])
          ∙ (λ t. c.loop.invariant.numbers t ++ c.in_ok-column_with_room.ensures.0 t ∷ [])
          ∙ one_more c.loop.counter;
      room = subst (λ (ns : List (Numbered OpId)). 0 < least_room 1 ns) (sym c.in_ok-push.ensures.items)
          (least_room-last 1 c.loop.positions.items column c.loop.invariant.room c.in_ok-column_with_room.ensures.1);
    }
