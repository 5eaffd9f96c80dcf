use Rattle.std.proofs.Common.{◌≡◌, Option, None, Some, IfSome, rules}
use Rattle.json.specs.Json.{after_end_array}
use Rattle.semantics.specs.Ids.{OpId}
use Rattle.requests.proofs.TakenParts.{no_part, one_part}
use Rattle.requests.proofs.parts.take_id_parts.Goals as goal

pub returns : goal.returns
returns c =
    let ends : after_end_array c.take_whole-2.new.reader ≡ Some c.take_end_array.new.self = search rules in
    let replica = one_part 0 _ _ _ _ _ c.in_ok-replica.ensures (no_part 0 _ _ ends) in
    let all = one_part 0 _ _ _ _ _ c.in_ok-counter.ensures replica in
    each c.id_of_numbers.result (λ id e. (_, all, e)) c.id_of_numbers.ensures
  where
    each : {P Q : OpId → Type 0} (o : Option OpId) → ((x : OpId) → P x → Q x) → IfSome o P → IfSome o Q
    each None f h = tt
    each (Some x) f h = f x h
