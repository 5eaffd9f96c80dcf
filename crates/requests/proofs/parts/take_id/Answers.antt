use Rattle.std.proofs.Common.{Option, None, Some, IfSome}
use Rattle.semantics.specs.Ids.{OpId}
use Rattle.serde_json.specs.Data.{array}
use Rattle.requests.proofs.TakenParts.{all_parts}
use Rattle.requests.proofs.parts.take_id.Goals as goal

pub returns : goal.returns
returns c =
    each c.take_id_parts.result (λ id parts. (array parts.0, all_parts 0 _ _ _ parts.0 c.if-not-opens.ensures parts.1, parts.2))
    c.take_id_parts.ensures
  where
    each : {P Q : OpId → Type 0} (o : Option OpId) → ((x : OpId) → P x → Q x) → IfSome o P → IfSome o Q
    each None f h = tt
    each (Some x) f h = f x h
