use Rattle.std.proofs.Common.{◌≡◌, [], length}
use Rattle.std.specs.List.{All}
use Rattle.published.proofs.publisher.tokens.Given as goal

-- this many tokens were made, and none has seen anything
abbrev pub invariant-loop : goal.invariant-loop
invariant-loop g l = record {
  count : length l.tokens.items ≡ l.counter;
  none : All (λ s. s.seen ≡ []) l.tokens.items;
}
