use Rattle.std.proofs.Common.{rules, ◌≡◌, ℕ, ◌<◌, ◌++◌, [], ◌∷◌, List, Some, length, sym, ◌∙◌, subst}
use Rattle.std.specs.List.{slice_index_or}
use Rattle.std.proofs.lemmas.List.Elements.{All-pop, All-push}
use Rattle.atomic_table.specs.Seated.{TableId}
use Rattle.command.specs.published.Rules.{IsQueueOf}
use Rattle.engine.specs.Clients.{Client, IsNewClient}
use Rattle.engine.proofs.Gathering.{numbered_snoc}
use Rattle.engine.proofs.opening.new_ends.Goals as goal

pub loop-number-preserved : goal.loop-number-preserved
loop-number-preserved g c =
    let before = c.loop-number.invariant in
    let client = c.new.result in
    let pushed : c.push_reserved.new.self.items ≡ c.loop-number.clients.items ++ client ∷ [] = search rules in
    let unseen = All-pop (λ token. token.seen ≡ []) c.loop-number.tokens.items c.pop.new.self.items
    (Some c.in-Some.token) c.in-Some.ensures.items before.unseen in
    let fresh : IsNewClient c.args.config.now client = record {
      replica = search rules;
      serials = search rules;
      capacity = search rules;
      found_full = search rules;
      seen = c.new.ensures.5 ∙ unseen.1;
      kept = search rules;
    } in
    let queue : c.sender.new.self.pass.table_id ≡ c.loop-number.taker.pass.table_id = c.sender.ensures.same.0 in record {
      got = c.sender.ensures.same.1 ∙ before.got;
      known = c.sender.ensures.same.2 ∙ before.known;
      made = search rules;
      found_empty = c.sender.ensures.same.3 ∙ before.found_empty;
      capacity = c.sender.ensures.capacity ∙ before.capacity;
      are = numbered_snoc 0 c.loop-number.number c.loop-number.clients.items c.push_reserved.new.self.items client pushed before.are
          before.count (search rules);
      named = subst (λ (q : TableId). IsQueueOf q c.in_ok-queue_name.queue_name.seen.log) (sym queue) before.named;
      count = search rules;
      new = subst (λ (cs : List Client). (k : ℕ) → (d : Client) → k < length cs → IsNewClient c.args.config.now (slice_index_or cs k d))
          (sym pushed) (All-push (IsNewClient c.args.config.now) c.loop-number.clients.items client before.new fresh);
      tokens = search rules;
      unseen = unseen.0;
      room = search rules;
    }
