use Rattle.std.proofs.Common.{◌≡◌, ℕ, ◌-◌, ◌<◌, Some, length, map, set, sym, ap, ◌∙◌, slice_get, arith}
use Rattle.std.proofs.lemmas.List.{map-set}
use Rattle.world.specs.Engines.{cell_of, client_of, given_of}
use Rattle.world.proofs.SingleSteps.{read_mapped, with_answer-there}
use Rattle.world.proofs.client.Client.answer.Goals as goal

pub returns-then-index-len : goal.returns-then-index-len
returns-then-index-len c =
    let k = c.args.self.now in
    let index : ℕ = c.saturating_sub-index.result in
    let at : index ≡ c.args.serial - 1 = c.saturating_sub-index.ensures in
    let within : index < length k.cells.items = omega arith in
    let there : slice_get (map cell_of k.cells.items) index ≡ Some (cell_of c.index_mut-cell.result.now) =
    read_mapped cell_of k.cells.items index c.index_mut-cell.result.now within c.index_mut-cell.ensures.value in
    (λ i. record {
      seen = k.seen;
      cells = map-set cell_of k.cells.items index
          (record { submission = c.index_mut-cell.result.now.submission; answer = Some c.args.given }) i;
    })
    ∙ (λ i. record {
      seen = k.seen;
      cells = set (map cell_of k.cells.items) (at i)
          (cell_of (record { submission = c.index_mut-cell.result.now.submission; answer = Some c.args.given }));
    })
    ∙ sym
    (with_answer-there (client_of k) c.args.serial (given_of c.args.given) (cell_of c.index_mut-cell.result.now)
    (ap (slice_get (map cell_of k.cells.items)) (sym at) ∙ there))
