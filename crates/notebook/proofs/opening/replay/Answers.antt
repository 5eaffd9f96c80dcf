use Rattle.std.proofs.Common.{◌≡◌, ◌∙◌, List, ℕ, take, sym, ap, subst}
use Rattle.journal.specs.wire.Lines.{Cut, cut}
use Rattle.journal.specs.records.Replays.{BringsBackLines}
use Rattle.notebook.proofs.TakenLines.{all_taken}
use Rattle.notebook.proofs.opening.replay.Goals as goal

pub returns-then-is_begun-clause-brought : goal.returns-then-is_begun-clause-brought
returns-then-is_begun-clause-brought g c =
    let text = take c.whole_len-whole.result c.args.bytes.now in
    let taken = c.take-replayed.ensures.taken in
    let done = taken.3 c.in_default.is in
    let all : take c.take-replayed.result.entries (cut text).lines ≡ (cut c.args.bytes.now).lines =
    all_taken c.take-replayed.result.entries text (sym c.take-replayed.ensures.bytes ∙ done.1)
    ∙ ap (λ (k : Cut). k.lines) c.whole_len-whole.ensures.lines in
    subst (BringsBackLines c.args.client.now.seen (cut c.args.bytes.now).lines) (sym done.0)
    (subst (λ (ls : List (List ℕ)). BringsBackLines c.args.client.now.seen ls taken.0) all taken.1)
