use Rattle.std.proofs.Common.{◌≡◌, ◌∙◌, List, ℕ, [], length, take, sym, ap, subst}
use Rattle.std.proofs.Math.Seq.{take-length}
use Rattle.semantics.specs.Replica.{Replica}
use Rattle.session.specs.wire.Lines.{Cut, cut}
use Rattle.session.specs.records.Replays.{BringsBackLines}
use Rattle.serving.proofs.desk.opening.brought_back.Goals as goal

pub returns-clause-brought : goal.returns-clause-brought
returns-clause-brought c =
    let text = take c.whole_len-whole.result c.args.bytes.now in
    let n : ℕ = c.replay-replayed.result.entries in
    let (G, brought, begins, whole, rest) = c.replay-replayed.ensures.taken in
    let (same, bytes) = whole c.in_default.is in
    let first = c.replay-replayed.ensures.bytes in
    let cut_all : cut text ≡ record { lines = take n (cut text).lines; tail = [] } =
    sym (ap cut (ap (λ k. take k text) bytes ∙ take-length text)) ∙ first in
    let all : take n (cut text).lines ≡ (cut c.args.bytes.now).lines =
    sym (ap (λ (k : Cut). k.lines) cut_all) ∙ ap (λ (k : Cut). k.lines) c.whole_len-whole.ensures.lines in
    let empty : c.in_ok-session.session.entries ≡ [] = ap (λ (r : Replica). r.entries) c.in_ok-session.ensures.new in
    subst (λ F. BringsBackLines F (cut c.args.bytes.now).lines c.replay-replayed.new.self.entries) empty
    (subst (λ H. BringsBackLines c.in_ok-session.session.entries (cut c.args.bytes.now).lines H) (sym same)
    (subst (λ (ls : List (List ℕ)). BringsBackLines c.in_ok-session.session.entries ls G) all brought))
