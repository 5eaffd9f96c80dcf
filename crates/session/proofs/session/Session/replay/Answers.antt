use Rattle.std.proofs.Common.{◌≡◌, ◌+◌, ◌∙◌, ℕ, List, Option, length, take, sym, ap, subst, arith}
use Rattle.std.specs.Prelude.{IfSome}
use Rattle.semantics.specs.Entries.{Entry}
use Rattle.records.specs.wire.Lines.{cut}
use Rattle.records.specs.declared.replaying.Replayed.{Replayed}
use Rattle.records.specs.declared.replaying.Unfit.{Unfit}
use Rattle.records.specs.Replays.{BringsBackLines}
use Rattle.records.proofs.BroughtBack.{brought-more}
use Rattle.session.proofs.TakenLines.{taken-more, taken_bytes, taken_next}
use Rattle.session.proofs.session.Session.replay.Goals as goal

pub loop-line-preserved : goal.loop-line-preserved
loop-line-preserved c =
    let text = c.args.journal.now in
    let rest = c.loop-line.lines.rest.now in
    let left = c.take_line.new.self.rest.now in
    let line = c.in-Some.line.text.now in
    let F : List Entry = c.args.self.now.entries in
    let G : List Entry = c.loop-line.self.entries in
    let H : List Entry = c.bring_back.new.self.entries in
    let n : ℕ = c.loop-line.replayed.entries in
    let bytes : ℕ = c.loop-line.replayed.bytes in
    let first = c.in-Some.ensures.line in
    let before = c.loop-line.invariant.bytes in
    let counted : c.count.new.self.entries ≡ n + 1 = ap (λ (r : Replayed). r.entries) c.count.ensures in
    let more : c.count.new.self.bytes ≡ bytes + (length line + 1) = ap (λ (r : Replayed). r.bytes) c.count.ensures in
    record {
      taken = omega (arith, c.in-Some.ensures.number.0, c.in-Some.ensures.number.1, c.loop-line.invariant.taken, counted);
      goes_on = ap (λ (r : Replayed). r.stopped) c.count.ensures ∙ c.loop-line.invariant.goes_on;
      bytes = taken-more text rest line left n bytes before first c.count.new.self.entries c.count.new.self.bytes counted more;
      brought = subst (λ (ls : List (List ℕ)). BringsBackLines F ls H)
          (sym (taken_next text rest line left n bytes c.count.new.self.entries c.count.new.self.bytes before first counted more))
          (brought-more F G H (take n (cut text).lines) line c.loop-line.invariant.brought c.in-Ok.ensures.ok);
      own = c.in-Ok.ensures.own ∙ c.loop-line.invariant.own;
    }

pub returns-in-Err-clause-bytes : goal.returns-in-Err-clause-bytes
returns-in-Err-clause-bytes c =
    taken_bytes c.args.journal.now c.loop-line.lines.rest.now c.loop-line.replayed.entries c.loop-line.replayed.bytes
    c.loop-line.invariant.bytes

pub returns-in-Some-cut_line-clause-bytes : goal.returns-in-Some-cut_line-clause-bytes
returns-in-Some-cut_line-clause-bytes c =
    taken_bytes c.args.journal.now c.loop-line.lines.rest.now c.loop-line.replayed.entries c.loop-line.replayed.bytes
    c.loop-line.invariant.bytes

pub returns-in-Err-clause-stopped : goal.returns-in-Err-clause-stopped
returns-in-Err-clause-stopped c = omega (arith, c.in-Some.ensures.number.0, c.loop-line.invariant.taken)

pub returns-in-Some-cut_line-clause-stopped : goal.returns-in-Some-cut_line-clause-stopped
returns-in-Some-cut_line-clause-stopped c =
    omega (arith, c.in-Some-cut_line.ensures.0, c.in_default.ensures.none.2, c.loop-line.invariant.taken)

pub returns-clause-stopped : goal.returns-clause-stopped
returns-clause-stopped c =
    subst (λ (w : Option (ℕ × Unfit)). IfSome w (λ stop. stop.0 ≡ c.loop-line.replayed.entries + 1)) (sym c.loop-line.invariant.goes_on) tt
