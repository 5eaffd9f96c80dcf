use Rattle.std.proofs.Common.{◌≡◌, ℕ, ◌+◌, [], List, length, take, refl, sym, ap, ◌∙◌, subst, arith}
use Rattle.semantics.specs.Entries.{Entry}
use Rattle.semantics.proofs.EntryBeginnings.{begins_self}
use Rattle.records.specs.wire.Lines.{cut}
use Rattle.peer_sync.proofs.TakenLines.{HasTaken, taken-bytes, taken-more, taken-none}
use Rattle.records.specs.declared.replaying.Replayed.{Replayed}
use Rattle.records.specs.Replays.{BringsBackLines}
use Rattle.records.proofs.BroughtBack.{brought-more, brought-none}
use Rattle.journal.proofs.TakenNext.{taken_next}
use Rattle.journal.proofs.replaying.Replay.take.Goals as goal

pub loop-line-init : goal.loop-line-init
loop-line-init g c = record {
  taken = c.new-lines.ensures.none_taken;
  bytes = subst (λ (rest : List ℕ). HasTaken c.args.journal.now rest 0 0) (sym c.new-lines.ensures.all_left)
      (taken-none c.args.journal.now);
  brought = brought-none c.args.client.now.seen;
}

pub loop-line-preserved : goal.loop-line-preserved
loop-line-preserved g c =
    let text = c.args.journal.now in
    let rest = c.loop-line.lines.rest.now in
    let left = c.take_line.new.self.rest.now in
    let line = c.in-Some.line.text.now in
    let F : List Entry = c.args.client.now.seen in
    let G : List Entry = c.loop-line.client.seen in
    let H : List Entry = c.take_line-in-Some.new.client.seen in
    let n : ℕ = c.loop-line.replayed.entries in
    let before = c.loop-line.invariant.bytes in
    let counted : c.count.new.self.entries ≡ n + 1 = ap (λ (r : Replayed). r.entries) c.count.ensures in
    let bytes : c.count.new.self.bytes ≡ c.loop-line.replayed.bytes + (length line + 1) = ap (λ (r : Replayed). r.bytes) c.count.ensures in
    record {
      taken = omega (arith, c.in-Some.ensures.number.0, c.in-Some.ensures.number.1, c.loop-line.invariant.taken, counted);
      bytes = subst (λ m. HasTaken text left m c.count.new.self.bytes) (sym counted)
          (taken-more text rest line left n c.loop-line.replayed.bytes c.count.new.self.bytes before c.in-Some.ensures.line bytes);
      brought = subst (λ (ls : List (List ℕ)). BringsBackLines F ls H)
          (sym (taken_next text rest line left n c.loop-line.replayed.bytes before c.in-Some.ensures.line)
          ∙ ap (λ m. take m (cut text).lines) (sym counted))
          (brought-more F G H (take n (cut text).lines) line c.loop-line.invariant.brought c.in-Ok.ensures.ok);
    }

pub returns : goal.returns
returns g c =
    let before = c.loop-line.invariant.bytes in
    let ended : c.loop-line.lines.rest.now ≡ [] = sym c.in_default.ensures.none.1 ∙ c.in_default-cut_line.ensures in
    let none : length c.loop-line.lines.rest.now ≡ 0 = ap length ended in
    record {
      taken = (
        c.loop-line.client.seen,
        c.loop-line.invariant.brought,
        begins_self c.loop-line.client.seen,
        λ _. (refl, omega (arith, before.left, none)),
      );
      bytes = taken-bytes c.args.journal.now c.loop-line.lines.rest.now c.loop-line.replayed.entries c.loop-line.replayed.bytes before;
    }
