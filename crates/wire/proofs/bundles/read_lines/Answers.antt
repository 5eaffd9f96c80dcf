use Rattle.std.proofs.Common.{rules, Some, ◌≡◌, ◌≢◌, ◌++◌, [], ◌∷◌, List, map, inl, inr, sym, ap, ◌∙◌}
use Rattle.std.proofs.lemmas.List.{map-append}
use Rattle.semantics.specs.Stamped.{Stamped}
use Rattle.operation.specs.declared.op.Op.{Op}
use Rattle.operation.specs.Ops.{stamped_of}
use Rattle.wire.specs.Bundles.{Readable, readable}
use Rattle.wire.proofs.BundleLines.{after, after-bad, after-cut, after-none, after-op}
use Rattle.wire.proofs.OrNoMemory.{IsOrNoMemory-Err}
use Rattle.wire.proofs.bundles.read_lines.Goals as goal
use Rattle.wire.proofs.bundles.read_lines.Goals.{in-Some-cut_line, in-None}

pub loop-line-preserved : goal.loop-line-preserved
loop-line-preserved c =
    let old : List Op = c.loop-line.ops.items in
    let x = c.in-Ok.op in
    let pushed : c.push.new.self.items ≡ old ++ x ∷ [] = search rules in
    let step = after-op c.loop-line.reader _ _ _ (map stamped_of old) (stamped_of x) c.in-Some.ensures.line c.in-Ok.ensures.read in
    let more : map stamped_of (old ++ x ∷ [])
    ≡ map stamped_of old ++ stamped_of x ∷ [] = map-append stamped_of old (x ∷ []) in
    record {
      left = rw (pushed, c.in-Ok.ensures.base)
          (ap (λ (ss : List Stamped). after ss (readable x.deps c.take_line.new.self.rest.now)) more ∙ sym step
          ∙ c.loop-line.invariant.left);
    }

pub returns-in-Err-clause-read : goal.returns-in-Err-clause-read
returns-in-Err-clause-read c =
    let ss = map stamped_of c.loop-line.ops.items in
    elim (IsOrNoMemory-Err _ _ c.in-Err.ensures.read) [
      | inl e ↦ inl (ap Some e)
      | inr e ↦
          let all = sym (after-bad _ _ _ _ ss c.in-Err.why c.in-Some.ensures.line e) ∙ c.loop-line.invariant.left in
          inr (ap (λ (r : Readable). r.operations) all, ap (λ (r : Readable). r.stopped) all)
    ]

pub returns-clause-read : goal.returns-clause-read
returns-clause-read c =
    let ss = map stamped_of c.loop-line.ops.items in
    elim c.match-cut_line.branch [
      | in-Some-cut_line w ↦
          let some : c.loop-line.lines.rest.now ≢ [] = rw c.in_default.ensures.none.1 at w.in-Some-cut_line.ensures.1 in
          let all = sym (after-cut _ _ ss c.in_default.ensures.none.0 some) ∙ c.loop-line.invariant.left in
          inr (ap (λ (r : Readable). r.operations) all, w.stopped-is ∙ ap (λ (r : Readable). r.stopped) all)
      | in-None w ↦
          let all = sym (after-none _ _ ss (sym c.in_default.ensures.none.1 ∙ w.in-None.ensures)) ∙ c.loop-line.invariant.left in
          inr (ap (λ (r : Readable). r.operations) all, w.stopped-is ∙ ap (λ (r : Readable). r.stopped) all)
    ]
