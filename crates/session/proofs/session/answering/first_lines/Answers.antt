use Rattle.std.proofs.Common.{◌≡◌, ◌≤◌, ◌⊎◌, ◌+◌, ◌++◌, ◌∷◌, [], ◌∙◌, ℕ, List, Some, Ok, option_map, length, map, take, rules, refl, sym}
use Rattle.std.proofs.Common.{ap, subst}
use Rattle.std.proofs.Common.{append_assoc, arith}
use Rattle.std.specs.List.{slice_get}
use Rattle.std.proofs.lemmas.List.{length-map}
use Rattle.std.proofs.lemmas.List.Elements.{All-map}
use Rattle.std.proofs.lemmas.Option.{slice_get-map, slice_get_read}
use Rattle.replica.specs.operation.declared.op.Op.{Op}
use Rattle.replica.specs.operation.Ops.{stamped_of}
use Rattle.records.specs.wire.Sent.{CanBeSent}
use Rattle.session.proofs.FirstLines.{cut_here, written-more, written_back}
use Rattle.session.proofs.session.answering.first_lines.Goals as goal

-- the operation at a position
there : (ops : List Op) (n : ℕ) (o d : Op) → slice_get ops n ≡ Some o → d ≡ o → slice_get (map stamped_of ops) n ≡ Some (stamped_of d)
there ops n o d at same = slice_get-map stamped_of ops n ∙ ap (option_map stamped_of) (at ∙ ap Some (sym same))

pub returns-then-is_behind-clause-cut : goal.returns-then-is_behind-clause-cut
returns-then-is_behind-clause-cut c =
    let ops : List Op = c.args.ops.now in
    let n : ℕ = c.loop-count.count in
    let o : Op = c.index-ops-count.result in
    let d : Op = c.deref.result.now in
    let at = there ops n o d (slice_get_read ops (length ops) n o refl c.loop-count-test.true c.index-ops-count.is) c.deref.ensures in
    let behind = c.if-is_behind.ensures.yes refl in
    cut_here c.args.most (map stamped_of ops) n c.loop-count.text.items c.loop-count.writer c.loop-count.invariant (stamped_of d)
    c.in_ok-line.line.items at c.in_ok-line.ensures.line (
      behind.0,
      (let a = c.len.ensures in let b = c.len-in-loop-count.ensures in
          omega (arith, behind.1, a, b)),
    )

pub returns-then-is_behind-clause-reads_back : goal.returns-then-is_behind-clause-reads_back
returns-then-is_behind-clause-reads_back c sent =
    written_back c.args.most (map stamped_of c.args.ops.now) c.loop-count.count c.loop-count.text.items c.loop-count.writer
    c.loop-count.invariant (All-map CanBeSent stamped_of c.args.ops.now sent)

pub loop-count-preserved : goal.loop-count-preserved
loop-count-preserved c =
    let ops : List Op = c.args.ops.now in
    let n : ℕ = c.loop-count.count in
    let o : Op = c.index-ops-count.result in
    let d : Op = c.deref.result.now in
    let text = c.loop-count.text.items in
    let line = c.in_ok-line.line.items in
    let at = there ops n o d (slice_get_read ops (length ops) n o refl c.loop-count-test.true c.index-ops-count.is) c.deref.ensures in
    let pushed : c.push.new.self.items ≡ text ++ (line ++ 10 ∷ []) =
    c.in_ok-push.ensures.items
    ∙ ap (λ bs. bs ++ 10 ∷ []) (c.in_ok-extend_from_slice.ensures.items ∙ ap (λ bs. text ++ bs) c.as_slice.ensures.value)
    ∙ append_assoc text line (10 ∷ []) in
    let text_long : c.len.result ≡ length text = search rules in
    let line_long : c.len-in-loop-count.result ≡ length line = search rules in
    let room : (n ≡ 0) ⊎ (length text + (length line + 1) ≤ c.args.most) =
    subst (λ a. (n ≡ 0) ⊎ (a + (length line + 1) ≤ c.args.most)) text_long
    (subst (λ b. (n ≡ 0) ⊎ (c.len.result + (b + 1) ≤ c.args.most)) line_long (c.if-is_behind.ensures.no refl)) in
    written-more c.args.most (map stamped_of ops) n text c.loop-count.writer c.loop-count.invariant (stamped_of d) line at
    c.in_ok-line.ensures.line c.push.new.self.items c.write.new.self (n + 1) refl pushed c.in_ok-line.ensures.base
    c.in_ok-line.ensures.reads_back room

pub returns-clause-reads_back : goal.returns-clause-reads_back
returns-clause-reads_back c sent =
    let ops : List Op = c.args.ops.now in
    let all : c.loop-count.count ≡ length ops = (let few = c.loop-count.invariant.few in let l = length-map ops stamped_of in
    omega (arith, few, l, c.loop-count-test.false)) in
    written_back c.args.most (map stamped_of ops) c.loop-count.count c.loop-count.text.items c.loop-count.writer c.loop-count.invariant
    (All-map CanBeSent stamped_of ops sent)
    ∙ ap (λ k. Ok (take k (map stamped_of ops))) all
