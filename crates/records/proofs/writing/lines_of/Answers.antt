use Rattle.std.proofs.Common.{◌≡◌, ◌+◌, ◌++◌, ◌∷◌, [], ℕ, List, map, drop, drop-cons, add-one, sym, ap, ◌∙◌, append_assoc}
use Rattle.requests.specs.operation.declared.command.Entry.{Entry}
use Rattle.requests.specs.operation.Ops.{entry_of}
use Rattle.semantics.specs.Journals.{recorded}
use Rattle.records.specs.Lines.{journal_text, record_line}
use Rattle.records.proofs.writing.lines_of.Goals as goal

-- one more line was written, and the others are left
pub loop-entry-preserved : goal.loop-entry-preserved
loop-entry-preserved c =
    let entries : List Entry = c.args.entries.now in
    let i : ℕ = c.loop-entry.entry-index in
    let e : Entry = c.entry-item.result in
    let left : List Entry = drop (i + 1) entries in
    let before : List ℕ = c.loop-entry.text.items in
    let next : drop i entries ≡ e ∷ left = drop-cons entries i e c.loop-entry-test.true
    ∙ (λ j. sym c.entry-item.is j ∷ drop (sym (add-one i) j) entries) in
    let line : c.in_ok-line.line.items ≡ record_line (recorded (entry_of e)) =
    c.in_ok-line.ensures ∙ (λ j. c.clear.ensures.items j ++ record_line (recorded (entry_of e))) in
    let pushed : c.push.new.self.items ≡ (before ++ record_line (recorded (entry_of e))) ++ 10 ∷ [] =
    c.in_ok-push.ensures.items
    ∙ ap (λ bs. bs ++ 10 ∷ []) (c.in_ok-extend_from_slice.ensures.items ∙ ap (λ bs. before ++ bs) (c.as_slice.ensures.value ∙ line)) in
    ap (λ bs. bs ++ journal_text (map entry_of left)) pushed
    ∙ append_assoc (before ++ record_line (recorded (entry_of e))) (10 ∷ []) (journal_text (map entry_of left))
    ∙ append_assoc before (record_line (recorded (entry_of e))) (10 ∷ journal_text (map entry_of left))
    ∙ ap (λ (xs : List Entry). before ++ journal_text (map entry_of xs)) (sym next)
    ∙ c.loop-entry.invariant
