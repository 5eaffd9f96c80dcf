-- The lines so far and those of what is left are all.
use Rattle.std.proofs.Common.{◌≡◌, ◌++◌, drop, map}
use Rattle.requests.specs.operation.Ops.{entry_of}
use Rattle.records.specs.Lines.{journal_text}
use Rattle.records.proofs.writing.lines_of.Given as goal

abbrev pub invariant-loop-entry : goal.invariant-loop-entry
invariant-loop-entry l =
    l.text.items ++ journal_text (map entry_of (drop l.entry-index l.entries)) ≡ journal_text (map entry_of l.entries)
