use Rattle.std.proofs.Common.{◌≡◌, ◌∙◌, ◌<◌, ap, sym, false, true, length, arith}
use Rattle.std.specs.Prelude.{slice_get}
use Rattle.std.proofs.lemmas.List.{length-map}
use Rattle.memchr.specs.Find.{is_byte}
use Rattle.columns.specs.Flagged.{Row}
use Rattle.columns.proofs.Raised.{flag_of_byte}
use Rattle.columns.proofs.flag_row.FlagRow.next_raised.Goals as goal

pub returns-clause-passed : goal.returns-clause-passed
returns-clause-passed c = λ i low high.
    let within = c.next_in.ensures.within in
    ap (λ (m : Row). slice_get m.flags i) (sym c.self.view_is)
    ∙ flag_of_byte c.self.inside.bytes.items i false (omega (arith, high, within)) (c.next_in.ensures.passed i low high)

pub returns-clause-raised : goal.returns-clause-raised
returns-clause-raised c = λ lt.
    let bytes = c.self.inside.bytes.items in
    let long : length bytes ≡ length c.args.self.now.flags = sym (length-map bytes (is_byte 1))
    ∙ ap (λ (m : Row). length m.flags) c.self.view_is in
    let inside : c.next_in.result < length bytes = omega (arith, lt, long) in
    ap (λ (m : Row). slice_get m.flags c.next_in.result) (sym c.self.view_is)
    ∙ flag_of_byte bytes c.next_in.result true inside (c.next_in.ensures.raised inside)
