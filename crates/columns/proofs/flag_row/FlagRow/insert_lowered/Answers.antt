use Rattle.std.proofs.Common.{◌∙◌, ap, map, false}
use Rattle.std.specs.List.{insert}
use Rattle.memchr.specs.Find.{is_byte}
use Rattle.columns.specs.Flagged.{Row}
use Rattle.columns.proofs.Columns.{insert-map}
use Rattle.columns.proofs.flag_row.FlagRow.insert_lowered.Goals as goal

pub returns-clause-flags : goal.returns-clause-flags
returns-clause-flags c =
    ap (λ xs. map (is_byte 1) xs) c.insert.ensures.items
    ∙ insert-map (is_byte 1) c.self.inside.bytes.items c.args.position 0
    ∙ ap (λ (m : Row). insert m.flags c.args.position false) c.self.view_is
