use Rattle.std.proofs.Common.{◌∙◌, ap, set, map}
use Rattle.std.proofs.lemmas.List.{map-set}
use Rattle.memchr.specs.Find.{is_byte}
use Rattle.columns.proofs.flag_row.FlagRow.set.Goals as goal

pub returns-clause-flags : goal.returns-clause-flags
returns-clause-flags c =
    ap (λ xs. map (is_byte 1) xs) c.replace-old.ensures.items
    ∙ map-set (is_byte 1) c.self.inside.bytes.items c.args.position c.byte_of.result
    ∙ (λ t. set (c.self.view_is t).flags c.args.position (c.byte_of.ensures t))
