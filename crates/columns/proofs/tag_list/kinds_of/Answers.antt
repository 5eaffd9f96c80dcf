use Rattle.std.proofs.Common.{◌+◌, ◌||◌, ◌∙◌, ap, drop, sym}
use Rattle.std.proofs.Math.Bool.{or_assoc}
use Rattle.semantics.specs.Glances.{is_same_tag}
use Rattle.cursor.specs.Steps.{tag_of}
use Rattle.columns.specs.Kinds.{has_kind, stands_as}
use Rattle.columns.proofs.StandingTags.{stands-next}
use Rattle.columns.proofs.tag_list.kinds_of.Goals as goal

pub loop-position-preserved : goal.loop-position-preserved
loop-position-preserved c = λ t.
    let es = c.args.entries.now.entries in
    let k = c.loop-position.position in
    let tag = c.at.result.1.now in
    let rest = stands_as t (drop (k + 1) es) in
    ap (λ b. b || rest) (c.with-kinds.ensures t)
    ∙ or_assoc (has_kind c.loop-position.kinds t) (is_same_tag t (tag_of tag)) rest
    ∙ ap (λ b. has_kind c.loop-position.kinds t || b) (sym (stands-next t es k c.at.result.0 tag c.at.ensures))
    ∙ c.loop-position.invariant t
