use Rattle.std.proofs.Common.{◌<◌, ◌||◌, ◌∙◌, List, length, ap, sym, arith}
use Rattle.std.specs.FinMap.{put}
use Rattle.semantics.specs.Ids.{OpId, id_cmp}
use Rattle.semantics.specs.Glances.{is_same_tag}
use Rattle.cursor.specs.declared.tag.Tag.{Tag}
use Rattle.cursor.specs.Steps.{tag_of}
use Rattle.columns.specs.Kinds.{has_kind, stands_as}
use Rattle.columns.specs.declared.kinds.Kinds.{Kinds}
use Rattle.columns.proofs.StandingTags.{stands-put}
use Rattle.columns.proofs.tag_list.TagList.put.Goals as goal
use Rattle.columns.proofs.tag_list.TagList.put.Goals.{then-len-count, else-len-count}

pub invariant_of-self : goal.invariant_of-self
invariant_of-self c = λ t.
    let es = c.self.inside.entries.entries in
    elim c.if-len-count.branch [
      | then-len-count w ↦
          let more : length es < length (put id_cmp c.args.id c.args.tag es) =
          (let count = c.len-count.ensures.length in let all = c.len.ensures.length in let h = w.if-len-count.true in
          let same = ap (λ (xs : List (OpId × Tag)). length xs) c.put.ensures.entries in omega (arith, count, all, h, same)) in
          ap (λ (k : Kinds). has_kind k t) w.self-is ∙ w.with-self-inside.ensures t
          ∙ ap (λ b. b || is_same_tag t (tag_of c.args.tag)) (c.self.invariant t)
          ∙ sym (stands-put t c.args.id c.args.tag es more)
          ∙ ap (stands_as t) (sym c.put.ensures.entries)
      | else-len-count w ↦ ap (λ (k : Kinds). has_kind k t) w.self-is ∙ w.kinds_of-self-inside.ensures t
    ]
