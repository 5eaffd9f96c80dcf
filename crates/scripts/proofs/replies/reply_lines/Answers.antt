use Rattle.std.proofs.Common.{◌≡◌, ◌++◌, ◌∷◌, [], ℕ, ◌+◌, List, IsUtf8, drop, drop-cons, map, sym, ap, ◌∙◌, subst}
use Rattle.std.proofs.Common.{append_assoc, add-one, arith}
use Rattle.std.proofs.lemmas.Str.{IsUtf8-append, IsUtf8-from_ascii}
use Rattle.std.proofs.lemmas.Str.Ascii.{IsAscii-cons, IsAscii-nil}
use Rattle.serde_json.specs.Written.{compact_text}
use Rattle.world.specs.Acts.{step_reply_of}
use Rattle.world.specs.declared.step.WorldReply.{WorldReply}
use Rattle.scripts.specs.Replies.{reply_text, step_reply_json}
use Rattle.scripts.proofs.replies.reply_lines.Goals as goal

-- a line feed is UTF-8
line_end : IsUtf8 (10 ∷ [])
line_end = IsUtf8-from_ascii (10 ∷ []) (IsAscii-cons 10 [] (omega arith) IsAscii-nil)

pub loop-reply-preserved : goal.loop-reply-preserved
loop-reply-preserved c =
    let xs = c.args.replies.now in
    let n : ℕ = c.loop-reply.reply-index in
    let so_far : List ℕ = c.loop-reply.lines.items in
    let line : List ℕ = compact_text (step_reply_json (step_reply_of c.reply-item.result)) in
    let rest : List ℕ = reply_text (map step_reply_of (drop (n + 1) xs)) in
    let written : c.in_ok-line.line.items ≡ line = c.in_ok-line.ensures.line ∙ (λ i. c.clear.ensures.items i ++ line) in
    let pushed : c.push.new.self.items ≡ (so_far ++ line) ++ 10 ∷ [] = c.in_ok-push.ensures.items
    ∙ ap (λ (text : List ℕ). text ++ 10 ∷ [])
    (c.in_ok-extend_from_slice.ensures.items ∙ ap (λ (text : List ℕ). so_far ++ text) (c.as_slice.ensures.value ∙ written)) in
    let left : drop n xs ≡ c.reply-item.result ∷ drop (n + 1) xs = drop-cons xs n c.reply-item.result c.loop-reply-test.true
    ∙ (λ i. sym c.reply-item.is i ∷ drop (sym (add-one n) i) xs) in
    record {
      left =
          ap (λ (text : List ℕ). text ++ rest) pushed ∙ append_assoc (so_far ++ line) (10 ∷ []) rest
          ∙ append_assoc so_far line (10 ∷ rest)
          ∙ ap (λ (rs : List WorldReply). so_far ++ reply_text (map step_reply_of rs)) (sym left)
          ∙ c.loop-reply.invariant.left;
      utf8 = subst IsUtf8 (sym pushed)
          (IsUtf8-append (so_far ++ line) (10 ∷ []) (IsUtf8-append so_far line c.loop-reply.invariant.utf8 c.in_ok-line.ensures.utf8)
          line_end);
    }
