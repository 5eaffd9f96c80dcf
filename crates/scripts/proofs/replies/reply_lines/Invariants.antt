-- What is left follows the lines so far.
use Rattle.std.proofs.Common.{◌≡◌, ◌++◌, drop, map, IsUtf8}
use Rattle.world.specs.Acts.{step_reply_of}
use Rattle.scripts.specs.Replies.{reply_text}
use Rattle.scripts.proofs.replies.reply_lines.Given as goal

abbrev pub invariant-loop-reply : goal.invariant-loop-reply
invariant-loop-reply l = record {
  left : l.lines.items ++ reply_text (map step_reply_of (drop l.reply-index l.replies)) ≡ reply_text (map step_reply_of l.replies);
  utf8 : IsUtf8 l.lines.items;
}
