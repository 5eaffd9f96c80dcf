-- The JSON that a line has, from what the reader of JSON says of its text.
use Rattle.std.proofs.Common.{◌≡◌, true, false, inl, sym}
use Rattle.wire.proofs.JsonTexts.{json_form-read, json_form-unread}
use Rattle.wire.proofs.forms.json_of.Goals as goal

pub returns-in-Ok : goal.returns-in-Ok
returns-in-Ok c = json_form-read _ _ c.in-Ok.ensures.ok.0 c.in-Ok.ensures.ok.1

pub returns-else-is_memory : goal.returns-else-is_memory
returns-else-is_memory c =
    inl (sym (json_form-unread _ (c.in-Err.ensures.err (λ m. let t : false ≡ true = c.if-is_memory.ensures.1 m in absurd (cc)))))
