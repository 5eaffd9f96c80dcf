-- What the JSON of a text is, from what the reader of JSON says of it.
use Rattle.std.proofs.Common.{◌≡◌, ℕ, List, Bool, true, false, Some, None, Ok, Err, refl}
use Rattle.std.specs.Prelude.{IsUtf8}
use Rattle.std.specs.Str.{is_utf8}
use Rattle.std.proofs.lemmas.Str.{IsUtf8-from_is_utf8, is_utf8-from_IsUtf8}
use Rattle.ids.specs.declared.refusal.Refusal.TheVariants.{BadLine}
use Rattle.serde_json.specs.Data.{Data}
use Rattle.serde_json.specs.Read.{read}
use Rattle.wire.specs.Forms.{json_form}

pub json_form-read : (text : List ℕ) (d : Data) → IsUtf8 text → read text ≡ Some d → json_form text ≡ Ok d
json_form-read text d u e = rw (is_utf8-from_IsUtf8 text u, e) refl

pub json_form-unread : (text : List ℕ) → (IsUtf8 text → read text ≡ None) → json_form text ≡ Err BadLine
json_form-unread text h = of (is_utf8 text) refl where
  of : (b : Bool) → is_utf8 text ≡ b → json_form text ≡ Err BadLine
  of true e = rw (e, h (IsUtf8-from_is_utf8 text e)) refl
  of false e = rw e refl
