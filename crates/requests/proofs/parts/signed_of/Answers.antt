use Rattle.std.proofs.Common.{◌≡◌, drop, get_or, Option, None, Some, IfSome, ℤ, true}
use Rattle.std.proofs.Common.{false, ◌==◌, refl, sym, ap, ◌∙◌, arith, take_all, length-drop}
use Rattle.fast_float.specs.Text.{scan}
use Rattle.serde_json.specs.Data.{negative, unsigned}
use Rattle.serde_json.specs.Read.{number_of, number_from}
use Rattle.requests.proofs.parts.signed_of.Goals as goal

each : {P Q : ℤ → Type 0} (o : Option ℤ) → ((z : ℤ) → P z → Q z) → IfSome o P → IfSome o Q
each None f h = tt
each (Some z) f h = f z h

pub returns-then-has_minus : goal.returns-then-has_minus
unfolding number_of
returns-then-has_minus c =
    let s = c.as_bytes-digits.result.now in
    let minus : (get_or s 0 0 == 45) ≡ true = sym c.if-has_minus.ensures in
    let parts : c.scan.result ≡ scan (drop 1 s) =
    c.scan.ensures.parts ∙ ap scan (take_all _ (drop 1 s) (omega (arith, length-drop 1 s))) in
    let read : number_from true (scan (drop 1 s)) ≡ number_of s = rw minus in
    let same : number_of c.args.text.now ≡ number_from true c.scan.result =
    sym (ap (number_from true) parts ∙ read ∙ ap number_of c.as_bytes-digits.ensures.value) in
    each c.negative_in.result (λ z e. (negative z, same ∙ e, refl)) c.negative_in.ensures

pub returns : goal.returns
unfolding number_of
returns c =
    let s = c.as_bytes-digits.result.now in
    let plain : (get_or s 0 0 == 45) ≡ false = sym c.if-has_minus.ensures in
    let read : number_from false (scan s) ≡ number_of s = rw plain in
    let same : number_of c.args.text.now ≡ number_from false c.scan-2.result =
    sym (ap (number_from false) c.scan-2.ensures.parts ∙ read ∙ ap number_of c.as_bytes-digits.ensures.value) in
    each c.signed.result (λ z e. (unsigned c.in_ok-whole_in.field-0, same ∙ c.in_ok-whole_in.ensures, e)) c.signed.ensures
