use Rattle.std.proofs.Common.{◌++◌, ◌∷◌, [], ℕ, List, IsUtf8, ap, sym, ◌∙◌, subst, arith}
use Rattle.std.proofs.lemmas.Str.{IsUtf8-append, IsUtf8-from_ascii}
use Rattle.std.proofs.lemmas.Str.Ascii.{IsAscii-cons, IsAscii-nil}
use Rattle.requests.proofs.wire.LineEnds.{compact_no_end}
use Rattle.calls.specs.Responses.{response_json}
use Rattle.calls.proofs.writing.write_response.Goals as goal

-- a line feed is UTF-8
line_end : IsUtf8 (10 ∷ [])
line_end = IsUtf8-from_ascii (10 ∷ []) (IsAscii-cons 10 [] (omega arith) IsAscii-nil)

pub returns-clause-line : goal.returns-clause-line
returns-clause-line c =
    let text = c.in_ok-line.ensures.text in (
      text.0,
      record {
        split = c.in_ok-push.ensures.items ∙ ap (λ (bs : List ℕ). bs ++ 10 ∷ []) text.1;
        whole = compact_no_end (response_json text.0 c.args.response.now);
      },
    )

pub returns-clause-utf8 : goal.returns-clause-utf8
returns-clause-utf8 c =
    subst IsUtf8 (sym c.in_ok-push.ensures.items)
    (IsUtf8-append c.in_ok-line.line.items (10 ∷ []) c.in_ok-line.ensures.utf8 line_end)
