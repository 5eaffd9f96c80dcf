-- Lines that were written relative to a base are read there as their operations.
use Rattle.std.proofs.Common.{◌≡◌, ℕ, Bool, true, false, cond, List, [], ◌∷◌, ◌++◌, map, Result, Ok, Err, refl, sym, ap, ◌∙◌, append_assoc}
use Rattle.std.proofs.Common.{IsUtf8, append-nil}
use Rattle.std.specs.Prelude.{codes}
use Rattle.std.specs.Bool.{⊤}
use Rattle.std.specs.List.{All}
use Rattle.std.specs.Str.{bytes_eq}
use Rattle.std.proofs.lemmas.List.Elements.{All-head, All-tail}
use Rattle.ids.specs.declared.refusal.Refusal.{Refusal}
use Rattle.ids.specs.declared.refusal.Refusal.TheVariants.{BadLine}
use Rattle.semantics.specs.Stamped.{Stamped}
use Rattle.semantics.specs.Vectors.{Vector}
use Rattle.serde_json.specs.Data.{Data, Items}
use Rattle.serde_json.specs.Written.{compact_text}
use Rattle.wire.specs.Bundles.{AreReadBack, AreUtf8, all_or_bad, base_after, bundle_form, bundle_text, jsons_in, lines_text, readable}
use Rattle.wire.specs.Forms.{and_then, json_form, phrase_form}
use Rattle.wire.specs.Lines.{IsFirstLine}
use Rattle.wire.specs.Profiles.{Differences, Profile, Whole, beside_of, fields_beside, json_in, line_form, op2_line, operation_beside}
use Rattle.wire.specs.Reading.{fields_of, five_parts, operation_form, op_form, parts_after}
use Rattle.wire.specs.Sent.{CanBeSent, IsSent, IsSentVector}
use Rattle.wire.proofs.BundleLines.{after, after-op}
use Rattle.wire.proofs.LineEnds.{compact_no_end}
use Rattle.wire.proofs.ReadBeside.{line_form-op2_line}
use Rattle.wire.proofs.SentDeltas.{canonical_sent, sent_is_beside}
use Rattle.wire.proofs.WholeOperations.{op_form-op_line}

-- ---- lines of the first profile

whole_of : (base : Vector) (r : Result (List ℕ × Items) Refusal) (s : Stamped) → and_then fields_of (and_then parts_after r) ≡ Ok s
    → and_then (beside_of base) r ≡ Ok s
whole_of base (Err why) s h = absurd (cc)
whole_of base (Ok p) s h = by (bytes_eq p.0 (codes "op")) h
  where
    by : (t : Bool) → and_then fields_of (cond t (five_parts p.1) (Err BadLine)) ≡ Ok s
        → cond t (and_then fields_of (five_parts p.1))
        (cond (bytes_eq p.0 (codes "op2")) (and_then (fields_beside base) (five_parts p.1)) (Err BadLine)) ≡ Ok s
    by true e = e
    by false e = absurd (cc)

-- a line of the first profile is read the same relative to every base
pub whole_line : (base : Vector) (text : List ℕ) (s : Stamped) → op_form text ≡ Ok s → line_form base text ≡ Ok s
whole_line base text s h = by (json_form text) h
  where
    by : (r : Result Data Refusal) → and_then operation_form r ≡ Ok s → and_then (operation_beside base) r ≡ Ok s
    by (Ok d) e = whole_of base (phrase_form d) s e
    by (Err why) e = absurd (cc)

-- ---- lines

first_line : (d : Data) (ds : List Data) (rest : List ℕ)
    → IsFirstLine (lines_text (d ∷ ds) ++ rest) (compact_text d) (lines_text ds ++ rest)
first_line d ds rest = record { split = append_assoc (compact_text d) (10 ∷ lines_text ds) rest; whole = compact_no_end d }

-- the operations of lines
abbrev pub operations_of : List (Profile × Stamped) → List Stamped
operations_of ls = map (λ l. l.1) ls

after_lines : (base : Vector) (ops : List Stamped) (ls : List (Profile × Stamped)) (rest : List ℕ) → AreReadBack base ls
    → after ops (readable base (lines_text (jsons_in base ls) ++ rest))
    ≡ after (ops ++ operations_of ls) (readable (base_after base (operations_of ls)) rest)
after_lines base ops [] rest back = λ i. after (sym (append-nil ops) i) (readable base rest)
after_lines base ops (l ∷ ls) rest back =
    let ds = jsons_in l.1.vector ls in
    after-op base (lines_text (jsons_in base (l ∷ ls)) ++ rest) (compact_text (json_in l.0 base l.1)) (lines_text ds ++ rest) ops l.1
    (first_line (json_in l.0 base l.1) ds rest) back.0
    ∙ after_lines l.1.vector (ops ++ l.1 ∷ []) ls rest back.1
    ∙ ap (λ (all : List Stamped). after all (readable (base_after l.1.vector (operations_of ls)) rest))
    (append_assoc ops (l.1 ∷ []) (operations_of ls))

-- lines, and what follows them
pub readable-lines : (base : Vector) (ls : List (Profile × Stamped)) (rest : List ℕ) → AreReadBack base ls
    → readable base (lines_text (jsons_in base ls) ++ rest) ≡ after (operations_of ls) (readable (base_after base (operations_of ls)) rest)
readable-lines base ls rest back = after_lines base [] ls rest back

pub bundle_form-lines : (base : Vector) (ls : List (Profile × Stamped)) → AreReadBack base ls
    → bundle_form base (lines_text (jsons_in base ls)) ≡ Ok (operations_of ls)
bundle_form-lines base ls back =
    ap (λ text. all_or_bad (readable base text)) (sym (append-nil (lines_text (jsons_in base ls))))
    ∙ ap all_or_bad (readable-lines base ls [] back)
    ∙ ap Ok (append-nil (operations_of ls))

line_back : (p : Profile) (base : Vector) (s : Stamped) → IsSentVector 0 base → IsSent s → IsUtf8 (compact_text (json_in p base s))
    → line_form base (compact_text (json_in p base s)) ≡ Ok s
line_back Whole base s h sent utf8 = whole_line base (compact_text (json_in Whole base s)) s (op_form-op_line s sent utf8)
line_back Differences base s h sent utf8 = line_form-op2_line base s (canonical_sent 0 base h) (sent_is_beside base s h sent) utf8

-- the lines of operations that can be sent are UTF-8 if their texts are
pub sent_back : (base : Vector) (ls : List (Profile × Stamped)) → IsSentVector 0 base → All IsSent (operations_of ls)
    → AreUtf8 (jsons_in base ls) → AreReadBack base ls
sent_back base [] h sent utf8 = tt
sent_back base (l ∷ ls) h sent utf8 =
    let here : IsSent l.1 = All-head IsSent l.1 (operations_of ls) sent in (
      line_back l.0 base l.1 h here utf8.0,
      sent_back l.1.vector ls here.vector (All-tail IsSent l.1 (operations_of ls) sent) utf8.1,
    )

-- ---- bundles

-- operations, all in profile 2
abbrev told : List Stamped → List (Profile × Stamped)
told ss = map (λ s. (Differences, s)) ss

pub bundle_is_lines : (base : Vector) (ss : List Stamped) → bundle_text base ss ≡ lines_text (jsons_in base (told ss))
bundle_is_lines base [] = refl
bundle_is_lines base (s ∷ ss) = ap (λ text. op2_line base s ++ 10 ∷ text) (bundle_is_lines s.vector ss)

operations_told : (ss : List Stamped) → operations_of (told ss) ≡ ss
operations_told [] = refl
operations_told (s ∷ ss) = ap (λ (rest : List Stamped). s ∷ rest) (operations_told ss)

-- each line of a bundle is read as its operation, if that can be sent
abbrev pub AreBackIfSent : Vector → List Stamped → Type 0
AreBackIfSent base [] = ⊤
AreBackIfSent base (s ∷ ss) = (CanBeSent s → line_form base (op2_line base s) ≡ Ok s) × AreBackIfSent s.vector ss

told_back : (base : Vector) (ss : List Stamped) → All CanBeSent ss → AreBackIfSent base ss → AreReadBack base (told ss)
told_back base [] sent back = tt
told_back base (s ∷ ss) sent back =
    (back.0 (All-head CanBeSent s ss sent), told_back s.vector ss (All-tail CanBeSent s ss sent) back.1)

pub sent_bundle_back : (base : Vector) (ss : List Stamped) → All CanBeSent ss → AreBackIfSent base ss
    → bundle_form base (bundle_text base ss) ≡ Ok ss
sent_bundle_back base ss sent back =
    ap (bundle_form base) (bundle_is_lines base ss)
    ∙ bundle_form-lines base (told ss) (told_back base ss sent back)
    ∙ ap Ok (operations_told ss)
