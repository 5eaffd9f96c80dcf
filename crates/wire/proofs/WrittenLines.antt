-- What is read of a line, or of a text of lines, is what was written there.
use Rattle.std.proofs.Common.{◌≡◌, ℕ, Bool, true, false, cond, ◌+◌, length, List, [], ◌∷◌, map, Option, Some, None, Result, Ok, Err, refl}
use Rattle.std.proofs.Common.{ap, ◌∙◌}
use Rattle.std.specs.Option.{ok_or, option_map_or}
use Rattle.std.specs.Str.{is_utf8}
use Rattle.ids.specs.declared.refusal.Refusal.{Refusal}
use Rattle.ids.specs.declared.refusal.Refusal.TheVariants.{BadLine}
use Rattle.semantics.specs.Stamped.{Stamped}
use Rattle.semantics.specs.Vectors.{IsCanonical, Vector}
use Rattle.serde_json.specs.Data.{Data}
use Rattle.serde_json.specs.Read.{read}
use Rattle.wire.specs.Bundles.{Readable, all_or_bad, bundle_form, jsons_in, line_readable, lines_readable, tail_readable}
use Rattle.wire.specs.Forms.{and_then, json_form, phrase_form}
use Rattle.wire.specs.Lines.{Bad, cut}
use Rattle.wire.specs.Messages.{hello_form, hello_json, hello_of}
use Rattle.wire.specs.Operations.{operation_json}
use Rattle.wire.specs.Profiles.{Profile, json_in, line_form, operation_beside}
use Rattle.wire.specs.Reading.{op_form, operation_form}
use Rattle.wire.proofs.BundleBack.{operations_of}
use Rattle.wire.proofs.NormalNumbers.{IsNormal, read_normal}
use Rattle.wire.proofs.WrittenBack.{hello_in, made_of, operation_in}
use Rattle.wire.proofs.WrittenBeside.{beside_in}

pub json_normal : (text : List ℕ) (d : Data) → json_form text ≡ Ok d → IsNormal d
json_normal text d h = by (is_utf8 text) (read text) refl h
  where
    by : (t : Bool) (o : Option Data) → read text ≡ o → cond t (ok_or o BadLine) (Err BadLine) ≡ Ok d → IsNormal d
    by true (Some x) is e = read_normal text d (is ∙ ap Some (let same : x ≡ d = cc in same))
    by true None is e = absurd (cc)
    by false o is e = absurd (cc)

pub op_line_in : (text : List ℕ) (s : Stamped) → op_form text ≡ Ok s → json_form text ≡ Ok (operation_json s)
op_line_in text s h =
    let d = made_of operation_form (json_form text) s h in d.1 ∙ ap Ok (operation_in d.0 s (json_normal text d.0 d.1) d.2)

pub hello_line_in : (text : List ℕ) (v : Vector) → hello_form text ≡ Ok v → json_form text ≡ Ok (hello_json v)
hello_line_in text v h =
    let p = made_of hello_of (and_then phrase_form (json_form text)) v h in
    let d = made_of phrase_form (json_form text) p.0 p.1 in
    d.1 ∙ ap Ok (hello_in d.0 v (ap (and_then hello_of) d.2 ∙ p.2))

-- what was read of a text without a bad line
pub record IsWhole (r : Readable) (ss : List Stamped) : Type 0 where
  pub operations : r.operations ≡ ss
  pub unstopped : r.stopped ≡ None

whole : (r : Readable) (ss : List Stamped) → all_or_bad r ≡ Ok ss → IsWhole r ss
whole r ss h = by r.stopped refl h
  where
    by : (o : Option Refusal) → r.stopped ≡ o
        → option_map_or {U = Result (List Stamped) Bad} (λ why. Err (length r.operations + 1, why)) o (Ok r.operations) ≡ Ok ss
        → IsWhole r ss
    by None is e = record { operations = (let same : r.operations ≡ ss = cc in same); unstopped = is }
    by (Some why) is e = absurd (cc)

ended : (tail : List ℕ) → (tail_readable tail).stopped ≡ None → tail ≡ []
ended [] h = refl
ended (b ∷ tail) h = absurd (cc)

-- a line that is read relative to a base: JSON of its operation in one of the profiles, whose vector can in turn be a base
record IsLine (base : Vector) (line : List ℕ) (s : Stamped) : Type 0 where
  profile : Profile
  is : json_form line ≡ Ok (json_in profile base s)
  canonical : IsCanonical s.vector

line_in : (base : Vector) (line : List ℕ) (s : Stamped) → IsCanonical base → line_form base line ≡ Ok s → IsLine base line s
line_in base line s h e =
    let d = made_of (operation_beside base) (json_form line) s e in
    let of = beside_in base d.0 s h (json_normal line d.0 d.1) d.2 in
    record { profile = of.profile; is = d.1 ∙ ap Ok of.is; canonical = of.canonical }

-- lines that are read as these operations
record AreLines (base : Vector) (ls : List (List ℕ)) (ss : List Stamped) : Type 0 where
  told : List (Profile × Stamped)
  operations : operations_of told ≡ ss
  are : map json_form ls ≡ map (λ d. Ok d) (jsons_in base told)

lines_in : (base : Vector) (ls : List (List ℕ)) (tail : List ℕ) → IsCanonical base → (lines_readable base ls tail).stopped ≡ None
    → AreLines base ls (lines_readable base ls tail).operations
lines_in base [] [] canonical h = record { told = []; operations = refl; are = refl }
lines_in base [] (b ∷ tail) canonical h = absurd (cc)
lines_in base (l ∷ ls) tail canonical h = by (line_form base l) refl (λ s more e. lines_in s.vector ls tail more e) h
  where
    by : (r : Result Stamped Refusal) → line_form base l ≡ r
        → ((s : Stamped) → IsCanonical s.vector → (lines_readable s.vector ls tail).stopped ≡ None
        → AreLines s.vector ls (lines_readable s.vector ls tail).operations)
        → (line_readable (λ v. lines_readable v ls tail) r).stopped ≡ None
        → AreLines base (l ∷ ls) (line_readable (λ v. lines_readable v ls tail) r).operations
    by (Ok s) is rest e =
        let line = line_in base l s canonical is in
        let more = rest s line.canonical e in
        record {
          told = (line.profile, s) ∷ more.told;
          operations = ap (λ (ss : List Stamped). s ∷ ss) more.operations;
          are = λ i. line.is i ∷ more.are i;
        }
    by (Err why) is rest e = absurd (cc)

lines_ended : (base : Vector) (ls : List (List ℕ)) (tail : List ℕ) → (lines_readable base ls tail).stopped ≡ None → tail ≡ []
lines_ended base [] tail h = ended tail h
lines_ended base (l ∷ ls) tail h = by (line_form base l) (λ v more. lines_ended v ls tail more) h
  where
    by : (r : Result Stamped Refusal) → ((v : Vector) → (lines_readable v ls tail).stopped ≡ None → tail ≡ [])
        → (line_readable (λ v. lines_readable v ls tail) r).stopped ≡ None → tail ≡ []
    by (Ok s) rest e = rest s.vector e
    by (Err why) rest e = absurd (cc)

pub bundle_in : (base : Vector) (text : List ℕ) (ss : List Stamped) → IsCanonical base → bundle_form base text ≡ Ok ss
    → (told : List (Profile × Stamped)) × (operations_of told ≡ ss)
    × (map json_form (cut text).lines ≡ map (λ d. Ok d) (jsons_in base told))
bundle_in base text ss canonical h =
    let r = lines_readable base (cut text).lines (cut text).tail in
    let all = whole r ss h in
    let read = lines_in base (cut text).lines (cut text).tail canonical all.unstopped in
    (read.told, read.operations ∙ all.operations, read.are)

pub bundle_ended : (base : Vector) (text : List ℕ) (ss : List Stamped) → bundle_form base text ≡ Ok ss → (cut text).tail ≡ []
bundle_ended base text ss h =
    lines_ended base (cut text).lines (cut text).tail
    (whole (lines_readable base (cut text).lines (cut text).tail) ss h).unstopped
