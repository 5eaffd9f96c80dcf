-- What is read as a bundle is UTF-8.
use Rattle.std.proofs.Common.{◌≡◌, ◌==◌, ◌+◌, ◌∙◌, ℕ, zero, suc, Bool, true, false, List, [], ◌∷◌, ◌++◌, length, Option, Some, None, Result}
use Rattle.std.proofs.Common.{Ok, Err, IsUtf8, refl, ap, sym, subst, arith}
use Rattle.std.specs.Option.{option_map_or}
use Rattle.std.specs.Str.{IsAscii, is_utf8}
use Rattle.std.proofs.lemmas.Bool.{eqb-true}
use Rattle.std.proofs.lemmas.Str.{IsUtf8-append, IsUtf8-nil, IsUtf8-from_ascii, IsUtf8-from_is_utf8}
use Rattle.ids.specs.declared.refusal.Refusal.{Refusal}
use Rattle.semantics.specs.Stamped.{Stamped}
use Rattle.semantics.specs.Vectors.{Vector}
use Rattle.session.specs.wire.Bundles.{Readable, all_or_bad, bundle_form, line_readable, lines_readable, tail_readable}
use Rattle.session.specs.wire.Lines.{Bad, Cut, cut, lengthened}
use Rattle.session.specs.wire.Forms.{and_then, json_form}
use Rattle.session.specs.wire.Profiles.{line_form, operation_beside}
use Rattle.serde_json.specs.Data.{Data}
use Rattle.ids.specs.declared.refusal.Refusal.TheVariants.{BadLine}

-- the text of these lines, and what is after them
joined : List (List ℕ) → List ℕ → List ℕ
joined [] tail = tail
joined (l ∷ ls) tail = l ++ 10 ∷ joined ls tail

joined_more : (b : ℕ) (ls : List (List ℕ)) (tail : List ℕ)
    → joined (lengthened b ls tail).lines (lengthened b ls tail).tail ≡ b ∷ joined ls tail
unfolding joined
joined_more b [] tail = refl
joined_more b (l ∷ ls) tail = refl

joined_next : (b : ℕ) (bs : List ℕ) (test : Bool) → (b == 10) ≡ test → joined (cut bs).lines (cut bs).tail ≡ bs
    → joined (cut (b ∷ bs)).lines (cut (b ∷ bs)).tail ≡ b ∷ bs
unfolding joined
joined_next b bs true e h = rw e (ap (λ (xs : List ℕ). 10 ∷ xs) h ∙ ap (λ n. n ∷ bs) (sym (eqb-true b 10 e)))
joined_next b bs false e h = rw e (joined_more b (cut bs).lines (cut bs).tail ∙ ap (λ (xs : List ℕ). b ∷ xs) h)

joined_cut : (text : List ℕ) → joined (cut text).lines (cut text).tail ≡ text
unfolding joined
joined_cut [] = refl
joined_cut (b ∷ bs) = joined_next b bs (b == 10) refl (joined_cut bs)

-- JSON that is read is UTF-8
json_utf8 : {T : Type 0} (next : Data → Result T Refusal) (line : List ℕ) (x : T) (test : Bool) → is_utf8 line ≡ test
    → and_then next (json_form line) ≡ Ok x → IsUtf8 line
json_utf8 next line x true e h = IsUtf8-from_is_utf8 line e
json_utf8 {T} next line x false e h = absurd (let bad : Err BadLine ≡ Ok x = sym (rw e refl) ∙ h in cc)

line_utf8 : (base : Vector) (line : List ℕ) (s : Stamped) → line_form base line ≡ Ok s → IsUtf8 line
line_utf8 base line s h = json_utf8 (operation_beside base) line s (is_utf8 line) refl h

ascii_end : IsAscii (10 ∷ [])
ascii_end zero = omega arith
ascii_end (suc i) = omega arith

-- if lines are read to their end, the first one and what follows it are UTF-8
record IsMore (base : Vector) (line : List ℕ) (ls : List (List ℕ)) (tail : List ℕ) : Type 0 where
  first : Stamped
  read : line_form base line ≡ Ok first
  more : List Stamped
  rest : all_or_bad (lines_readable first.vector ls tail) ≡ Ok more

by_stop : {T : Type 0} (n : ℕ) (x : T) (stop : Option Refusal) (y : T)
    → option_map_or {U = Result T Bad} (λ why. Err (n, why)) stop (Ok x) ≡ Ok y → stop ≡ None
by_stop n x None y h = refl
by_stop n x (Some why) y h = absurd (cc)

stopped_none : (r : Readable) (ss : List Stamped) → all_or_bad r ≡ Ok ss → r.stopped ≡ None
stopped_none r ss h = by_stop (length r.operations + 1) r.operations r.stopped ss h

none_stopped : (r : Readable) → r.stopped ≡ None → all_or_bad r ≡ Ok r.operations
none_stopped r e = rw e refl

is_more : (base : Vector) (line : List ℕ) (ls : List (List ℕ)) (tail : List ℕ) (ss : List Stamped) (r : Result Stamped Refusal)
    → line_form base line ≡ r → all_or_bad (line_readable (λ v. lines_readable v ls tail) r) ≡ Ok ss → IsMore base line ls tail
is_more base line ls tail ss (Err why) e h = absurd (cc)
is_more base line ls tail ss (Ok s) e h = record {
  first = s;
  read = e;
  more = (lines_readable s.vector ls tail).operations;
  rest = none_stopped (lines_readable s.vector ls tail)
      (stopped_none (line_readable (λ v. lines_readable v ls tail) (Ok s)) ss h);
}

all_utf8 : (base : Vector) (lines : List (List ℕ)) (tail : List ℕ) (ss : List Stamped) → all_or_bad (lines_readable base lines tail) ≡ Ok ss
    → IsUtf8 (joined lines tail)
unfolding joined
all_utf8 base [] [] ss h = IsUtf8-nil
all_utf8 base [] (b ∷ tail) ss h = absurd (cc)
all_utf8 base (l ∷ ls) tail ss h =
    let m = is_more base l ls tail ss (line_form base l) refl h in
    IsUtf8-append l (10 ∷ joined ls tail) (line_utf8 base l m.first m.read)
    (IsUtf8-append (10 ∷ []) (joined ls tail) (IsUtf8-from_ascii (10 ∷ []) ascii_end) (all_utf8 m.first.vector ls tail m.more m.rest))

-- a text that is read as a bundle is UTF-8
pub bundle_utf8 : (base : Vector) (text : List ℕ) (ss : List Stamped) → bundle_form base text ≡ Ok ss → IsUtf8 text
bundle_utf8 base text ss h = subst IsUtf8 (joined_cut text) (all_utf8 base (cut text).lines (cut text).tail ss h)
