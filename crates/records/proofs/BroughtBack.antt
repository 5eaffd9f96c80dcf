-- Lines that are replayed one after the other.
use Rattle.std.proofs.Common.{◌≡◌, ◌≤◌, ℕ, List, [], ◌∷◌, ◌++◌, length, map, drop, reverse, Ok, sym, ap, ◌∙◌, append_assoc}
use Rattle.std.proofs.Common.{arith}
use Rattle.std.proofs.lemmas.List.{drop_all, drop-append-le, length-append, length-reverse, map-append, reverse-append}
use Rattle.semantics.specs.Entries.{Entry}
use Rattle.semantics.specs.Journals.{entries_from, recorded}
use Rattle.semantics.proofs.EntryBeginnings.{begins_self}
use Rattle.records.specs.Lines.{record_form}
use Rattle.records.specs.Replays.{BringsBackLines}

all_passed : (F : List Entry) → entries_from (length F) F ≡ []
all_passed F = drop_all (length F) (reverse F) (let l = length-reverse F in omega (arith, l))

-- entries after a beginning, and more after those
joined : (n : ℕ) (more G : List Entry) → n ≤ length G → entries_from n (more ++ G) ≡ entries_from n G ++ entries_from (length G) (more ++ G)
joined n more G few =
    let l = length-reverse G in
    let split : reverse (more ++ G) ≡ reverse G ++ reverse more = reverse-append more G in
    ap (drop n) split
    ∙ drop-append-le n (reverse G) (reverse more) (omega (arith, l, few))
    ∙ ap (λ (xs : List Entry). drop n (reverse G) ++ xs)
    (sym (ap (λ (xs : List Entry). xs ++ reverse more) (all_passed G))
    ∙ sym (drop-append-le (length G) (reverse G) (reverse more) (omega (arith, l)))
    ∙ ap (drop (length G)) (sym split))

pub brought-none : (F : List Entry) → BringsBackLines F [] F
brought-none F = record { begins = begins_self F; records = ap (λ (X : List Entry). map (λ x. Ok x) (map recorded X)) (sym (all_passed F)) }

pub brought-more : (F G H : List Entry) (lines : List (List ℕ)) (line : List ℕ) → BringsBackLines F lines G
    → BringsBackLines G (line ∷ []) H → BringsBackLines F (lines ++ line ∷ []) H
brought-more F G H lines line a b =
    let more = a.begins.0 in
    let later = b.begins.0 in
    let long = ap (length {A = Entry}) a.begins.1 in
    let parts = length-append more F in
    let rest : entries_from (length F) H ≡ entries_from (length F) G ++ entries_from (length G) H =
    ap (entries_from (length F)) b.begins.1
    ∙ joined (length F) later G (omega (arith, long, parts))
    ∙ ap (λ (X : List Entry). entries_from (length F) G ++ entries_from (length G) X) (sym b.begins.1) in
    record {
      begins = (later ++ more, b.begins.1 ∙ ap (λ (X : List Entry). later ++ X) a.begins.1 ∙ sym (append_assoc later more F));
      records = map-append record_form lines (line ∷ [])
          ∙ (λ i. a.records i ++ b.records i)
          ∙ sym (map-append (λ x. Ok x) (map recorded (entries_from (length F) G)) (map recorded (entries_from (length G) H)))
          ∙ ap (map (λ x. Ok x)) (sym (map-append recorded (entries_from (length F) G) (entries_from (length G) H)))
          ∙ ap (λ (X : List Entry). map (λ x. Ok x) (map recorded X)) (sym rest);
    }
