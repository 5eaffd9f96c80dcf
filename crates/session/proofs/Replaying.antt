-- What a line brings back.
use Rattle.std.proofs.Common.{◌≡◌, ◌∙◌, ◌∷◌, ◌++◌, ◌==◌, ◌&&◌, [], ℕ, Bool, true, false, not, List, length, map}
use Rattle.std.proofs.Common.{drop, reverse, refl, sym, ap, arith}
use Rattle.std.proofs.Math.Seq.{drop-append_seam}
use Rattle.std.proofs.lemmas.Bool.{and_parts, eqb-true}
use Rattle.std.proofs.lemmas.List.{length-reverse, reverse-append}
use Rattle.semantics.specs.Entries.{Entry, Own}
use Rattle.semantics.specs.Ids.{OpId}
use Rattle.semantics.specs.Journals.{Commanded, entries_from, recorded}
use Rattle.semantics.specs.Making.{Command}
use Rattle.semantics.specs.Stamped.{Stamped}
use Rattle.semantics.specs.WorldHistory.{BeginsWith}
use Rattle.session.specs.Replays.{HasRecord}

-- what comes after a beginning
behind : (more F : List Entry) → entries_from (length F) (more ++ F) ≡ reverse more
behind more F =
    (λ i. drop (sym (length-reverse F) i) (reverse-append more F i)) ∙ drop-append_seam (reverse F) (reverse more)

-- one more
pub one_behind : (e : Entry) (F : List Entry) → entries_from (length F) (e ∷ F) ≡ e ∷ []
one_behind e F = behind (e ∷ []) F

-- if nothing comes after it, it is everything
pub none_behind : (F G : List Entry) → BeginsWith G F → entries_from (length F) G ≡ [] → G ≡ F
none_behind F G b none = by b.0 b.1
  where
    by : (more : List Entry) → G ≡ more ++ F → G ≡ F
    by [] e = e
    by (x ∷ more) e =
        let rest = sym (behind (x ∷ more) F) ∙ ap (entries_from (length F)) (sym e) ∙ none in
        let long = ap (length {A = Entry}) rest in
        let turned = length-reverse (x ∷ more) in
        absurd (omega (arith, long, turned))

not_false : (b : Bool) → not b ≡ false → b ≡ true
not_false true e = refl
not_false false e = sym e

-- ids that don't differ
pub same_id : (a b : OpId) → not ((a.counter == b.counter) && (a.replica == b.replica)) ≡ false → a ≡ b
same_id a b e =
    let parts = and_parts (a.counter == b.counter) (a.replica == b.replica) (not_false _ e) in
    let counter : a.counter ≡ b.counter = eqb-true a.counter b.counter parts.0 in
    let replica : a.replica ≡ b.replica = eqb-true a.replica b.replica parts.1 in
    λ i. record { counter = counter i; replica = replica i }

-- an own entry is appended, with this id
pub own_record : (F G : List Entry) (n : ℕ) (c : Command) (s : Stamped) (a : OpId) → G ≡ Own 0 n c s ∷ F → s.id ≡ a
    → HasRecord F (Commanded a c) G
own_record F G n c s a is id =
    let e = Own 0 n c s in (
      (e ∷ [], is),
      ap (λ (H : List Entry). map recorded (entries_from (length F) H)) is ∙ ap (map recorded) (one_behind e F)
          ∙ (λ i. Commanded (id i) c ∷ []),
    )
