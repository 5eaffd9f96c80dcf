-- The first lines of a bundle, one after the other.
use Rattle.std.proofs.Common.{◌≡◌, ◌≤◌, ◌<◌, ◌⊎◌, inl, inr, ℕ, zero, suc, ◌+◌, List, [], ◌∷◌, ◌++◌, length, take, Some, Ok, refl, sym, ap}
use Rattle.std.proofs.Common.{◌∙◌}
use Rattle.std.proofs.Common.{subst, append_assoc, arith}
use Rattle.std.specs.List.{All, slice_get}
use Rattle.std.proofs.lemmas.List.{length-append}
use Rattle.std.proofs.lemmas.List.Elements.{All-nil, All-cons, All-head, All-tail}
use Rattle.std.proofs.lemmas.Option.{slice_get_within}
use Rattle.semantics.specs.Stamped.{Stamped}
use Rattle.semantics.specs.Vectors.{Vector}
use Rattle.records.specs.wire.Bundles.{base_after, bundle_form, bundle_text}
use Rattle.records.specs.wire.Profiles.{line_form, op2_line}
use Rattle.records.specs.wire.Sent.{CanBeSent}
use Rattle.records.proofs.wire.BundleBack.{AreBackIfSent, sent_bundle_back}
use Rattle.session.specs.Answers.{IsCutAt}

taken : (ss : List Stamped) (i : ℕ) (s : Stamped) → slice_get ss i ≡ Some s → take (suc i) ss ≡ take i ss ++ s ∷ []
taken [] i s h = absurd (let z : ⊥ = cc in z)
taken (x ∷ ss) zero s h = let same : x ≡ s = cc in ap (λ (y : Stamped). y ∷ []) same
taken (x ∷ ss) (suc i) s h = ap (λ (xs : List Stamped). x ∷ xs) (taken ss i s h)

bundle-last : (base : Vector) (xs : List Stamped) (s : Stamped)
    → bundle_text base (xs ++ s ∷ []) ≡ bundle_text base xs ++ (op2_line (base_after base xs) s ++ 10 ∷ [])
bundle-last base [] s = refl
bundle-last base (x ∷ xs) s =
    ap (λ (l : List ℕ). op2_line base x ++ 10 ∷ l) (bundle-last x.vector xs s)
    ∙ sym (append_assoc (op2_line base x) (10 ∷ bundle_text x.vector xs) (op2_line (base_after x.vector xs) s ++ 10 ∷ []))

base-last : (base : Vector) (xs : List Stamped) (s : Stamped) → base_after base (xs ++ s ∷ []) ≡ s.vector
base-last base [] s = refl
base-last base (x ∷ xs) s = base-last x.vector xs s

back-last : (base : Vector) (xs : List Stamped) (s : Stamped) → AreBackIfSent base xs
    → (CanBeSent s → line_form (base_after base xs) (op2_line (base_after base xs) s) ≡ Ok s) → AreBackIfSent base (xs ++ s ∷ [])
back-last base [] s back told = (told, tt)
back-last base (x ∷ xs) s back told = (back.0, back-last x.vector xs s back.1 told)

all_take : (P : Stamped → Type 0) (n : ℕ) (xs : List Stamped) → All P xs → All P (take n xs)
all_take P zero xs h = All-nil P
all_take P (suc n) [] h = All-nil P
all_take P (suc n) (x ∷ xs) h = All-cons P x (take n xs) (All-head P x xs h) (all_take P n xs (All-tail P x xs h))

-- the text is the first n lines of the bundle of ss, base is the vector of the last of them, and they fit or there is one alone
pub record HasWritten (most : ℕ) (ss : List Stamped) (n : ℕ) (text : List ℕ) (base : Vector) : Type 0 where
  pub text_is : text ≡ bundle_text [] (take n ss)
  pub base_is : base ≡ base_after [] (take n ss)
  pub back : AreBackIfSent [] (take n ss)
  pub fits : (length text ≤ most) ⊎ (n ≡ 1)
  pub few : n ≤ length ss

pub written-none : (most : ℕ) (ss : List Stamped) (text : List ℕ) (base : Vector) → text ≡ [] → base ≡ []
    → HasWritten most ss 0 text base
written-none most ss text base none start = record {
  text_is = none;
  base_is = start;
  back = tt;
  fits = inl (let l = ap length none in omega (arith, l));
  few = omega arith;
}

module _ (most : ℕ) (ss : List Stamped) (n : ℕ) (text : List ℕ) (base : Vector) (h : HasWritten most ss n text base) where
  module _ (s : Stamped) (line : List ℕ) (there : slice_get ss n ≡ Some s) (line_is : line ≡ op2_line base s) where
    next : take (suc n) ss ≡ take n ss ++ s ∷ []
    next = taken ss n s there

    with_next : bundle_text [] (take (suc n) ss) ≡ text ++ (line ++ 10 ∷ [])
    with_next =
        ap (bundle_text []) next
        ∙ bundle-last [] (take n ss) s
        ∙ (λ i. sym h.text_is i ++ (op2_line (sym h.base_is i) s ++ 10 ∷ []))
        ∙ ap (λ (l : List ℕ). text ++ (l ++ 10 ∷ [])) (sym line_is)

    long : length (bundle_text [] (take (suc n) ss)) ≡ length text + (length line + 1)
    long =
        let whole = ap length with_next in
        let two = length-append text (line ++ 10 ∷ []) in
        let end = length-append line (10 ∷ []) in
        omega (arith, whole, two, end)

    -- one more line
    pub written-more : (more : List ℕ) (later : Vector) (m : ℕ) → m ≡ n + 1 → more ≡ text ++ (line ++ 10 ∷ []) → later ≡ s.vector
        → (CanBeSent s → line_form base line ≡ Ok s) → (n ≡ 0) ⊎ (length text + (length line + 1) ≤ most)
        → HasWritten most ss m more later
    written-more more later m count more_is later_is told room =
        subst (λ k. HasWritten most ss k more later) (let e : suc n ≡ m = omega (arith, count) in e)
        (record {
          text_is = more_is ∙ sym with_next;
          base_is = later_is ∙ sym (ap (base_after []) next ∙ base-last [] (take n ss) s);
          back = subst (AreBackIfSent []) (sym next)
              (back-last [] (take n ss) s h.back
              (λ sent. subst (λ (b : Vector). line_form b (op2_line b s) ≡ Ok s) h.base_is
              (ap (line_form base) (sym line_is) ∙ told sent)));
          fits = elim room [
            | inl first ↦ inr (omega (arith, first))
            | inr has ↦ inl (let e = ap length (more_is ∙ sym with_next) in omega (arith, e, long, has))
          ];
          few = (let within = slice_get_within ss n s there in omega (arith, within));
        })

    -- this line has no room
    pub cut_here : (0 < n) × (most < length text + (length line + 1)) → IsCutAt most ss n text
    cut_here behind = record {
      first = (h.few, h.text_is);
      fits = h.fits;
      full = λ _. (
        omega (arith, behind.0),
        subst (λ k. most < length (bundle_text [] (take k ss)))
            (let e : suc n ≡ n + 1 = omega arith in e) (omega (arith, behind.1, long)),
      );
    }

  -- no line is left
  pub all_written : n ≡ length ss → IsCutAt most ss n text
  all_written all = record { first = (h.few, h.text_is); fits = h.fits; full = λ less. absurd (omega (arith, less, all)) }

  -- it is read back
  pub written_back : All CanBeSent ss → bundle_form [] text ≡ Ok (take n ss)
  written_back sent = ap (bundle_form []) h.text_is ∙ sent_bundle_back [] (take n ss) (all_take CanBeSent n ss sent) h.back
