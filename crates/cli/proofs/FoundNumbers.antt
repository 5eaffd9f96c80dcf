-- The number that the text of an option has.
use Rattle.std.proofs.Common.{◌≡◌, ◌<◌, ◌≤◌, ◌&&◌, nat_le, true, ℕ, List, Option, Some, None, Result, Ok, Err, IfSome, refl, sym, subst}
use Rattle.std.proofs.Common.{◌∙◌, arith}
use Rattle.std.proofs.lemmas.Bool.{and_parts, leb-true}
use Rattle.std.specs.Str.Parse.{ParsesUnsigned}
use Rattle.clap.specs.Matches.{ReadsOne, one_text}
use Rattle.clap.specs.Words.{Text, rows_of}
use Rattle.clap.specs.declared.parser.matches.Found.{Found}
use Rattle.clap.proofs.WalkLemmas.{one_text-rows}
use Rattle.ids.specs.Configurations.{most_queue}
use Rattle.bench.specs.Plans.{is_within}
use Rattle.bench.specs.declared.plan.Plan.{Plan}
use Rattle.cli.specs.Words.{IsNumber}

module _ {E : Type 0} (gives : List ℕ → Result ℕ E → Type 0)
    (parses : (t : List ℕ) (x : Result ℕ E) → gives t x → ParsesUnsigned 32 10 t x) where
  -- a number that was read is that of the text
  pub number_read : (f : Found) (id : Text) (r : Option ℕ) → (one_text f id ≡ None → r ≡ None)
      → ((t : List ℕ) → one_text f id ≡ Some t → ReadsOne gives t r) → IfSome r (IsNumber id (rows_of f))
  number_read f id r none value = at_text (one_text f id) refl
    where
      of_read : (t : List ℕ) → one_text f id ≡ Some t → (r : Option ℕ) → ReadsOne gives t r → IfSome r (IsNumber id (rows_of f))
      of_read t e None h = tt
      of_read t e (Some n) h = let p = parses t (Ok n) h in (t, sym (one_text-rows f id) ∙ e, p.0.0, p.1)

      at_text : (o : Option Text) → one_text f id ≡ o → IfSome r (IsNumber id (rows_of f))
      at_text None e = subst (λ o. IfSome o (IsNumber id (rows_of f))) (sym (none e)) tt
      at_text (Some t) e = of_read t e r (value t e)

  -- if nothing was read, there is no text with a number of 32 bits
  pub no_number : (f : Found) (id : Text) (r : Option ℕ) → ((t : List ℕ) → one_text f id ≡ Some t → ReadsOne gives t r) → r ≡ None → (n : ℕ)
      → n < 4294967296 → IsNumber id (rows_of f) n → ⊥
  no_number f id r value gone n below is =
      let read = subst (λ o. ReadsOne gives is.0 o) gone (value is.0 (one_text-rows f id ∙ is.1)) in
      parses is.0 (Err read.0) read.1 (is.2, subst (λ m. m < 4294967296) is.3 below)

short : (most n : ℕ) → is_within most n ≡ true → most < 4294967296 → n < 4294967296
short most n w below =
    let parts = and_parts (nat_le 1 n) (nat_le n most) w in
    let at_most : n ≤ most = leb-true n most parts.1 in
    omega (arith, at_most, below)

-- a plan's numbers have 32 bits
pub short_numbers : (plan : Plan)
    → (plan.replicas < 4294967296) × (plan.writers < 4294967296) × (plan.ops < 4294967296) × (plan.queue < 4294967296)
short_numbers plan =
    let whole = and_parts (is_within 16 plan.replicas && is_within 16 plan.writers && is_within 4096 plan.ops)
    (is_within most_queue plan.queue) plan.good in
    let three = and_parts (is_within 16 plan.replicas && is_within 16 plan.writers) (is_within 4096 plan.ops) whole.0 in
    let two = and_parts (is_within 16 plan.replicas) (is_within 16 plan.writers) three.0 in (
      short 16 plan.replicas two.0 (omega arith),
      short 16 plan.writers two.1 (omega arith),
      short 4096 plan.ops three.1 (omega arith),
      short most_queue plan.queue whole.1 (omega arith),
    )
