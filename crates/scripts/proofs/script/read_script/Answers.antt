use Rattle.std.proofs.Common.{◌≡◌, ℕ, List, Bool, true, false, Result, Ok, Err, IfOk, inl, inr, refl, sym, ap, ◌∙◌, arith}
use Rattle.std.specs.List.{list_all}
use Rattle.std.proofs.lemmas.Result.{IfErr-weaker, IfOk-weaker}
use Rattle.ids.specs.Configurations.{Configuration}
use Rattle.ids.specs.declared.refusal.Refusal.TheVariants.{BadLine, BadConfig}
use Rattle.semantics.specs.World.{WorldStep}
use Rattle.scripts.specs.declared.error.ScriptError.{ScriptError}
use Rattle.scripts.specs.Engines.{edition_of, engines_line}
use Rattle.ids.specs.Configurations.{is_within_limits}
use Rattle.scripts.specs.Engines.{if_within_limits, said_engines}
use Rattle.scripts.specs.Errors.{IsErrorOf, error_of}
use Rattle.world.specs.wire.Lines.{Bad, IsFirstLine, on_line, unless_bad}
use Rattle.scripts.specs.Scripts.{script_form, steps_left}
use Rattle.scripts.proofs.StepsLeft.{script_form-bad, script_form-engines, script_form-none}
use Rattle.world.proofs.wire.OrNoMemory.{IsOrNoMemory-Err}
use Rattle.scripts.proofs.script.read_script.Goals as goal

both : {T E : Type 0} (r : Result T E) (P Q : T → Type 0) → IfOk r P → IfOk r Q → IfOk r (λ x. P x × Q x)
both (Ok x) P Q p q = (p, q)
both (Err e) P Q p q = p

-- engines within the limits are those of their line
allowed : (line : List ℕ) (gs : List Configuration) → said_engines line ≡ Ok gs → list_all is_within_limits gs ≡ true
    → engines_line line ≡ Ok gs
allowed line gs e within = rw (e, within) refl

-- a fault of the limits, or of the other lines, is the script's
further : (text line rest : List ℕ) (gs : List Configuration) (f : ScriptError) → IsFirstLine text line rest → said_engines line ≡ Ok gs
    → (within : Bool) → list_all is_within_limits gs ≡ within
    → IsErrorOf (unless_bad (λ hs. steps_left (edition_of line) hs 1 rest) (on_line 1 (if_within_limits gs))) f
    → IsErrorOf (script_form text) f
further text line rest gs f first e within is (inl none) = inl none
further text line rest gs f first e true is (inr p) =
    let bad : steps_left (edition_of line) gs 1 rest ≡ Err p.0 = rw is at p.1 in
    inr (p.0, script_form-engines text line rest gs first (allowed line gs e is) ∙ rw bad refl, p.2)
further text line rest gs f first e false is (inr p) =
    let bad : ◌≡◌ {A = Result (List WorldStep) Bad} (Err (1, BadConfig)) (Err p.0) = rw is at p.1 in
    inr (p.0, script_form-bad text line rest BadConfig first (rw (e, is) refl) ∙ ap (unless_bad (λ ss. Ok (gs, ss))) bad, p.2)

pub returns-in_default-clause-err : goal.returns-in_default-clause-err
returns-in_default-clause-err c =
    inr ((1, BadLine), script_form-none _ (rw c.new-lines.ensures.all_left at c.in_default.ensures.none.0), c.of_line.ensures)

pub returns-in-Err-clause-err : goal.returns-in-Err-clause-err
returns-in-Err-clause-err c =
    let first = rw c.new-lines.ensures.all_left at c.in-Some.ensures.line in
    elim (IsOrNoMemory-Err _ _ c.in-Err.ensures.engines) [
      | inl none ↦ inl (c.of_line-in-Err.ensures ∙ ap (error_of 1) none)
      | inr e ↦ inr ((1, c.in-Err.why), script_form-bad _ _ _ _ first (rw e refl), c.of_line-in-Err.ensures)
    ]

pub returns-in-Ok-clause-ok : goal.returns-in-Ok-clause-ok
returns-in-Ok-clause-ok c =
    let first = rw c.new-lines.ensures.all_left at c.in-Some.ensures.line in
    let one : c.take_line.new.self.taken
    ≡ 1 = omega (arith, c.in-Some.ensures.number.0, c.in-Some.ensures.number.1, c.new-lines.ensures.none_taken) in
    let gs = c.as_slice.result.now in
    let said : said_engines c.in-Some.first.text.now ≡ Ok gs = c.in-Ok.ensures.engines ∙ ap Ok (sym c.as_slice.ensures.value) in
    IfOk-weaker c.open.result _ _
    (λ s e. let left = rw (one, c.in-Ok.ensures.edition) at e.1.1 in
    (gs, script_form-engines _ _ _ _ first (allowed _ _ said e.0) ∙ rw left refl, e.1.0))
    (both c.open.result _ _ c.open.ensures.allowed (both c.open.result _ _ c.open.ensures.world c.open.ensures.steps))

pub returns-in-Ok-clause-err : goal.returns-in-Ok-clause-err
returns-in-Ok-clause-err c =
    let first = rw c.new-lines.ensures.all_left at c.in-Some.ensures.line in
    let one : c.take_line.new.self.taken
    ≡ 1 = omega (arith, c.in-Some.ensures.number.0, c.in-Some.ensures.number.1, c.new-lines.ensures.none_taken) in
    let gs = c.as_slice.result.now in
    let said : said_engines c.in-Some.first.text.now ≡ Ok gs = c.in-Ok.ensures.engines ∙ ap Ok (sym c.as_slice.ensures.value) in
    IfErr-weaker c.open.result _ _
    (λ f why. further _ _ _ _ f first said _ refl (rw (one, c.in-Ok.ensures.edition) at why)) c.open.ensures.err
