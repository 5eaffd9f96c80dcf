use Rattle.std.proofs.Common.{◌≡◌, ◌++◌, [], ◌∷◌, List, Ok, Some, map, length, sym, ap, ◌∙◌, subst, append-nil, arith, rules}
use Rattle.std.proofs.lemmas.List.{append_assoc, map-append}
use Rattle.json.specs.Json.{after_end_array}
use Rattle.serde_json.specs.Data.{array, item, no_items}
use Rattle.semantics.specs.Questions.{Step}
use Rattle.document.specs.cursor.Steps.{step_of}
use Rattle.requests.specs.Taken.{IsReadAs}
use Rattle.requests.proofs.TakenParts.{all_parts, no_part, one_part, takes_some}
use Rattle.requests.proofs.parts.take_steps.Goals as goal

pub loop-alloc-init : goal.loop-alloc-init
loop-alloc-init c =
    let none : c.in_ok-steps.steps.items ≡ [] = search rules in
    record { left = λ ds rest parts. (ds, parts, λ ss e. rw none e) }

pub loop-alloc-smaller : goal.loop-alloc-smaller
loop-alloc-smaller c =
    let same : c.take_end_array.new.self ≡ c.loop-alloc.reader = search rules in
    let less = takes_some 1 _ _ _ c.in_ok-take_step.ensures.1 in
    omega (arith, ap length same)

pub loop-alloc-preserved : goal.loop-alloc-preserved
loop-alloc-preserved c =
    let same : c.take_end_array.new.self ≡ c.loop-alloc.reader = search rules in
    let taken = c.in_ok-take_step.ensures in
    let x = c.in_ok-take_step.field-0 in
    let old = c.loop-alloc.steps.items in
    let grown : c.push.new.self.items ≡ old ++ x ∷ [] = search rules in
    let more : (ss : List Step) → map step_of (old ++ x ∷ []) ++ ss ≡ map step_of old ++ step_of x ∷ ss =
    λ ss. ap (λ s. s ++ ss) (map-append step_of old (x ∷ [])) ∙ append_assoc (map step_of old) (step_of x ∷ []) ss in
    record {
      left = λ ds rest parts.
          let before = c.loop-alloc.invariant.left (item taken.0 ds) rest
          (one_part 1 _ _ rest taken.0 ds (subst (λ ts. IsReadAs 1 ts taken.0 c.take_step.new.reader) same taken.1) parts) in (
            before.0,
            before.1,
            λ ss e. before.2 (step_of x ∷ ss) (rw (taken.2, e))
                ∙ ap Ok (sym (more ss) ∙ ap (λ s. map step_of s ++ ss) (sym grown)),
          );
    }

pub returns : goal.returns
returns c =
    let ends : after_end_array c.loop-alloc.reader ≡ Some c.take_end_array.new.self = search rules in
    let all = c.loop-alloc.invariant.left no_items _ (no_part 1 _ _ ends) in (
      array all.0,
      all_parts 1 _ _ _ all.0 c.if-not-opens.ensures all.1,
      all.2 [] (search rules) ∙ ap Ok (append-nil (map step_of c.loop-alloc.steps.items)),
    )
