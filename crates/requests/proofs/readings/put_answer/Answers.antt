use Rattle.std.proofs.Common.{◌≡◌, ℕ, List, map, Result, [], ◌∷◌, codes, refl, sym, ap, ◌∙◌}
use Rattle.std.specs.Prelude.{OnOk}
use Rattle.std.proofs.lemmas.List.{reverse-reverse}
use Rattle.std.proofs.lemmas.Result.{on_ok_weaker}
use Rattle.json.specs.Written.{Written}
use Rattle.serde_json.specs.Data.{Data, array, string}
use Rattle.serde_json.specs.View.{items_of}
use Rattle.semantics.specs.Stamped.{Stamped}
use Rattle.document.specs.cursor.Steps.{tag_of}
use Rattle.document.specs.value.Values.{scalar_of}
use Rattle.document.specs.operation.Ops.{stamped_of}
use Rattle.document.specs.Documents.{said_by}
use Rattle.wire.specs.Operations.{id_json, operation_json, phrase}
use Rattle.wire.specs.Vectors.{count, vector_json}
use Rattle.wire.specs.Writing.{IsWritten, tokens_of}
use Rattle.requests.specs.Readings.{conflict_json, reading_json, row_json}
use Rattle.requests.proofs.readings.put_answer.Goals as goal

mapped : {X Y Z : Type 0} (f : Y → Z) (g : X → Y) (xs : List X) → map (λ x. f (g x)) xs ≡ map f (map g xs)
mapped f g [] = refl
mapped f g (x ∷ xs) = ap (λ ys. f (g x) ∷ ys) (mapped f g xs)

-- the reply with this answer
abbrev reply_of : Data → ℕ → Data
reply_of answer seen = phrase (codes "reading") (count seen ∷ answer ∷ [])

abbrev list_json : ℕ → List Data → Data
list_json seen xs = reply_of (array (items_of xs)) seen

-- what was written is the answer
answered : {T E : Type 0} (r : Result T E) (answer : Data) (wanted : ℕ → Data) (old new : Written)
    → ((seen : ℕ) → wanted seen ≡ reply_of answer seen)
    → OnOk r (IsWritten (tokens_of answer) old new)
    → OnOk r ((d : Data) × ((seen : ℕ) → wanted seen ≡ reply_of d seen) × IsWritten (tokens_of d) old new)
answered r answer wanted old new h w = on_ok_weaker r (λ is. (answer, h, is)) w

pub returns-in-Values : goal.returns-in-Values
returns-in-Values c =
    answered c.put_values.result (array (items_of (map (λ p. row_json (p.0, scalar_of p.1)) c.deref.result.now)))
    (λ seen. reading_json seen (said_by c.args.reading.now)) c.args.out.now c.put_values.new.out
    (λ seen. ap (λ r. reading_json seen (said_by r)) c.in-Values.is
    ∙ ap (list_json seen) (sym (mapped row_json (λ p. (p.0, scalar_of p.1)) c.in-Values.values.items))
    ∙ ap (λ xs. list_json seen (map (λ p. row_json (p.0, scalar_of p.1)) xs)) (sym c.deref.ensures.value))
    c.put_values.ensures

pub returns-in-Keys : goal.returns-in-Keys
returns-in-Keys c =
    answered c.put_keys.result (array (items_of (map string c.deref-in-Keys.result.now)))
    (λ seen. reading_json seen (said_by c.args.reading.now)) c.args.out.now c.put_keys.new.out
    (λ seen. ap (λ r. reading_json seen (said_by r)) c.in-Keys.is
    ∙ ap (λ xs. list_json seen (map string xs)) (sym c.deref-in-Keys.ensures.value))
    c.put_keys.ensures

pub returns-in-Items : goal.returns-in-Items
returns-in-Items c =
    answered c.put_items.result (array (items_of (map id_json c.deref-in-Items.result.now)))
    (λ seen. reading_json seen (said_by c.args.reading.now)) c.args.out.now c.put_items.new.out
    (λ seen. ap (λ r. reading_json seen (said_by r)) c.in-Items.is
    ∙ ap (λ xs. list_json seen (map id_json xs)) (sym c.deref-in-Items.ensures.value))
    c.put_items.ensures

pub returns-in-Conflicts : goal.returns-in-Conflicts
returns-in-Conflicts c =
    answered c.put_conflicts.result (array (items_of (map (λ p. conflict_json (p.0, tag_of p.1)) c.deref-in-Conflicts.result.now)))
    (λ seen. reading_json seen (said_by c.args.reading.now)) c.args.out.now c.put_conflicts.new.out
    (λ seen. ap (λ r. reading_json seen (said_by r)) c.in-Conflicts.is
    ∙ ap (list_json seen) (sym (mapped conflict_json (λ p. (p.0, tag_of p.1)) c.in-Conflicts.pairs.items))
    ∙ ap (λ xs. list_json seen (map (λ p. conflict_json (p.0, tag_of p.1)) xs)) (sym c.deref-in-Conflicts.ensures.value))
    c.put_conflicts.ensures

pub returns-in-Missing : goal.returns-in-Missing
returns-in-Missing c =
    answered c.put_ops.result (array (items_of (map (λ o. operation_json (stamped_of o)) c.deref-in-Missing.result.now)))
    (λ seen. reading_json seen (said_by c.args.reading.now)) c.args.out.now c.put_ops.new.out
    (λ seen. ap (λ r. reading_json seen (said_by r)) c.in-Missing.is
    ∙ ap (λ (ss : List Stamped). list_json seen (map operation_json ss)) (reverse-reverse (map stamped_of c.in-Missing.ops.items))
    ∙ ap (list_json seen) (sym (mapped operation_json stamped_of c.in-Missing.ops.items))
    ∙ ap (λ xs. list_json seen (map (λ o. operation_json (stamped_of o)) xs)) (sym c.deref-in-Missing.ensures.value))
    c.put_ops.ensures

pub returns-in-Vector : goal.returns-in-Vector
returns-in-Vector c =
    answered c.put_vector.result (vector_json c.ids.result.now)
    (λ seen. reading_json seen (said_by c.args.reading.now)) c.args.out.now c.put_vector.new.out
    (λ seen. ap (λ r. reading_json seen (said_by r)) c.in-Vector.is ∙ ap (λ v. reply_of (vector_json v) seen) (sym c.ids.ensures.ids))
    c.put_vector.ensures.json
