-- What a question is as JSON.
use Rattle.std.specs.Prelude.{ℕ, List, codes, Result, Ok, Err, if◌then◌else◌}
use Rattle.std.specs.Str.{bytes_eq}
use Rattle.ids.specs.declared.refusal.Refusal.{Refusal}
use Rattle.ids.specs.declared.refusal.Refusal.TheVariants.{BadLine}
use Rattle.semantics.specs.Questions.{Step, Question, Values, Keys, Items as ItemsAt, Conflicts, AppliedVector}
use Rattle.semantics.specs.LegalAnswer.{Asked, OfDocument, Missing}
use Rattle.serde_json.specs.Data.{Data, Items, no_items, item}
use Rattle.wire.specs.Forms.{and_then, phrase_form}
use Rattle.wire.specs.Vectors.{vector_form}
use Rattle.requests.specs.declared.edition.Edition.{Edition}
use Rattle.requests.specs.Expressions.{expression_form}

-- an expression for what is asked about
abbrev pub asking_of : Edition → (List Step → Question) → Items → Result Asked Refusal
asking_of edition what (item expression no_items) = and_then (λ e. Ok (OfDocument (what e))) (expression_form edition expression)
asking_of edition what _ = Err BadLine

-- a vector
abbrev pub missing_of : Items → Result Asked Refusal
missing_of (item vector no_items) = and_then (λ v. Ok (Missing v)) (vector_form vector)
missing_of _ = Err BadLine

-- nothing
abbrev pub applied_of : Items → Result Asked Refusal
applied_of no_items = Ok (OfDocument AppliedVector)
applied_of (item _ _) = Err BadLine

-- by its word
abbrev pub question_of : Edition → List ℕ × Items → Result Asked Refusal
question_of edition p = if bytes_eq p.0 (codes "values") then asking_of edition Values p.1
    else (if bytes_eq p.0 (codes "keys") then asking_of edition Keys p.1
    else (if bytes_eq p.0 (codes "items") then asking_of edition ItemsAt p.1
    else (if bytes_eq p.0 (codes "conflicts") then asking_of edition Conflicts p.1
    else (if bytes_eq p.0 (codes "missing") then missing_of p.1
    else (if bytes_eq p.0 (codes "vector") then applied_of p.1 else Err BadLine)))))

-- a list of a word and its parts
abbrev pub question_form : Edition → Data → Result Asked Refusal
question_form edition d = and_then (question_of edition) (phrase_form d)
