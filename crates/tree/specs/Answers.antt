-- What the content answers at the element that an expression leads to.
use Rattle.std.specs.Prelude.{◌≡◌, List}
use Rattle.semantics.specs.Elements.{Element}
use Rattle.semantics.specs.Context.{Context}
use Rattle.semantics.specs.DocumentAnswer.{lists_of}
use Rattle.semantics.specs.Questions.{Answer, Step, answer_at, resolve}

-- a is what f answers at the element that the steps lead to, or the refusal of the steps
abbrev pub IsAnswer : Context → (Element → Answer) → List Step → Answer → Type 0
IsAnswer C f steps a = answer_at f (resolve (lists_of C) steps) ≡ a
