-- What a list gives at an index.
use Rattle.std.proofs.Common.{◌≡◌, sym, ap, ◌∙◌, ℕ, List, length, get_or, Option, Some, None, slice_get}
use Rattle.std.specs.Prelude.{IfSome, is_some, nat_lt}
use Rattle.std.specs.Option.{option_map}
use Rattle.std.proofs.lemmas.Bool.{ltb-true, ltb-false}
use Rattle.std.proofs.lemmas.Option.{slice_get-get_or, slice_get_past}

-- what was got of a list at an index
pub got : {R A B : Type 0} (now : R → A) (f : A → B) (xs : List A) (p : ℕ) (o : Option R) → is_some o ≡ nat_lt p (length xs)
    → IfSome o (λ r. now r ≡ get_or xs p (now r)) → option_map (λ r. f (now r)) o ≡ option_map f (slice_get xs p)
got now f xs p (Some r) inside reads = ap (λ a. Some (f a)) reads
    ∙ ap (option_map f) (sym (slice_get-get_or xs p (now r) (ltb-true p (length xs) (sym inside))))
got now f xs p None outside reads = ap (option_map f) (sym (slice_get_past xs p (ltb-false p (length xs) (sym outside))))
