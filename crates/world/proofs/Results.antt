-- A claim on a result that holds of any error, or follows from another.
use Rattle.std.specs.Prelude.{Result, Ok, Err, OnErr}

-- what holds in any case holds for an error
pub on_err : {X Y Q : Type 0} (r : Result X Y) → Q → OnErr r Q
on_err (Ok x) q = tt
on_err (Err e) q = q

-- what follows from what holds for an error
pub then_err : {X Y P Q : Type 0} (r : Result X Y) → (P → Q) → OnErr r P → OnErr r Q
then_err (Ok x) f p = tt
then_err (Err e) f p = f p
