-- An id that stands beneath an element stands at it too.
use Rattle.std.specs.Prelude.{◌≡◌, Bool, true, List, is_some}
use Rattle.std.specs.FinMap.{find}
use Rattle.semantics.specs.Ids.{OpId, id_cmp}
use Rattle.semantics.specs.Elements.{Element, is_under}
use Rattle.semantics.specs.Context.{Context}

-- a is one of the ids
abbrev pub stands : {X : Type 0} → OpId → List (OpId × X) → Bool
stands a es = is_some (find id_cmp a es)

-- an id that keeps an element visible keeps each element on the way down to it visible, and an id of a register its element
pub record IsNested (C : Context) : Type 0 where
  pub presence : (x e : Element) (a : OpId) → is_under x e ≡ true → stands a (C.presence x) ≡ true → stands a (C.presence e) ≡ true
  pub register : (x : Element) (a : OpId) → stands a (C.register x) ≡ true → stands a (C.presence x) ≡ true
