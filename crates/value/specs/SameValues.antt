-- When two values are the same, and that these tests are equalities.
use Rattle.std.specs.Prelude.{◌≡◌, ℕ, ℤ, Bool, true, false, List, nat_eq}
use Rattle.std.proofs.Common.{refl, sym, ap, true≢false}
use Rattle.std.proofs.Math.Bool.{beq}
use Rattle.std.specs.Bool.{Decides}
use Rattle.std.specs.Cmp.Lexicographic.{pointwise}
use Rattle.std.specs.Ordering.{int_eq}
use Rattle.std.specs.Cmp.{IsEquivalence, booleans_Decides, decided, signed_Decides, unsigned_Decides}
use Rattle.std.proofs.lemmas.Slice.Eq.{slice_eq-Decides}
use Rattle.semantics.specs.Elements.{Scalar, Null, Boolean, Whole, Text, Value, Plain, EmptyMap, EmptyList}

-- s and t are one scalar
abbrev pub is_same_scalar : Scalar → Scalar → Bool
is_same_scalar Null Null = true
is_same_scalar (Boolean a) (Boolean b) = beq a b
is_same_scalar (Whole a) (Whole b) = int_eq a b
is_same_scalar (Text s) (Text t) = pointwise nat_eq s t
is_same_scalar _ _ = false

-- v and w are one value
abbrev pub is_same_value : Value → Value → Bool
is_same_value (Plain s) (Plain t) = is_same_scalar s t
is_same_value EmptyMap EmptyMap = true
is_same_value EmptyList EmptyList = true
is_same_value _ _ = false

text_decides : (s t : List ℕ) → Decides (pointwise nat_eq s t) (s ≡ t)
text_decides s t = slice_eq-Decides unsigned_Decides s t (pointwise nat_eq s t) refl

same_scalars : (s t : Scalar) → is_same_scalar s t ≡ true → s ≡ t
same_scalars Null Null h = refl
same_scalars (Boolean a) (Boolean b) h = ap Boolean ((booleans_Decides a b).0 h)
same_scalars (Whole a) (Whole b) h = ap Whole ((signed_Decides a b).0 h)
same_scalars (Text s) (Text t) h = ap Text ((text_decides s t).0 h)
same_scalars Null (Boolean b) h = absurd (true≢false (sym h))
same_scalars Null (Whole b) h = absurd (true≢false (sym h))
same_scalars Null (Text b) h = absurd (true≢false (sym h))
same_scalars (Boolean a) Null h = absurd (true≢false (sym h))
same_scalars (Boolean a) (Whole b) h = absurd (true≢false (sym h))
same_scalars (Boolean a) (Text b) h = absurd (true≢false (sym h))
same_scalars (Whole a) Null h = absurd (true≢false (sym h))
same_scalars (Whole a) (Boolean b) h = absurd (true≢false (sym h))
same_scalars (Whole a) (Text b) h = absurd (true≢false (sym h))
same_scalars (Text a) Null h = absurd (true≢false (sym h))
same_scalars (Text a) (Boolean b) h = absurd (true≢false (sym h))
same_scalars (Text a) (Whole b) h = absurd (true≢false (sym h))

scalar_itself : (s : Scalar) → is_same_scalar s s ≡ true
scalar_itself Null = refl
scalar_itself (Boolean a) = (booleans_Decides a a).1 refl
scalar_itself (Whole a) = (signed_Decides a a).1 refl
scalar_itself (Text s) = (text_decides s s).1 refl

pub scalar_decides : (s t : Scalar) → Decides (is_same_scalar s t) (s ≡ t)
scalar_decides s t = (same_scalars s t, λ is. rw (← is) (scalar_itself s))

pub same_scalar_equiv : IsEquivalence is_same_scalar
same_scalar_equiv = decided is_same_scalar scalar_decides

same_values : (v w : Value) → is_same_value v w ≡ true → v ≡ w
same_values (Plain s) (Plain t) h = ap Plain (same_scalars s t h)
same_values EmptyMap EmptyMap h = refl
same_values EmptyList EmptyList h = refl
same_values (Plain s) EmptyMap h = absurd (true≢false (sym h))
same_values (Plain s) EmptyList h = absurd (true≢false (sym h))
same_values EmptyMap (Plain t) h = absurd (true≢false (sym h))
same_values EmptyMap EmptyList h = absurd (true≢false (sym h))
same_values EmptyList (Plain t) h = absurd (true≢false (sym h))
same_values EmptyList EmptyMap h = absurd (true≢false (sym h))

value_itself : (v : Value) → is_same_value v v ≡ true
value_itself (Plain s) = scalar_itself s
value_itself EmptyMap = refl
value_itself EmptyList = refl

pub value_decides : (v w : Value) → Decides (is_same_value v w) (v ≡ w)
value_decides v w = (same_values v w, λ is. rw (← is) (value_itself v))

pub same_value_equiv : IsEquivalence is_same_value
same_value_equiv = decided is_same_value value_decides
