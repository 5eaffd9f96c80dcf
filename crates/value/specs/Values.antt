-- Values of the program as those of the definitions.
use Rattle.semantics.specs.Elements.{Scalar as TheScalar, Null as TheNull, Boolean as TheBoolean, Whole as TheWhole, Text as TheText, Value}
use Rattle.semantics.specs.Elements.{Plain, EmptyMap as TheEmptyMap, EmptyList as TheEmptyList}
use Rattle.value.specs.declared.value.Scalar.{Scalar}
use Rattle.value.specs.declared.value.Scalar.TheVariants as scalar
use Rattle.value.specs.declared.value.Val.{Val}
use Rattle.value.specs.declared.value.Val.TheVariants as val

-- a scalar
abbrev pub scalar_of : Scalar → TheScalar
scalar_of scalar.Null = TheNull
scalar_of (scalar.Bool b) = TheBoolean b
scalar_of (scalar.Whole n) = TheWhole n
scalar_of (scalar.Text s) = TheText s

-- a value
abbrev pub value_of : Val → Value
value_of (val.Scalar s) = Plain (scalar_of s)
value_of val.EmptyMap = TheEmptyMap
value_of val.EmptyList = TheEmptyList
