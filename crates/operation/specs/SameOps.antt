-- When two operations or two commands are the same, and that these tests are equalities.
use Rattle.std.specs.Prelude.{◌≡◌, ◌&&◌, Bool, true, false}
use Rattle.std.proofs.Common.{refl, sym, ap, true≢false}
use Rattle.std.specs.Bool.{Decides}
use Rattle.std.specs.Cmp.{IsEquivalence, decided}
use Rattle.std.specs.Cmp.Lexicographic.{pointwise}
use Rattle.std.proofs.lemmas.Slice.Eq.{slice_eq-Decides}
use Rattle.std.proofs.lemmas.Bool.{and_parts, and_from}
use Rattle.semantics.specs.Ids.{is_same_id}
use Rattle.semantics.specs.Vectors.{Vector}
use Rattle.semantics.specs.Operations.{Mutation, Assign, Insert, Delete}
use Rattle.semantics.specs.Stamped.{Stamped}
use Rattle.semantics.specs.Making.{Command}
use Rattle.semantics.proofs.Orders.{id_itself, id_tested, ids_from_test}
use Rattle.cursor.specs.value.SameValues.{is_same_value, value_decides}
use Rattle.cursor.specs.SamePlaces.{expression_decides, is_same_place, is_same_step, place_decides}

-- m and n are one mutation
abbrev pub is_same_mutation : Mutation → Mutation → Bool
is_same_mutation (Assign v) (Assign w) = is_same_value v w
is_same_mutation (Insert v) (Insert w) = is_same_value v w
is_same_mutation Delete Delete = true
is_same_mutation _ _ = false

-- c and d are one command
abbrev pub is_same_command : Command → Command → Bool
is_same_command c d = pointwise is_same_step c.expression d.expression && is_same_mutation c.mutation d.mutation

-- o and p are one operation
abbrev pub is_same_operation : Stamped → Stamped → Bool
is_same_operation o p = is_same_id o.id p.id && pointwise is_same_id o.vector p.vector && is_same_place o.place p.place
    && is_same_mutation o.mutation p.mutation

mutation_itself : (m : Mutation) → is_same_mutation m m ≡ true
mutation_itself (Assign v) = (value_decides v v).1 refl
mutation_itself (Insert v) = (value_decides v v).1 refl
mutation_itself Delete = refl

same_mutations : (m n : Mutation) → is_same_mutation m n ≡ true → m ≡ n
same_mutations (Assign v) (Assign w) h = ap Assign ((value_decides v w).0 h)
same_mutations (Insert v) (Insert w) h = ap Insert ((value_decides v w).0 h)
same_mutations Delete Delete h = refl
same_mutations (Assign v) (Insert w) h = absurd (true≢false (sym h))
same_mutations (Assign v) Delete h = absurd (true≢false (sym h))
same_mutations (Insert v) (Assign w) h = absurd (true≢false (sym h))
same_mutations (Insert v) Delete h = absurd (true≢false (sym h))
same_mutations Delete (Assign w) h = absurd (true≢false (sym h))
same_mutations Delete (Insert w) h = absurd (true≢false (sym h))

pub mutation_decides : (m n : Mutation) → Decides (is_same_mutation m n) (m ≡ n)
mutation_decides m n = (same_mutations m n, λ is. rw (← is) (mutation_itself m))

pub same_mutation_equiv : IsEquivalence is_same_mutation
same_mutation_equiv = decided is_same_mutation mutation_decides

same_commands : (c d : Command) → is_same_command c d ≡ true → c ≡ d
same_commands c d h =
    let t = and_parts (pointwise is_same_step c.expression d.expression) (is_same_mutation c.mutation d.mutation) h in
    let e = (expression_decides c.expression d.expression).0 t.0 in
    let m = same_mutations c.mutation d.mutation t.1 in
    λ i. record { expression = e i; mutation = m i }

command_itself : (c : Command) → is_same_command c c ≡ true
command_itself c = and_from (pointwise is_same_step c.expression c.expression) (is_same_mutation c.mutation c.mutation)
    ((expression_decides c.expression c.expression).1 refl) (mutation_itself c.mutation)

pub command_decides : (c d : Command) → Decides (is_same_command c d) (c ≡ d)
command_decides c d = (same_commands c d, λ is. rw (← is) (command_itself c))

pub same_command_equiv : IsEquivalence is_same_command
same_command_equiv = decided is_same_command command_decides

pub vectors_decide : (v w : Vector) → Decides (pointwise is_same_id v w) (v ≡ w)
vectors_decide v w = slice_eq-Decides (λ a b. (ids_from_test a b, id_tested a b)) v w (pointwise is_same_id v w) refl

same_operations : (o p : Stamped) → is_same_operation o p ≡ true → o ≡ p
same_operations o p h =
    let t = and_parts (is_same_id o.id p.id && pointwise is_same_id o.vector p.vector && is_same_place o.place p.place)
    (is_same_mutation o.mutation p.mutation) h in
    let u = and_parts (is_same_id o.id p.id && pointwise is_same_id o.vector p.vector) (is_same_place o.place p.place) t.0 in
    let v = and_parts (is_same_id o.id p.id) (pointwise is_same_id o.vector p.vector) u.0 in
    let a = ids_from_test o.id p.id v.0 in
    let c = (vectors_decide o.vector p.vector).0 v.1 in
    let q = (place_decides o.place p.place).0 u.1 in
    let m = same_mutations o.mutation p.mutation t.1 in
    λ i. record { id = a i; vector = c i; place = q i; mutation = m i }

operation_itself : (o : Stamped) → is_same_operation o o ≡ true
operation_itself o =
    and_from (is_same_id o.id o.id && pointwise is_same_id o.vector o.vector && is_same_place o.place o.place)
    (is_same_mutation o.mutation o.mutation)
    (and_from (is_same_id o.id o.id && pointwise is_same_id o.vector o.vector) (is_same_place o.place o.place)
    (and_from (is_same_id o.id o.id) (pointwise is_same_id o.vector o.vector) (id_itself o.id)
    ((vectors_decide o.vector o.vector).1 refl))
    ((place_decides o.place o.place).1 refl))
    (mutation_itself o.mutation)

pub operation_decides : (o p : Stamped) → Decides (is_same_operation o p) (o ≡ p)
operation_decides o p = (same_operations o p, λ is. rw (← is) (operation_itself o))

pub same_operation_equiv : IsEquivalence is_same_operation
same_operation_equiv = decided is_same_operation operation_decides
