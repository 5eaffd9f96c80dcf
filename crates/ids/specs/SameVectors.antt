-- When two vectors are the same.
use Rattle.std.specs.Cmp.{IsEquivalence, IsTotalOrder, eq_by_cmp_equiv, nat_cmp_total, on_total, then_total}
use Rattle.std.specs.Cmp.Lexicographic.{lists_equiv, pointwise}
use Rattle.ids.specs.Ids.{OpId, id_cmp, is_same_id}

-- ids have a total order
pub id_total : IsTotalOrder id_cmp
id_total = then_total (on_total (λ (a : OpId). a.counter) nat_cmp_total) (on_total (λ (a : OpId). a.replica) nat_cmp_total)

pub same_vector_equiv : IsEquivalence (pointwise is_same_id)
same_vector_equiv = lists_equiv (eq_by_cmp_equiv id_total)
