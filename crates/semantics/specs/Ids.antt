-- The ids of operations and their order.
-- printed counter@replica
pub use Rattle.ids.specs.declared.id.OpId.{OpId}
pub use Rattle.ids.specs.Ids.{id_at, id_cmp, falling_cmp, is_same_id, is_smaller_id, IdSet}
