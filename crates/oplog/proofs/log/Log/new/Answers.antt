use Rattle.std.proofs.Common.{◌≡◌, ℕ, List, [], length, replicate, ap, ◌∙◌, sym, subst, arith}
use Rattle.std.proofs.lemmas.List.{length-map, length-replicate}
use Rattle.ids.specs.declared.id.OpId.{OpId}
use Rattle.columns.specs.Numbered.{Numbered}
use Rattle.oplog.specs.Logs.{AreOfMembers, HaveOwnIds, columns_for, history}
use Rattle.oplog.proofs.JoinedTables.{columns_none}
use Rattle.oplog.proofs.Room.{least_room-set}
use Rattle.oplog.proofs.log.Log.new.Goals as goal

pub invariant_of-result : goal.invariant_of-result
invariant_of-result c =
    let none = ap history c.new.ensures.items in
    let positions = c.in_ok-positions.positions.items in
    let count : length c.args.table.numbers ≡ length positions = sym c.len.ensures.length
    ∙ sym (length-replicate {A = List (OpId × ℕ)} c.len.result []) ∙ sym (ap length c.in_ok-positions.ensures.numbers)
    ∙ length-map positions (λ (n : Numbered OpId). n.entries) in
    record {
      distinct = c.len.ensures.distinct;
      positions_are =
          c.in_ok-positions.ensures.numbers ∙ ap (λ n. replicate n []) c.len.ensures.length
          ∙ sym (columns_none c.args.table.numbers)
          ∙ (λ t. columns_for (count t) c.args.table.numbers (sym none t));
      members = subst (AreOfMembers c.args.table.numbers) (sym none) tt;
      own_ids = subst HaveOwnIds (sym none) tt;
      roomy = λ m some. least_room-set 1 positions 0 m c.in_ok-positions.ensures.room some;
      within = omega arith;
    }
