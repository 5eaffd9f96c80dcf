use Rattle.std.proofs.Common.{sym, subst}
use Rattle.semantics.specs.Ids.{id_cmp}
use Rattle.semantics.proofs.Orders.{id_total}
use Rattle.columns.specs.Entries.{Entries, AreIndicesIn, entries_of, indices_of}
use Rattle.columns.proofs.Puts.{rising_put}
use Rattle.columns.proofs.IndexedEntries.{stand_indexed-put}
use Rattle.columns.proofs.entry_list.EntryList.put.Goals as goal

pub invariant_of-self : goal.invariant_of-self
invariant_of-self g c = rw c.put_in.ensures.entries
    (rising_put id_cmp id_total c.args.id c.args.value (entries_of c.self.inside.entries.items) c.self.invariant)

pub returns-clause-indexed : goal.returns-clause-indexed
returns-clause-indexed g c table at stand =
    let es = c.self.inside.entries.items in
    let old : AreIndicesIn table (entries_of es) (indices_of es) = subst
    (λ (m : Entries g.row.T.Denot). AreIndicesIn table m.entries m.indices) (sym c.self.view_is) stand in
    let new = stand_indexed-put table c.args.id c.args.index c.args.value (entries_of es) (indices_of es) c.self.invariant at old in
    rw (c.put_in.ensures.entries, c.put_in.ensures.indices) new
