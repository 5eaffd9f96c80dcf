-- A world goes on by what its replicas make.
use Rattle.std.proofs.Common.{◌≡◌, suc, true, List, ap, ◌∙◌, le_antisymm}
use Rattle.semantics.specs.Ids.{OpId}
use Rattle.semantics.specs.Operations.{Operation, element_of}
use Rattle.semantics.specs.LegalHistory.{IsLegal, Follows, IsAmong, has_id}
use Rattle.semantics.specs.Entries.{stamped_entries}
use Rattle.semantics.specs.Replica.{Replica, operations, IsRunning}
use Rattle.semantics.specs.OneWorld.{AreWithin}
use Rattle.semantics.proofs.AbsentIds.{has_id-among}
use Rattle.semantics.proofs.LegalFacts.{among_from, same_operation}
use Rattle.semantics.proofs.NamedOperations.{legal}
use Rattle.semantics.proofs.SameWorld.{greatest_within, items_moved}
use Rattle.semantics.proofs.EntryHistories.{entries_legal}

pub legal_entries : (r : Replica) → IsRunning r → IsLegal (operations r)
legal_entries r h = legal (stamped_entries r.entries) (entries_legal r.own r.entries h.history)

-- ---- what a world's replica makes goes on that world

pub grows_world : (K G : List Operation) → IsLegal K → IsLegal G → AreWithin G K → (o : Operation) → Follows G o
    → ((a : OpId) → o.deps a ≡ has_id G a)
    → ((x : Operation) → IsAmong x K → x.id.replica ≡ o.id.replica → has_id G x.id ≡ true) → Follows K o
grows_world K G lk lg w o f all own = record {
  new_id = λ x m e. (let y = among_from G x.id (own x m (ap (λ (b : OpId). b.replica) e)) in f.new_id y.0 y.1 (y.2 ∙ e));
  deps_before = λ a d. (let y = among_from G a (f.deps_before a d) in has_id-among K y.0 a (w y.0 y.1) y.2);
  deps_closed = λ x m d a e.
      (let y = among_from G x.id (f.deps_before x.id d) in
      let same : y.0 ≡ x = same_operation K lk y.0 x (w y.0 y.1) m y.2 in
      f.deps_closed y.0 y.1 (ap o.deps y.2 ∙ d) a (ap (λ (z : Operation). z.deps a) same ∙ e));
  own_in_deps = λ x m r. all x.id ∙ own x m r;
  counter = f.counter ∙ ap suc (le_antisymm (greatest_within o.deps G K (λ a d. there a d)) (greatest_within o.deps K G f.deps_before));
  items = items_moved K lk G K o.deps w (λ x m. m) (λ a d. there a d) (element_of o.place) f.items;
  form = f.form;
}
  where
    there : (a : OpId) → o.deps a ≡ true → has_id K a ≡ true
    there a d = let y = among_from G a (f.deps_before a d) in has_id-among K y.0 a (w y.0 y.1) y.2
