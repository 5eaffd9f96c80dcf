-- The number of an id that is put into a list, or into the column of its replica.
use Rattle.std.proofs.Common.{◌≡◌, ◌≢◌, refl, sym, ap, ◌∙◌, subst, ℕ, zero, suc, ◌<◌, Bool, true, false, cond}
use Rattle.std.proofs.Common.{IsTrue, List, [], ◌∷◌, ◌++◌, length, get_or, set, slice_get, arith}
use Rattle.std.specs.Prelude.{Option, Some, None, is_some, IsSome}
use Rattle.std.specs.Option.{option_or}
use Rattle.std.specs.FinMap.{find, put, is_sorted}
use Rattle.std.specs.FinMap.Entries.{find-put}
use Rattle.std.proofs.lemmas.List.{length-append, length-set}
use Rattle.semantics.specs.Ids.{OpId, id_at, id_cmp, is_same_id}
use Rattle.semantics.proofs.Orders.{id_itself, id_total, ids_from_test}
use Rattle.columns.specs.NumberColumns.{AreNumberColumns, IsNumberColumn, numbered, numbered_in, numbered_run, numbering}
use Rattle.columns.specs.ReplicaColumns.{is_rising, put_each}
use Rattle.columns.specs.declared.number_column.NumberColumn.{NumberColumn}
use Rattle.columns.proofs.NumbersByReplica.{number_after, number_before, number_others, run_absent, run_at, run_push, run_set}
use Rattle.columns.proofs.NumbersByReplica.{written_columns}
use Rattle.columns.proofs.PutEach.{find-both, find-each, is_put, rising_each}
use Rattle.columns.proofs.Puts.{rising_put}
use Rattle.columns.proofs.StandingPuts.{behind_absent}

other_id : (q id : OpId) → q ≢ id → is_same_id q id ≡ false
other_id q id h = at_test (is_same_id q id) refl
  where
    at_test : (b : Bool) → is_same_id q id ≡ b → b ≡ false
    at_test true e = absurd (h (ids_from_test q id e))
    at_test false e = refl

-- ---- into the list

pub listed_number : (m n cs : List (OpId × ℕ)) (id : OpId) (number : ℕ) → IsTrue (is_sorted id_cmp m) → n ≡ put id_cmp id number m
    → find id_cmp id cs ≡ None → put_each cs n ≡ put id_cmp id number (put_each cs m)
listed_number m n cs id number r now none = is_put id number (put_each cs n) (put_each cs m)
    (rising_each cs n (ap (is_sorted id_cmp) now ∙ rising_put id_cmp id_total id number m r))
    (rising_each cs m r)
    (find-each id cs n ∙ ap (λ o. option_or o (find id_cmp id n)) none ∙ ap (find id_cmp id) now
    ∙ find-put id_cmp id_total id id number m ∙ ap (λ b. cond b (Some number) (find id_cmp id m)) (id_itself id))
    (λ q h. find-each q cs n ∙ ap (option_or (find id_cmp q cs)) (ap (find id_cmp q) now
    ∙ find-put id_cmp id_total q id number m ∙ ap (λ b. cond b (Some number) (find id_cmp q m)) (other_id q id h))
    ∙ sym (find-each q cs m))

-- an id that stands in no column stands in the list
pub in_list : (m cs : List (OpId × ℕ)) (id : OpId) → find id_cmp id cs ≡ None → IsSome (find id_cmp id (put_each cs m))
    → IsSome (find id_cmp id m)
in_list m cs id none some = ap is_some (sym (find-each id cs m ∙ ap (λ o. option_or o (find id_cmp id m)) none)) ∙ some

-- what is found of an id that stands in no column, or in one
pub found_in_list : (m cs : List (OpId × ℕ)) (id : OpId) → find id_cmp id cs ≡ None → find id_cmp id (put_each cs m) ≡ find id_cmp id m
found_in_list m cs id none = find-each id cs m ∙ ap (λ o. option_or o (find id_cmp id m)) none

pub found_in_column : (m cs : List (OpId × ℕ)) (id : OpId) (n : ℕ) → find id_cmp id cs ≡ Some n → find id_cmp id (put_each cs m) ≡ Some n
found_in_column m cs id n some = find-each id cs m ∙ ap (λ o. option_or o (find id_cmp id m)) some

-- ---- into a column

module _ (m : List (OpId × ℕ)) (cs : List NumberColumn) (i : ℕ) (c d : NumberColumn) (id : OpId) (number : ℕ)
    (r : IsTrue (is_sorted id_cmp m)) (lt : i < length cs) (read : c ≡ get_or cs i c)
    (a : AreNumberColumns cs) (at : slice_get (numbering cs) i ≡ Some id.replica) (same : d.replica ≡ c.replica)
    (mine : c.replica ≡ id.replica) where
  is_column : IsNumberColumn c
  is_column = subst IsNumberColumn (sym read) (a.each i c lt)

  written : find id_cmp id (numbered_in d) ≡ Some number
      → ((q : OpId) → is_same_id q id ≡ false → find id_cmp q (numbered_in d) ≡ find id_cmp q (numbered_in c))
      → put_each (numbered (set cs i d)) m ≡ put id_cmp id number (put_each (numbered cs) m)
  written here stays = is_put id number (put_each (numbered (set cs i d)) m) (put_each (numbered cs) m)
      (rising_each (numbered (set cs i d)) m r) (rising_each (numbered cs) m r)
      (found_in_column m (numbered (set cs i d)) id number (number_after cs i c d id lt read a at same ∙ here))
      (λ q h. find-each q (numbered (set cs i d)) m
      ∙ ap (λ o. option_or o (find id_cmp q m)) (number_others cs i c d id lt read a at same stays q (other_id q id h))
      ∙ sym (find-each q (numbered cs) m))

  -- ---- behind the others

  module _ (behind : IsTrue (is_rising (c.counters.items ++ id.counter ∷ []))) where
    pub nowhere : find id_cmp id (numbered cs) ≡ None
    nowhere = number_before cs i c d id lt read a at same
        ∙ run_absent id c.replica c.counters.items c.numbers.items (behind_absent id.counter c.counters.items behind)

    module _ (counters : d.counters.items ≡ c.counters.items ++ id.counter ∷ [])
        (numbers : d.numbers.items ≡ c.numbers.items ++ number ∷ []) where
      pushed : numbered_in d ≡ numbered_in c ++ (id, number) ∷ []
      pushed = (λ t. numbered_run (same t) (counters t) (numbers t))
          ∙ run_push c.replica c.counters.items c.numbers.items id.counter number is_column.long
          ∙ (λ t. numbered_in c ++ (id_at id.counter (mine t), number) ∷ [])

      pub number_pushed : put_each (numbered (set cs i d)) m ≡ put id_cmp id number (put_each (numbered cs) m)
      number_pushed = written
          (ap (find id_cmp id) pushed ∙ find-both id (numbered_in c) ((id, number) ∷ [])
          ∙ (λ t. option_or (run_absent id c.replica c.counters.items c.numbers.items (behind_absent id.counter c.counters.items behind) t)
          (cond (id_itself id t) (Some number) None)))
          (λ q other. ap (find id_cmp q) pushed ∙ find-both q (numbered_in c) ((id, number) ∷ [])
          ∙ ap (λ b. option_or (find id_cmp q (numbered_in c)) (cond b (Some number) None)) other
          ∙ or_none (find id_cmp q (numbered_in c)))
        where
          or_none : (o : Option ℕ) → option_or o None ≡ o
          or_none None = refl
          or_none (Some x) = refl

      pub columns_pushed : AreNumberColumns (set cs i d)
      columns_pushed =
          let long = is_column.long in
          let more = ap (λ (ks : List ℕ). length ks) counters in
          let numbers_more = ap (λ (ns : List ℕ). length ns) numbers in
          let one = length-append c.counters.items (id.counter ∷ []) in
          let other = length-append c.numbers.items (number ∷ []) in
          written_columns cs i c d id lt read a at same (record {
            rising = ap is_rising counters ∙ behind;
            long = omega (arith, long, more, numbers_more, one, other);
          })

  -- ---- where it stands

  module _ (j : ℕ) (inside : j < length c.counters.items) (here : (e : ℕ) → get_or c.counters.items j e ≡ id.counter) where
    pub number_at : find id_cmp id (numbered cs) ≡ Some (get_or c.numbers.items j 0)
    number_at = number_before cs i c d id lt read a at same
        ∙ ap (λ p. find id_cmp id (numbered_run p c.counters.items c.numbers.items)) mine
        ∙ run_at id c.counters.items c.numbers.items j is_column.rising is_column.long inside (here 0)

    module _ (counters : d.counters.items ≡ c.counters.items) (numbers : d.numbers.items ≡ set c.numbers.items j number) where
      set_in : numbered_in d ≡ numbered_run c.replica c.counters.items (set c.numbers.items j number)
      set_in = (λ t. numbered_run (same t) (counters t) (numbers t))

      set_read : (ns : List ℕ) (k : ℕ) → k < length ns → get_or (set ns k number) k 0 ≡ number
      set_read [] k h = absurd (omega arith)
      set_read (n ∷ ns) zero h = refl
      set_read (n ∷ ns) (suc k) h = set_read ns k (omega arith)

      pub number_set : put_each (numbered (set cs i d)) m ≡ put id_cmp id number (put_each (numbered cs) m)
      number_set =
          let long = is_column.long in
          written
          (ap (find id_cmp id) set_in
          ∙ ap (λ p. find id_cmp id (numbered_run p c.counters.items (set c.numbers.items j number))) mine
          ∙ run_at id c.counters.items (set c.numbers.items j number) j is_column.rising (length-set c.numbers.items j number ∙ long) inside
          (here 0)
          ∙ ap Some (set_read c.numbers.items j (omega (arith, long, inside))))
          (λ q other. ap (find id_cmp q) set_in
          ∙ run_set q c.replica c.counters.items c.numbers.items j number inside
          ((λ t. is_same_id q (id_at (here 0 t) (mine t))) ∙ other))

      pub columns_set : AreNumberColumns (set cs i d)
      columns_set =
          let long = is_column.long in
          let as_long = length-set c.numbers.items j number in
          let numbers_now = ap (λ (ns : List ℕ). length ns) numbers in
          let counters_now = ap (λ (ks : List ℕ). length ks) counters in
          written_columns cs i c d id lt read a at same (record {
            rising = ap is_rising counters ∙ is_column.rising;
            long = omega (arith, long, as_long, numbers_now, counters_now);
          })
