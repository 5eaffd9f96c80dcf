use Rattle.std.proofs.Common.{◌≡◌, ◌∙◌, sym, ap, subst, length, List, ℕ}
use Rattle.std.specs.List.{All}
use Rattle.std.specs.FinMap.{find}
use Rattle.semantics.specs.Ids.{OpId, id_cmp}
use Rattle.cursor.specs.declared.tag.Tag.{Tag}
use Rattle.columns.specs.Entries.{Entries}
use Rattle.columns.specs.ReplicaColumns.{AreApart, AreCounted, IsUpTo, Standing, all_standing, put_each, standing, with_indices}
use Rattle.columns.specs.declared.replica_column.ReplicaColumn.{ReplicaColumn}
use Rattle.columns.proofs.tag_columns.TagColumns.reserve_one.Goals as goal

-- a list with the same entries
same_entries : (L N : Entries Tag) (cs : List ReplicaColumn) (count : ℕ) → N.entries ≡ L.entries → N.indices ≡ L.indices
    → AreCounted L cs count → AreCounted N cs count
same_entries L N cs count entries indices a = record {
  apart = record {
    rising = a.apart.rising;
    distinct = a.apart.distinct;
    apart = λ q some. ap (find id_cmp q) (λ i. with_indices (entries i) (indices i)) ∙ a.apart.apart q some;
  };
  up_to = subst (λ m. All (IsUpTo m) cs) (sym (λ i. put_each (standing cs) (with_indices (entries i) (indices i)))) a.up_to;
  counted = a.counted;
  few = a.few;
}

-- columns with the same ids
kept : (N : Entries Tag) (cs ds : List ReplicaColumn) (count : ℕ) → standing ds ≡ standing cs
    → (AreApart N cs → AreApart N ds) → (All (IsUpTo (all_standing N cs)) cs → All (IsUpTo (all_standing N cs)) ds)
    → AreCounted N cs count → AreCounted N ds count
kept N cs ds count same apart up_to a = record {
  apart = apart a.apart;
  up_to = subst (λ m. All (IsUpTo m) ds) (sym (ap (λ s. put_each s (with_indices N.entries N.indices)) same)) (up_to a.up_to);
  counted = a.counted ∙ ap (λ (m : List (OpId × Standing)). length m) (sym same);
  few = a.few;
}

pub invariant_of-self-in_err-reserve_column : goal.invariant_of-self-in_err-reserve_column
invariant_of-self-in_err-reserve_column c = (
  kept c.reserve_one.new.self c.self.inside.columns.items c.reserve_column.new.columns.items c.self.inside.count
      c.reserve_column.ensures.standing c.reserve_column.ensures.apart c.reserve_column.ensures.up_to
      (same_entries c.self.inside.list c.reserve_one.new.self c.self.inside.columns.items c.self.inside.count
      c.reserve_one.ensures.entries c.reserve_one.ensures.indices c.self.invariant.0),
  c.reserve_column.ensures.marked,
)

pub invariant_of-self-in-Some : goal.invariant_of-self-in-Some
invariant_of-self-in-Some c = (
  kept c.reserve_one.new.self c.self.inside.columns.items c.reserve_column.new.columns.items c.self.inside.count
      c.reserve_column.ensures.standing c.reserve_column.ensures.apart c.reserve_column.ensures.up_to
      (same_entries c.self.inside.list c.reserve_one.new.self c.self.inside.columns.items c.self.inside.count
      c.reserve_one.ensures.entries c.reserve_one.ensures.indices c.self.invariant.0),
  c.reserve_column.ensures.marked,
)
