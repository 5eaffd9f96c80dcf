use Rattle.std.proofs.Common.{◌≡◌, ◌∙◌, ◌+◌, sym, ap, length, IsTrue, arith}
use Rattle.std.proofs.lemmas.List.{length-map}
use Rattle.std.specs.FinMap.{is_sorted}
use Rattle.cursor.specs.declared.tag.Tag.{Tag}
use Rattle.semantics.specs.Ids.{OpId, id_cmp}
use Rattle.columns.specs.Entries.{Entries}
use Rattle.columns.specs.ReplicaColumns.{Standing, all_standing, standing, tags_of, with_indices}
use Rattle.columns.proofs.ListPuts.{length_with, sorted_with}
use Rattle.columns.proofs.PutEach.{length-each, rising_each}
use Rattle.columns.proofs.WithColumns.{are_new, sorted_tags}
use Rattle.columns.proofs.tag_columns.TagColumns.len.Goals as goal

pub returns-clause-length : goal.returns-clause-length
returns-clause-length c =
    let L = c.self.inside.list in
    let cs = c.self.inside.columns.items in
    let rising : IsTrue (is_sorted id_cmp (with_indices L.entries L.indices)) = sorted_with L.entries L.indices c.len.ensures.indexed
    ∙ c.len.ensures.rising in
    let all = length-each (standing cs) (with_indices L.entries L.indices) rising (are_new L cs c.self.invariant.0.apart) in
    let long = length_with L.entries L.indices c.len.ensures.indexed in
    let count = c.self.invariant.0.counted in
    let listed = c.len.ensures.length in
    let tags : length (tags_of (all_standing L cs)) ≡ length (all_standing L cs) =
    length-map (all_standing L cs) (λ (e : OpId × Standing). (e.0, e.1.0)) in
    let sum : c.len.result + c.self.inside.count ≡ length (tags_of (all_standing L cs)) = omega (arith, all, long, count, listed, tags) in
    sum ∙ ap (λ (m : Entries Tag). length m.entries) c.self.view_is

pub returns-clause-rising : goal.returns-clause-rising
returns-clause-rising c =
    let L = c.self.inside.list in
    let cs = c.self.inside.columns.items in
    ap (λ (m : Entries Tag). is_sorted id_cmp m.entries) (sym c.self.view_is)
    ∙ sorted_tags (all_standing L cs)
    ∙ rising_each (standing cs) (with_indices L.entries L.indices)
    (sorted_with L.entries L.indices c.len.ensures.indexed ∙ c.len.ensures.rising)
