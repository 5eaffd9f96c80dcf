use Rattle.std.proofs.Common.{◌≡◌, ◌<◌, ◌≤◌, ◌-◌, ◌∙◌, ℕ, Bool, true, false, true≢false, IsTrue, refl, ap, sym, arith, Ordering, length}
use Rattle.std.proofs.Common.{get_or, Less, Equal, Greater}
use Rattle.std.specs.Ordering.{is_gt}
use Rattle.std.specs.FinMap.{is_sorted}
use Rattle.semantics.specs.Ids.{id_cmp}
use Rattle.semantics.proofs.Orders.{id_total}
use Rattle.columns.specs.Rank.{rank, keys_of, as_set}
use Rattle.columns.specs.Entries.{entries_of}
use Rattle.columns.proofs.Ranks.{rank_in, rank_le, rank_above, rising_keys, goes_here}
use Rattle.columns.proofs.Columns.{length-entries_of, length-keys_of}
use Rattle.columns.proofs.entry_list.is_greatest.Goals as goal

greater : (o : Ordering) → is_gt o ≡ true → o ≡ Greater
greater Less e = absurd (true≢false (sym e))
greater Equal e = absurd (true≢false (sym e))
greater Greater e = refl

pub returns : goal.returns
returns g c =
    let es = entries_of c.args.entries.now.items in
    let keys = keys_of es in
    let long : length keys ≡ length c.args.entries.now.items = length-keys_of es
    ∙ length-entries_of c.args.entries.now.items in
    let rising : IsTrue (is_sorted id_cmp (as_set keys)) = rising_keys id_cmp es ∙ c.requires in
    let i : ℕ = length c.args.entries.now.items - 1 in
    let x = c.id_at.result in
    let at_last : c.is_above.result ≡ is_gt (id_cmp c.args.id (get_or keys i x)) = c.is_above.ensures
    ∙ ap (λ y. is_gt (id_cmp c.args.id y)) (sym (c.id_at.ensures x))
    ∙ ap (λ n. is_gt (id_cmp c.args.id (get_or keys (n - 1) x))) c.len-count.ensures.length in (
      λ t.
          let is : id_cmp c.args.id (get_or keys i x) ≡ Greater = greater (id_cmp c.args.id (get_or keys i x)) (sym at_last ∙ t) in
          let above : i < rank id_cmp c.args.id keys = rank_above id_cmp id_total c.args.id keys i x rising (omega arith) is in
          let most = rank_in id_cmp c.args.id keys in
          goes_here id_cmp id_total c.args.id keys (length c.args.entries.now.items) x rising (omega arith) (λ h. absurd (omega arith)),
      λ goes. at_test (c.is_above.result) refl (λ least. (
          let low : rank id_cmp c.args.id keys ≤ i = rank_le id_cmp c.args.id keys i x (omega arith)
          (sym at_last ∙ least) in
          let ranked = goes.ranked in
          omega arith)),
    )
  where
    at_test : (b : Bool) → c.is_above.result ≡ b → (c.is_above.result ≡ false → ⊥) → IsTrue c.is_above.result
    at_test true is h = is
    at_test false is h = absurd (h is)
