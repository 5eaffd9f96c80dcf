use Rattle.std.proofs.Common.{◌≡◌, ◌<◌, ◌∙◌, ℕ, [], sym, refl, length, get_or, arith}
use Rattle.semantics.specs.Elements.{name_cmp}
use Rattle.semantics.proofs.Orders.{name_total}
use Rattle.columns.proofs.HintedKeys.{found_here, is_there, ties_at}
use Rattle.columns.proofs.Sought.{sought_in, sought_behind}
use Rattle.columns.proofs.sorted_keys.SortedKeys.narrow.Goals as goal

-- a key stands at the hint
inside : (hint count len : ℕ) → count ≡ len → hint < count → hint < len
inside hint count len same apart = omega (arith, same, apart)

pub compare-requires-clause-other : goal.compare-requires-clause-other
compare-requires-clause-other c = (c.args.hint, c.short_at.ensures)

pub returns-in-Greater-clause-between : goal.returns-in-Greater-clause-between
returns-in-Greater-clause-between c =
    let keys = c.args.self.now.keys in
    let hint = c.args.hint in
    let within : hint < length keys = inside hint c.len-count.result (length keys) c.len-count.ensures.length c.if-hint-count.false in
    let behind = sought_behind name_cmp c.args.key.now keys 0 (length keys) hint (get_or keys hint [])
    (sought_in name_cmp c.args.key.now keys (length keys) refl) within (is_there keys hint within) name_total c.len-count.ensures.rising
    (sym (c.compare.ensures c.args.hint c.short_at.ensures []) ∙ c.in-Greater.is) in
    let all = c.len-count.ensures.length in
    record {
      above = behind.above;
      within = omega (arith, all);
      next = λ d less. absurd (omega (arith, all, less));
    }

pub returns-in-Less-clause-hinted : goal.returns-in-Less-clause-hinted
returns-in-Less-clause-hinted c = λ there.
    let tied = ties_at c.args.self.now.keys c.args.key.now c.args.hint there in
    let less = sym (c.compare.ensures c.args.hint c.short_at.ensures []) ∙ c.in-Less.is in
    cc

pub returns-in-Equal-clause-found : goal.returns-in-Equal-clause-found
returns-in-Equal-clause-found c =
    let keys = c.args.self.now.keys in
    found_here keys c.args.key.now c.len-count.ensures.rising 0 (length keys) c.args.hint
    (sought_in name_cmp c.args.key.now keys (length keys) refl)
    (inside c.args.hint c.len-count.result (length keys) c.len-count.ensures.length c.if-hint-count.false)
    (sym (c.compare.ensures c.args.hint c.short_at.ensures []) ∙ c.in-Equal.is)

pub returns-in-Greater-clause-hinted : goal.returns-in-Greater-clause-hinted
returns-in-Greater-clause-hinted c = λ there.
    let tied = ties_at c.args.self.now.keys c.args.key.now c.args.hint there in
    let greater = sym (c.compare.ensures c.args.hint c.short_at.ensures []) ∙ c.in-Greater.is in
    cc
