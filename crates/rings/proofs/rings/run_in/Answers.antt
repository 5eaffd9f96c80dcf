use Rattle.std.proofs.Common.{rules, ◌≡◌, ◌<◌, ◌+◌, ◌-◌, ℕ, length, arith, subst, take, drop}
use Rattle.std.specs.Prelude.{slice_get}
use Rattle.rings.specs.Rings.{straight}
use Rattle.rings.proofs.Runs.{run_behind, run_in_ring, run_items}
use Rattle.rings.proofs.rings.run_in.Goals as goal

pub returns-then-position-starts-clause-items : goal.returns-then-position-starts-clause-items
returns-then-position-starts-clause-items g c =
    let starts = c.args.starts.now in
    let slots = c.args.slots.now in
    let at = c.slot_of-first in
    run_items starts slots c.args.position at.result c.requires.rings c.requires.within at.ensures (length slots - at.result)
    (run_behind starts slots c.args.position at.result c.requires.rings c.requires.within at.ensures (search rules))

pub overflow_add-result : goal.overflow_add-result
overflow_add-result g c =
    let at = c.slot_of-first in
    let rest = c.rest_of_ring-count in
    let run = run_in_ring c.args.starts.now c.args.slots.now c.args.position at.result c.requires.rings c.requires.within at.ensures
    rest.result (search rules) rest.ensures.place rest.ensures.slot in
    let h = run.slots in
    search rules

pub offset_bounds-slots-first-2 : goal.offset_bounds-slots-first-2
offset_bounds-slots-first-2 g c =
    let at = c.slot_of-first in
    let rest = c.rest_of_ring-count in
    let run = run_in_ring c.args.starts.now c.args.slots.now c.args.position at.result c.requires.rings c.requires.within at.ensures
    rest.result (search rules) rest.ensures.place rest.ensures.slot in
    let h = run.slots in
    omega (arith, h)

pub slice_bounds-result-end-2 : goal.slice_bounds-result-end-2
slice_bounds-result-end-2 g c =
    let at = c.slot_of-first in
    let rest = c.rest_of_ring-count in
    let run = run_in_ring c.args.starts.now c.args.slots.now c.args.position at.result c.requires.rings c.requires.within at.ensures
    rest.result (search rules) rest.ensures.place rest.ensures.slot in
    let h = run.slots in
    search rules

pub returns-clause-items : goal.returns-clause-items
returns-clause-items g c =
    let starts = c.args.starts.now in
    let slots = c.args.slots.now in
    let at = c.slot_of-first in
    let rest = c.rest_of_ring-count in
    let run = run_in_ring starts slots c.args.position at.result c.requires.rings c.requires.within at.ensures rest.result
    (search rules) rest.ensures.place rest.ensures.slot in
    let whole : rest.result ≡ at.result + rest.result - at.result = omega arith in
    subst (λ n. (i : ℕ) → i < length (take n (drop at.result slots))
    → slice_get (straight 2048 starts slots) (c.args.position + i) ≡ slice_get (take n (drop at.result slots)) i) whole
    (run_items starts slots c.args.position at.result c.requires.rings c.requires.within at.ensures rest.result run)
