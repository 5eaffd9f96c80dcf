use Rattle.std.proofs.Common.{◌≡◌, ◌<◌, ℕ, List, arith, get_or, Fits, w8}
use Rattle.columns.specs.Prefix.{AreBytes, first_bytes}
use Rattle.columns.proofs.Prefixes.{bytes_from, prefix_fits}
use Rattle.columns.proofs.prefix.complete.Goals as goal

-- the items of a slice of bytes
bytes_of : (name : List ℕ) → ((i : ℕ) → Fits w8 (get_or name i 0)) → AreBytes name
bytes_of name each = bytes_from name (λ i. (let h = each i in omega (arith, h)))

-- the prefix so far leaves room for one more byte
room_for_one : (c : goal.In-loop-position) → c.loop-position.prefix < 72057594037927936
room_for_one c =
    let so_far : c.loop-position.prefix ≡ first_bytes c.loop-position.position c.args.name.now = c.loop-position.invariant in
    let fits = prefix_fits c.args.name.now c.loop-position.position (bytes_of c.args.name.now c.type_inv.name)
    (let before = c.loop-position-test.true in omega (arith, before)) in
    omega (arith, so_far, fits)

pub overflow_mul-prefix : goal.overflow_mul-prefix
overflow_mul-prefix c = let room = room_for_one c in omega (arith, room)

pub overflow_add-prefix : goal.overflow_add-prefix
overflow_add-prefix c =
    let so_far : c.loop-position.prefix ≡ first_bytes c.loop-position.position c.args.name.now = c.loop-position.invariant in
    let fits = prefix_fits c.args.name.now c.loop-position.position (bytes_of c.args.name.now c.type_inv.name)
    (let before = c.loop-position-test.true in omega (arith, before)) in
    let byte = c.byte_at.type_inv in
    let same = c.from.ensures in
    omega (arith, so_far, fits, byte, same)

pub returns-clause-bytes : goal.returns-clause-bytes
returns-clause-bytes c = bytes_of c.args.name.now c.type_inv.name
