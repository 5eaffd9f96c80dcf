-- An id has a position where an operation has it.
use Rattle.std.proofs.Common.{◌≡◌, ℕ, Bool, true, false, cond, ◌||◌, List, [], ◌∷◌, length, Option, Some, None, is_some, refl, ◌∙◌}
use Rattle.std.proofs.Common.{true≢false}
use Rattle.semantics.specs.Ids.{OpId, is_same_id}
use Rattle.semantics.specs.LegalHistory.{has_id}
use Rattle.semantics.specs.Entries.{Entry, applied, stamped_in}
use Rattle.oplog.specs.Logs.{position_of}

pub placed : (G : List Entry) (a : OpId) → is_some (position_of a G) ≡ has_id (applied G) a
placed [] a = refl
placed (e ∷ G) a = at_test (is_same_id (stamped_in e).id a) (placed G a)
  where
    at_test : (b : Bool) → is_some (position_of a G) ≡ has_id (applied G) a
        → is_some (cond b (Some (length G)) (position_of a G)) ≡ (b || has_id (applied G) a)
    at_test true rest = refl
    at_test false rest = rest

-- an id that no operation has has no position
pub unplaced : (G : List Entry) (a : OpId) → has_id (applied G) a ≡ false → position_of a G ≡ None
unplaced G a new = by (position_of a G) (placed G a ∙ new)
  where
    by : (o : Option ℕ) → is_some o ≡ false → o ≡ None
    by None is = refl
    by (Some n) is = absurd (true≢false is)
