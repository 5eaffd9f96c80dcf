-- Each member is in the table that a history leaves, and a table that is full stays as it is.
use Rattle.std.proofs.Common.{◌≡◌, ℕ, Bool, true, false, not, ◌&&◌, cond, nat_le, List, [], ◌∷◌, ◌++◌, length, refl, sym, ap, ◌∙◌}
use Rattle.std.proofs.Common.{true≢false}
use Rattle.std.proofs.lemmas.Bool.{and_parts, false_from_ne_true}
use Rattle.ids.specs.Members.{is_member}
use Rattle.ids.specs.Tables.{joined, lacks_room}
use Rattle.ids.specs.Vectors.{most_named}
use Rattle.ids.proofs.Tables.{joined_itself, member_fits, member_joined}
use Rattle.semantics.specs.Entries.{Entry, stamped_in}
use Rattle.semantics.specs.Joining.{joined_within, table_after, HadRoom}
use Rattle.semantics.specs.WorldHistory.{BeginsWith}

-- ---- one more replica

-- a replica in the table doesn't join again, and where there is room another one joins behind
pub within_known : (q : ℕ) (ps : List ℕ) → is_member ps q ≡ true → joined_within q ps ≡ ps
within_known q ps m = ap (λ b. cond (not b && nat_le most_named (length ps)) ps (cond b ps (ps ++ q ∷ []))) m

pub within_room : (q : ℕ) (ps : List ℕ) → lacks_room ps q ≡ false → joined_within q ps ≡ joined q ps
within_room q ps fits = ap (λ b. cond b ps (joined q ps)) fits

pub within_itself : (q : ℕ) (ps : List ℕ) → lacks_room ps q ≡ false → is_member (joined_within q ps) q ≡ true
within_itself q ps fits = ap (λ t. is_member t q) (within_room q ps fits) ∙ joined_itself q ps

pub member_within : (q : ℕ) (ps : List ℕ) (p : ℕ) → is_member ps p ≡ true → is_member (joined_within q ps) p ≡ true
member_within q ps p m = elim (lacks_room ps q) as (λ b. is_member (cond b ps (joined q ps)) p ≡ true) [
  | true ↦ m
  | false ↦ member_joined q ps p m
]

-- no replica joins a full table
pub full_within : (q : ℕ) (ps : List ℕ) → nat_le most_named (length ps) ≡ true → joined_within q ps ≡ ps
full_within q ps full = by (is_member ps q) refl
  where
    by : (b : Bool) → is_member ps q ≡ b → joined_within q ps ≡ ps
    by true m = within_known q ps m
    by false m = ap (λ b. cond (not b && nat_le most_named (length ps)) ps (cond b ps (ps ++ q ∷ []))) m
        ∙ ap (λ b. cond b ps (ps ++ q ∷ [])) full

pub lacking_full : (ps : List ℕ) (p : ℕ) → lacks_room ps p ≡ true → nat_le most_named (length ps) ≡ true
lacking_full ps p lacks = (and_parts (not (is_member ps p)) (nat_le most_named (length ps)) lacks).1

-- a replica that lacks room still lacks it as another one joins
pub lacks_within : (q : ℕ) (ps : List ℕ) (p : ℕ) → lacks_room ps p ≡ true → lacks_room (joined_within q ps) p ≡ true
lacks_within q ps p lacks = ap (λ t. lacks_room t p) (full_within q ps (lacking_full ps p lacks)) ∙ lacks

pub fits_before : (q : ℕ) (ps : List ℕ) (p : ℕ) → lacks_room (joined_within q ps) p ≡ false → lacks_room ps p ≡ false
fits_before q ps p fits = false_from_ne_true (lacks_room ps p) (λ e. true≢false (sym (lacks_within q ps p e) ∙ fits))

-- ---- a history

module _ (ms : List ℕ) (p : ℕ) (member : is_member ms p ≡ true) where
  pub member_after : (G : List Entry) → is_member (table_after ms G) p ≡ true
  member_after [] = member
  member_after (e ∷ G) = member_within (stamped_in e).id.replica (table_after ms G) p (member_after G)

  -- so there is room for its operations
  pub room_after : (G : List Entry) → lacks_room (table_after ms G) p ≡ false
  room_after G = member_fits (table_after ms G) p (member_after G)

-- a replica that has room has it in each beginning
pub had_room_before : (ms : List ℕ) (more G : List Entry) → HadRoom ms (more ++ G) → HadRoom ms G
had_room_before ms [] G h = h
had_room_before ms (e ∷ more) G h = had_room_before ms more G h.0

-- a table that is full stays so
stays_behind : (ms : List ℕ) (more G : List Entry) → nat_le most_named (length (table_after ms G)) ≡ true
    → table_after ms (more ++ G) ≡ table_after ms G
stays_behind ms [] G full = refl
stays_behind ms (e ∷ more) G full =
    let k = stays_behind ms more G full in
    full_within (stamped_in e).id.replica (table_after ms (more ++ G)) (ap (λ t. nat_le most_named (length t)) k ∙ full) ∙ k

pub full_stays_so : (ms : List ℕ) (G F : List Entry) → BeginsWith G F → nat_le most_named (length (table_after ms F)) ≡ true
    → table_after ms G ≡ table_after ms F
full_stays_so ms G F b full = ap (table_after ms) b.1 ∙ stays_behind ms b.0 F full

-- a replica that lacks room lacks it later too
pub lacks_later : (ms : List ℕ) (p : ℕ) (G F : List Entry) → BeginsWith G F → lacks_room (table_after ms F) p ≡ true
    → lacks_room (table_after ms G) p ≡ true
lacks_later ms p G F b lacks =
    ap (λ t. lacks_room t p) (full_stays_so ms G F b (lacking_full (table_after ms F) p lacks)) ∙ lacks
