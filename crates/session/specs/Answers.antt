-- What a session answers to a hello.
use Rattle.std.specs.Prelude.{◌≡◌, ◌≤◌, ◌<◌, ◌⊎◌, ◌+◌, ℕ, nat_lt, List, [], length, take, Ok}
use Rattle.semantics.specs.Stamped.{Stamped}
use Rattle.semantics.specs.Entries.{first_entries, lacked_of}
use Rattle.semantics.specs.Replica.{Replica}
use Rattle.semantics.specs.Vectors.{Vector}
use Rattle.records.specs.wire.Bundles.{bundle_form, bundle_text}
use Rattle.records.specs.Lost.{is_beyond}
use Rattle.session.specs.declared.session.answering.Answered.{Answered}

-- the text is the first n lines of the bundle of these operations
abbrev pub IsFirstLines : List Stamped → ℕ → List ℕ → Type 0
IsFirstLines ss n text = (n ≤ length ss) × (text ≡ bundle_text [] (take n ss))

-- as many operations as fit into that many bytes, and one if there is one: either they fit or there is one alone, and one more wouldn't fit
pub record IsCutAt (most : ℕ) (ss : List Stamped) (n : ℕ) (text : List ℕ) : Type 0 where
  pub first : IsFirstLines ss n text
  pub fits : (length text ≤ most) ⊎ (n ≡ 1)
  pub full : n < length ss → (1 ≤ n) × (most < length (bundle_text [] (take (n + 1) ss)))

-- the answer to the vector v, from the first entries of r: the first lines of what v lacks, which are read back as just that
pub record IsAnswer (most : ℕ) (r : Replica) (stored : ℕ) (v : Vector) (a : Answered) : Type 0 where
  pub count : ℕ
  pub cut : IsCutAt most (lacked_of (first_entries stored r.entries) v) count a.lines.items
  pub more : a.has_more ≡ nat_lt count (length (lacked_of (first_entries stored r.entries) v))
  pub reads_back : bundle_form [] a.lines.items ≡ Ok (take count (lacked_of (first_entries stored r.entries) v))
  pub beyond : a.is_beyond ≡ is_beyond r.own r.entries v
