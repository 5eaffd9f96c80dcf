-- What a client has submitted of a text, and why it stopped.
use Rattle.std.proofs.Common.{◌≡◌, ◌≢◌, ◌⊎◌, inl, inr, ℕ, zero, suc, ◌+◌, ◌==◌, cond, Option, Some, None, MatchOption, Ok, Err, List, []}
use Rattle.std.proofs.Common.{◌∷◌, ◌++◌, length, map, take, false, refl, sym, ap, ◌∙◌, subst, arith, add-one}
use Rattle.std.proofs.lemmas.List.{length-append, length-map, map-append, take_at}
use Rattle.ids.specs.declared.refusal.Refusal.{Refusal}
use Rattle.ids.specs.declared.refusal.Refusal.TheVariants.{BadLine, NoMemory}
use Rattle.semantics.specs.Stamped.{Stamped}
use Rattle.semantics.specs.Vectors.{Vector}
use Rattle.engine.specs.operation.declared.op.Op.{Op}
use Rattle.engine.specs.operation.Ops.{stamped_of}
use Rattle.engine.specs.operation.declared.submission.Request.TheVariants.{Peer}
use Rattle.engine.specs.Clients.{Client}
use Rattle.wire.specs.Bundles.{Readable, readable}
use Rattle.wire.specs.Lines.{HasNoEnd, IsFirstLine}
use Rattle.wire.specs.Profiles.{line_form}
use Rattle.wire.proofs.BundleLines.{after, after-bad, after-cut, after-none, after-op}
use Rattle.peer_sync.specs.Receiving.{EndsAfter, GoesOn, IsDenied, StopsAfter, all_submitted, submitted}

all_submitted-last : (c : Client) (ops : List Op) (op : Op) → all_submitted c (ops ++ op ∷ []) ≡ submitted (all_submitted c ops) op
all_submitted-last c [] op = refl
all_submitted-last c (o ∷ ops) op = all_submitted-last (submitted c o) ops op

-- each operation that was submitted is kept
kept_count : (c : Client) (ops : List Op) → length (all_submitted c ops).kept ≡ length c.kept + length ops
kept_count c [] = omega arith
kept_count c (o ∷ ops) =
    let more = kept_count (submitted c o) ops in
    let one = length-append c.kept
    (record {
      submission = record { client = c.number; serial = length c.kept + 1; floor = length c.seen; request = Peer o };
      known = None;
    } ∷ []) in
    omega (arith, more, one)

-- submitting doesn't count a full queue
full_kept : (c : Client) (ops : List Op) → (all_submitted c ops).found_full ≡ c.found_full
full_kept c [] = refl
full_kept c (o ∷ ops) = full_kept (submitted c o) ops

-- a client that differs in that count alone
but_for_full : (d e : Client) → d ≡ e → d ≡ record e { found_full = d.found_full }
but_for_full d e is = is ∙ ap (λ n. record e { found_full = n }) (sym (ap (λ (k : Client). k.found_full) is))

-- client d is c after it submitted the first n operations of the text, which is relative to the start; the rest isn't read yet, and is
-- relative to the base
pub record HasSubmitted (c : Client) (start : Vector) (text : List ℕ) (d : Client) (base : Vector) (rest : List ℕ) (n : ℕ) : Type 0 where
  pub ops : List Op
  pub count : length ops ≡ n
  pub client : d ≡ all_submitted c ops
  pub read : after (map stamped_of ops) (readable base rest) ≡ readable start text

module _ (c : Client) (start : Vector) (text : List ℕ) where
  pub submitted-none : HasSubmitted c start text c start text 0
  submitted-none = record { ops = []; count = refl; client = refl; read = refl }

  -- the next line is an operation, which is submitted
  pub submitted-more : (d e : Client) (base : Vector) (rest line left : List ℕ) (n : ℕ) (op : Op) → HasSubmitted c start text d base rest n
      → IsFirstLine rest line left
      → line_form base line ≡ Ok (stamped_of op) → e ≡ submitted d op
      → HasSubmitted c start text e op.deps left (n + 1)
  submitted-more d e base rest line left n op h first form is = record {
    ops = h.ops ++ op ∷ [];
    count = (let l = length-append h.ops (op ∷ []) in omega (arith, l, h.count));
    client = is ∙ ap (λ (k : Client). submitted k op) h.client ∙ sym (all_submitted-last c h.ops op);
    read =
        ap (λ (ss : List Stamped). after ss (readable op.deps left)) (map-append stamped_of h.ops (op ∷ []))
        ∙ sym (after-op base rest line left (map stamped_of h.ops) (stamped_of op) first form)
        ∙ h.read;
  }

  -- what was submitted is the first operations of the text
  pub first_operations : (d : Client) (base : Vector) (rest : List ℕ) (n : ℕ) (h : HasSubmitted c start text d base rest n)
      → map stamped_of h.ops ≡ take n (readable start text).operations
  first_operations d base rest n h =
      sym (take_at (map stamped_of h.ops) (readable base rest).operations n (length-map h.ops stamped_of ∙ h.count))
      ∙ ap (λ (r : Readable). take n r.operations) h.read

  -- what is left is read as what the text has after them
  pub goes_on : (d : Client) (base : Vector) (rest left : List ℕ) (n : ℕ) → HasSubmitted c start text d base rest n → left ≡ rest
      → GoesOn (readable start text) n (readable base left)
  goes_on d base rest left n h same =
      subst (λ (l : List ℕ). GoesOn (readable start text) n (readable base l)) (sym same)
      (sym h.read ∙ λ i. record {
        operations = first_operations d base rest n h i ++ (readable base rest).operations;
        stopped = (readable base rest).stopped;
      })

  -- so far it found the queue full as often as before
  full_as_before : (d : Client) (base : Vector) (rest : List ℕ) (n : ℕ) → HasSubmitted c start text d base rest n
      → d.found_full ≡ c.found_full
  full_as_before d base rest n h = ap (λ (k : Client). k.found_full) h.client ∙ full_kept c h.ops

  pub kept_after : (d : Client) (base : Vector) (rest : List ℕ) (n : ℕ) → HasSubmitted c start text d base rest n
      → length d.kept ≡ length c.kept + n
  kept_after d base rest n h = ap (λ (k : Client). length k.kept) h.client ∙ kept_count c h.ops ∙ ap (λ m. length c.kept + m) h.count

  -- a line that is bad
  stops-bad : (d e : Client) (base : Vector) (rest line left : List ℕ) (n : ℕ) (why : Refusal) → HasSubmitted c start text d base rest n
      → IsFirstLine rest line left
      → line_form base line ≡ Err why → e.found_full ≡ c.found_full → StopsAfter (readable start text) n c.found_full e why
  stops-bad d e base rest line left n why h first form full =
      let all = sym (after-bad base rest line left (map stamped_of h.ops) why first form) ∙ h.read in
      let count = ap (λ (r : Readable). length r.operations) all in
      let mapped = length-map h.ops stamped_of in
      inr (inl (omega (arith, count, mapped, h.count), sym (ap (λ (r : Readable). r.stopped) all), full))

  -- a line whose operation the client doesn't submit
  stops-denied : (d e : Client) (base : Vector) (rest line left : List ℕ) (n : ℕ) (why : Refusal) (op : Op)
      → HasSubmitted c start text d base rest n
      → IsFirstLine rest line left
      → line_form base line ≡ Ok (stamped_of op) → IsDenied c.found_full e why
      → StopsAfter (readable start text) n c.found_full e why
  stops-denied d e base rest line left n why op h first form denied =
      let all = sym (after-op base rest line left (map stamped_of h.ops) (stamped_of op) first form) ∙ h.read in
      let count = ap (λ (r : Readable). length r.operations) all in
      let more = length-append (map stamped_of h.ops ++ stamped_of op ∷ []) (readable op.deps left).operations in
      let one = length-append (map stamped_of h.ops) (stamped_of op ∷ []) in
      let mapped = length-map h.ops stamped_of in
      inr (inr (omega (arith, count, more, one, mapped, h.count), denied))

  -- a line that isn't submitted
  pub stops : (d e : Client) (base : Vector) (rest line left : List ℕ) (n : ℕ) (why : Refusal) → HasSubmitted c start text d base rest n
      → IsFirstLine rest line left
      → ((why ≡ NoMemory) × (e.found_full ≡ d.found_full)) ⊎ ((line_form base line ≡ Err why) × (e.found_full ≡ d.found_full))
      ⊎ ((op : Op) × (line_form base line ≡ Ok (stamped_of op)) × IsDenied d.found_full e why)
      → StopsAfter (readable start text) n c.found_full e why
  stops d e base rest line left n why h first (inl memory) = inl (memory.0, memory.1 ∙ full_as_before d base rest n h)
  stops d e base rest line left n why h first (inr (inl bad)) =
      stops-bad d e base rest line left n why h first bad.0 (bad.1 ∙ full_as_before d base rest n h)
  stops d e base rest line left n why h first (inr (inr denied)) =
      stops-denied d e base rest line left n why denied.0 h first denied.1
      (subst (λ k. IsDenied k e why) (full_as_before d base rest n h) denied.2)

  -- bytes without a line feed at the end
  stops-cut : (d : Client) (base : Vector) (rest : List ℕ) (n : ℕ) → HasSubmitted c start text d base rest n → HasNoEnd rest → rest ≢ []
      → StopsAfter (readable start text) n c.found_full d BadLine
  stops-cut d base rest n h whole some =
      let all = sym (after-cut base rest (map stamped_of h.ops) whole some) ∙ h.read in
      let count = ap (λ (r : Readable). length r.operations) all in
      let mapped = length-map h.ops stamped_of in
      inr
      (inl (
        omega (arith, count, mapped, h.count),
        sym (ap (λ (r : Readable). r.stopped) all),
        full_as_before d base rest n h,
      ))

  -- no byte is left
  ends : (d : Client) (base : Vector) (rest : List ℕ) (n : ℕ) → HasSubmitted c start text d base rest n → rest ≡ []
      → EndsAfter (readable start text) n
  ends d base rest n h none =
      let all = sym (after-none base rest (map stamped_of h.ops) none) ∙ h.read in
      let count = ap (λ (r : Readable). length r.operations) all in
      let mapped = length-map h.ops stamped_of in
      (omega (arith, count, mapped, h.count), sym (ap (λ (r : Readable). r.stopped) all))

  -- the end of the lines: everything was read, or bytes are left without a line feed at the end
  pub stops-end : (d : Client) (base : Vector) (rest left : List ℕ) (n taken later : ℕ) (stop : Option (ℕ × Refusal))
      → HasSubmitted c start text d base rest n
      → taken ≡ n → HasNoEnd rest → left ≡ rest → later ≡ taken
      → MatchOption stop (left ≡ []) (λ s. (s.0 ≡ later + 1) × (s.1 ≡ BadLine) × (left ≢ []))
      → MatchOption stop (EndsAfter (readable start text) n × (d.found_full ≡ c.found_full))
      (λ s. (s.0 ≡ n + 1) × StopsAfter (readable start text) n c.found_full d s.1)
  stops-end d base rest left n taken later None h same whole still count none = (
    ends d base rest n h
        (sym still ∙ none),
    full_as_before d base rest n h,
  )
  stops-end d base rest left n taken later (Some s) h same whole still count cut = (
    omega (arith, cut.0, same, count),
    subst (λ (why : Refusal). StopsAfter (readable start text) n c.found_full d why) (sym cut.1)
        (stops-cut d base rest n h whole (λ e. cut.2 (still ∙ e))),
  )

other_than_zero : (n : ℕ) → n ≢ 0 → (n == 0) ≡ false
other_than_zero n h = grind (arith)

above_zero : (n m : ℕ) → m ≡ n + 1 → (m == 0) ≡ false
above_zero n m e = other_than_zero m (λ z. absurd (omega (arith, z, e)))

-- the first serial, once one more was submitted
pub first_serial-next : (n m serial first kept : ℕ) → first ≡ cond (n == 0) 0 (kept + 1) → serial ≡ kept + n + 1 → m ≡ n + 1
    → cond (n == 0) serial first ≡ cond (m == 0) 0 (kept + 1)
first_serial-next n m serial first kept is at e = start n is at ∙ sym (ap (λ b. cond b 0 (kept + 1)) (above_zero n m e))
  where
    start : (n : ℕ) → first ≡ cond (n == 0) 0 (kept + 1) → serial ≡ kept + n + 1 → cond (n == 0) serial first ≡ kept + 1
    start zero is at = omega (arith, at)
    start (suc k) is at =
        let not = above_zero k (suc k) (sym (add-one k)) in
        ap (λ b. cond b serial first) not ∙ is ∙ ap (λ b. cond b 0 (kept + 1)) not
