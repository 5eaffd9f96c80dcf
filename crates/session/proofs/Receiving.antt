-- What a session has received of a text, and why it stopped.
use Rattle.std.proofs.Common.{◌≡◌, ◌≢◌, ◌≤◌, ◌<◌, ◌⊎◌, inl, inr, ℕ, suc, ◌+◌, Bool, true, false, List, [], ◌∷◌, ◌++◌, length, take}
use Rattle.std.proofs.Common.{Option}
use Rattle.std.proofs.Common.{Some, None, MatchOption, Ok, Err, refl, sym, ap, ◌∙◌, subst, append-nil, append_assoc, arith}
use Rattle.std.specs.Bool.{⊤}
use Rattle.std.proofs.lemmas.List.{length-append, take_at}
use Rattle.ids.specs.declared.refusal.Refusal.{Refusal}
use Rattle.ids.specs.declared.refusal.Refusal.TheVariants.{BadLine, NoMemory}
use Rattle.semantics.specs.Stamped.{Stamped}
use Rattle.semantics.specs.Vectors.{Vector}
use Rattle.semantics.specs.Replica.{Replica}
use Rattle.semantics.specs.Delivery.{answer_to, deliver}
use Rattle.semantics.specs.Drain.{counted, drain, drain_for}
use Rattle.semantics.specs.Handling.{DrainsTo}
use Rattle.records.specs.wire.Bundles.{Readable, readable}
use Rattle.records.specs.wire.Lines.{HasNoEnd, IsFirstLine}
use Rattle.records.specs.wire.Profiles.{line_form}
use Rattle.records.proofs.wire.BundleLines.{after, after-bad, after-cut, after-none, after-op}
use Rattle.session.specs.declared.session.receiving.Refused.{Refused}
use Rattle.session.specs.Receipts.{EndsBehind, StopsBehind, delivered, refusal_of, refusals, refused_lines, settled, summary}
use Rattle.session.specs.Receipts.{with_refusal}

-- ---- one more

delivered-last : (r : Replica) (ops : List Stamped) (s : Stamped)
    → delivered r (ops ++ s ∷ []) ≡ deliver (settled (delivered r ops)) s
delivered-last r [] s = refl
delivered-last r (o ∷ ops) s = delivered-last (deliver (settled r) o) ops s

refusals-last : (r : Replica) (ops : List Stamped) (s : Stamped)
    → refusals r (ops ++ s ∷ []) ≡ refusals r ops ++ refusal_of (answer_to (settled (delivered r ops)) s) ∷ []
refusals-last r [] s = refl
refusals-last r (o ∷ ops) s =
    ap (λ (xs : List (Option Refusal)). refusal_of (answer_to (settled r) o) ∷ xs) (refusals-last (deliver (settled r) o) ops s)

length-refusals : (r : Replica) (ops : List Stamped) → length (refusals r ops) ≡ length ops
length-refusals r [] = refl
length-refusals r (o ∷ ops) = ap suc (length-refusals (deliver (settled r) o) ops)

summary-last : (xs : List (ℕ × Refusal)) (n : ℕ) (why : Refusal) → summary (xs ++ (n, why) ∷ []) ≡ with_refusal (summary xs) n (Some why)
summary-last [] n why = refl
summary-last (x ∷ xs) n why =
    let long = length-append xs ((n, why) ∷ []) in
    let count : suc (length (xs ++ (n, why) ∷ [])) ≡ suc (length xs) + 1 = omega (arith, long) in
    λ i. Some (record { count = count i; first_line = x.0; why = x.1 })

-- the refused ones among these answers, with one more
noted-last : (n line : ℕ) (xs : List (Option Refusal)) (x : Option Refusal) → line ≡ n + length xs
    → (front : List (ℕ × Refusal))
    → summary (front ++ refused_lines n (xs ++ x ∷ [])) ≡ with_refusal (summary (front ++ refused_lines n xs)) line x
noted-last n line [] None e front = refl
noted-last n line [] (Some why) e front =
    let here : n ≡ line = omega (arith, e) in
    ap (λ k. summary (front ++ (k, why) ∷ [])) here
    ∙ summary-last front line why
    ∙ ap (λ (ys : List (ℕ × Refusal)). with_refusal (summary ys) line (Some why)) (sym (append-nil front))
noted-last n line (None ∷ xs) x e front = noted-last (suc n) line xs x (omega (arith, e)) front
noted-last n line (Some why ∷ xs) x e front = by (noted-last (suc n) line xs x (omega (arith, e)) (front ++ (n, why) ∷ []))
  where
    split : (ys : List (ℕ × Refusal)) → (front ++ (n, why) ∷ []) ++ ys ≡ front ++ (n, why) ∷ ys
    split ys = append_assoc front ((n, why) ∷ []) ys

    by : summary ((front ++ (n, why) ∷ []) ++ refused_lines (suc n) (xs ++ x ∷ []))
        ≡ with_refusal (summary ((front ++ (n, why) ∷ []) ++ refused_lines (suc n) xs)) line x
        → summary (front ++ (n, why) ∷ refused_lines (suc n) (xs ++ x ∷ []))
        ≡ with_refusal (summary (front ++ (n, why) ∷ refused_lines (suc n) xs)) line x
    by is =
        ap summary (sym (split (refused_lines (suc n) (xs ++ x ∷ []))))
        ∙ is
        ∙ ap (λ (ys : List (ℕ × Refusal)). with_refusal (summary ys) line x) (split (refused_lines (suc n) xs))

-- the refused ones are no more than the lines
few_refused : (n : ℕ) (xs : List (Option Refusal)) → length (refused_lines n xs) ≤ length xs
few_refused n [] = omega arith
few_refused n (None ∷ xs) = let few = few_refused (suc n) xs in omega (arith, few)
few_refused n (Some why ∷ xs) = let few = few_refused (suc n) xs in omega (arith, few)

-- so their count is below any bound of these
abbrev CountsBelow : ℕ → Option Refused → Type 0
CountsBelow bound refused = MatchOption refused ⊤ (λ r. r.count ≤ bound)

count_of : (xs : List (ℕ × Refusal)) (bound : ℕ) → length xs ≤ bound → CountsBelow bound (summary xs)
count_of [] bound few = tt
count_of (x ∷ xs) bound few = few

-- and one more stays within the bound that they are below
pub one_more_fits : (n bound : ℕ) (refused : Option Refused) → n + 1 < bound → MatchOption refused ⊤ (λ r. r.count ≤ n)
    → MatchOption refused ⊤ (λ r. r.count + 1 < bound)
one_more_fits n bound None below counts = tt
one_more_fits n bound (Some r) below counts = omega (arith, below, counts)

-- what a line leaves of a text
pub line_taken : (rest line left : List ℕ) → IsFirstLine rest line left → length left + 1 ≤ length rest
line_taken rest line left first =
    let whole = ap length first.split in
    let parts = length-append line (10 ∷ left) in
    omega (arith, whole, parts)

-- ---- what was received

-- q is r after it received the first n operations of the text, of which these were refused; the rest isn't read yet, and is relative to the
-- base
pub record HasReceived (r : Replica) (text : List ℕ) (q : Replica) (base : Vector) (rest : List ℕ) (n : ℕ)
    (refused : Option Refused) : Type 0 where
  pub ops : List Stamped
  pub count : length ops ≡ n
  pub replica : q ≡ settled (delivered r ops)
  pub refused_are : refused ≡ summary (refused_lines 1 (refusals r ops))
  pub read : after ops (readable base rest) ≡ readable [] text

-- a drain that ran to its end took some turns, as one that ended early did
pub drained_either : (b : Bool) (r q : Replica) → q ≡ counted (drain r) → DrainsTo r b q
drained_either true r q is = (length r.waiting, is)
drained_either false r q is = is

module _ (r : Replica) (text : List ℕ) where
  pub received-none : (q : Replica) (base : Vector) (rest : List ℕ) (n : ℕ) → q ≡ settled r → base ≡ [] → rest ≡ text → n ≡ 0
      → HasReceived r text q base rest n None
  received-none q base rest n is start all none = record {
    ops = [];
    count = sym none;
    replica = is;
    refused_are = refl;
    read = λ i. readable (start i) (all i);
  }

  -- the first operations of the text
  first_operations : (ops : List Stamped) (base : Vector) (rest : List ℕ) (n : ℕ) → length ops ≡ n
      → after ops (readable base rest) ≡ readable [] text → take n (readable [] text).operations ≡ ops
  first_operations ops base rest n count read =
      ap (λ (r : Readable). take n r.operations) (sym read) ∙ take_at ops (readable base rest).operations n count

  module _ {q : Replica} {base : Vector} {rest : List ℕ} {n : ℕ} {refused : Option Refused}
      (h : HasReceived r text q base rest n refused) where
    pub operations_are : take n (readable [] text).operations ≡ h.ops
    operations_are = first_operations h.ops base rest n h.count h.read

    -- what a receipt that stops or ends here says
    pub drains : (b : Bool) → DrainsTo (delivered r (take n (readable [] text).operations)) b q
    drains b = subst (λ (ops : List Stamped). DrainsTo (delivered r ops) b q) (sym operations_are)
        (drained_either b (delivered r h.ops) q h.replica)

    pub says : refused ≡ summary (refused_lines 1 (refusals r (take n (readable [] text).operations)))
    says = subst (λ (ops : List Stamped). refused ≡ summary (refused_lines 1 (refusals r ops))) (sym operations_are) h.refused_are

    pub counts : MatchOption refused ⊤ (λ r. r.count ≤ n)
    counts =
        let few = few_refused 1 (refusals r h.ops) in
        let long = length-refusals r h.ops in
        subst (CountsBelow n) (sym h.refused_are)
        (count_of (refused_lines 1 (refusals r h.ops)) n (omega (arith, few, long, h.count)))

    -- a bad line, or no memory
    pub stops : (line left : List ℕ) (why : Refusal) → IsFirstLine rest line left → (why ≡ NoMemory) ⊎ (line_form base line ≡ Err why)
        → StopsBehind (readable [] text) n why
    stops line left why first (inl memory) = inl memory
    stops line left why first (inr form) =
        let all = sym (after-bad base rest line left h.ops why first form) ∙ h.read in
        let count = ap (λ (r : Readable). length r.operations) all in
        inr (omega (arith, count, h.count), sym (ap (λ (r : Readable). r.stopped) all))

    -- the end of the lines
    pub ends : (left : List ℕ) (taken later : ℕ) (stop : Option (ℕ × Refusal)) → taken ≡ n → HasNoEnd rest → left ≡ rest → later ≡ taken
        → MatchOption stop (left ≡ []) (λ s. (s.0 ≡ later + 1) × (s.1 ≡ BadLine) × (left ≢ []))
        → MatchOption stop (EndsBehind (readable [] text) n) (λ s. (s.0 ≡ n + 1) × StopsBehind (readable [] text) n s.1)
    ends left taken later None same whole still count none =
        let all = sym (after-none base rest h.ops (sym still ∙ none)) ∙ h.read in
        let long = ap (λ (r : Readable). length r.operations) all in
        (omega (arith, long, h.count), sym (ap (λ (r : Readable). r.stopped) all))
    ends left taken later (Some s) same whole still count cut =
        let all = sym (after-cut base rest h.ops whole (λ e. cut.2 (still ∙ e))) ∙ h.read in
        let long = ap (λ (r : Readable). length r.operations) all in (
          omega (arith, cut.0, same, count),
          inr (omega (arith, long, h.count), sym (ap (λ (r : Readable). r.stopped) all) ∙ ap Some (sym cut.1)),
        )

    -- the next line is an operation, which is delivered
    module _ (line left : List ℕ) (s : Stamped) (m : Replica) (next number : ℕ) (noted : Option Refused)
        (first : IsFirstLine rest line left)
        (form : line_form base line ≡ Ok s) (is : m ≡ deliver q s) (counted_is : next ≡ n + 1) (number_is : number ≡ n + 1)
        (noted_is : noted ≡ with_refusal refused number (refusal_of (answer_to q s))) where
      longer : length (h.ops ++ s ∷ []) ≡ next
      longer = let long = length-append h.ops (s ∷ []) in omega (arith, long, h.count, counted_is)

      reached : m ≡ delivered r (h.ops ++ s ∷ [])
      reached = is ∙ ap (λ (p : Replica). deliver p s) h.replica ∙ sym (delivered-last r h.ops s)

      refused_so : noted ≡ summary (refused_lines 1 (refusals r (h.ops ++ s ∷ [])))
      refused_so =
          let behind : number
          ≡ 1 + length (refusals r h.ops) = (let long = length-refusals r h.ops in omega (arith, number_is, long, h.count)) in
          noted_is
          ∙ (λ i. with_refusal (h.refused_are i) number (refusal_of (answer_to (h.replica i) s)))
          ∙ sym (noted-last 1 number (refusals r h.ops) (refusal_of (answer_to (settled (delivered r h.ops)) s)) behind [])
          ∙ ap (λ (xs : List (Option Refusal)). summary (refused_lines 1 xs)) (sym (refusals-last r h.ops s))

      read_on : after (h.ops ++ s ∷ []) (readable s.vector left) ≡ readable [] text
      read_on = sym (after-op base rest line left h.ops s first form) ∙ h.read

      -- and a drain after it
      pub received-more : (t : Replica) (later : Vector) → later ≡ s.vector → t ≡ settled m → HasReceived r text t later left next noted
      received-more t later beside settled_is = record {
        ops = h.ops ++ s ∷ [];
        count = longer;
        replica = settled_is ∙ ap settled reached;
        refused_are = refused_so;
        read = subst (λ (v : Vector). after (h.ops ++ s ∷ []) (readable v left) ≡ readable [] text) (sym beside) read_on;
      }

      -- or one that ended early
      pub short_drain : (t : Replica) → (k : ℕ) × (t ≡ counted (drain_for k m))
          → DrainsTo (delivered r (take next (readable [] text).operations)) true t
      short_drain t d = subst (λ (ops : List Stamped). DrainsTo (delivered r ops) true t)
          (sym (first_operations (h.ops ++ s ∷ []) s.vector left next longer read_on))
          (d.0, d.1 ∙ ap (λ (p : Replica). counted (drain_for d.0 p)) reached)

      pub short_says : noted ≡ summary (refused_lines 1 (refusals r (take next (readable [] text).operations)))
      short_says = subst (λ (ops : List Stamped). noted ≡ summary (refused_lines 1 (refusals r ops)))
          (sym (first_operations (h.ops ++ s ∷ []) s.vector left next longer read_on)) refused_so
