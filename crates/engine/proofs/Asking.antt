-- What a client keeps while it looks for answers.
use Rattle.std.proofs.Common.{◌≡◌, ℕ, zero, suc, ◌+◌, ◌-◌, ◌<◌, true, cond, subst, Option, Some, None, List, [], ◌∷◌, ◌++◌, length, map}
use Rattle.std.proofs.Common.{set}
use Rattle.std.proofs.Common.{get_or, slice_get, sym, refl, ap, ◌∙◌, arith}
use Rattle.std.specs.Prelude.{MatchOption}
use Rattle.std.specs.Option.{option_map, IfSome}
use Rattle.std.proofs.lemmas.Option.{slice_get_read, slice_get-map}
use Rattle.semantics.specs.Entries.{Entry}
use Rattle.semantics.specs.LegalAnswer.{Submitted, Reply as TheReply}
use Rattle.semantics.specs.WorldHistory.{BeginsWith}
use Rattle.semantics.specs.PeerAnswers.{IsAnswer, IsAnswerWith}
use Rattle.semantics.proofs.LastingAnswers.{answer_stays}
use Rattle.semantics.proofs.TruePeerAnswers.{answer_within}
use Rattle.replica.specs.operation.declared.submission.Submission.{Submission}
use Rattle.replica.specs.operation.declared.submission.Reply.{Reply}
use Rattle.replica.specs.operation.Submissions.{reply_of, submitted_of}
use Rattle.replica.specs.operation.SameSubmissions.{is_same_submission}
use Rattle.replica.proofs.operation.SameSubmissions.{one_submission}
use Rattle.command.specs.Answers.{AnswerCell, Given}
use Rattle.command.specs.declared.ticket.Ticket.{Ticket}
use Rattle.engine.specs.Clients.{AreBy, AwaitedAnswer, Client, HasNotice, IsAnswered, IsMine, Looks, submissions_by, answer_in, answer_of}

pub kept_at : (kept : List AwaitedAnswer) (n i : ℕ) (k : AwaitedAnswer) → n ≡ length kept → i < n → k ≡ get_or kept i k
    → slice_get kept i ≡ Some k
kept_at kept n i k len lt is = slice_get_read kept n i k len lt is

pub item_at : (kept : List AwaitedAnswer) (i : ℕ) (k : AwaitedAnswer) → slice_get kept i ≡ Some k
    → slice_get (map (λ (z : AwaitedAnswer). z.submission) kept) i ≡ Some k.submission
item_at kept i k at = slice_get-map (λ (z : AwaitedAnswer). z.submission) kept i ∙ ap (option_map (λ (z : AwaitedAnswer). z.submission)) at

pub items_set : (kept : List AwaitedAnswer) (i : ℕ) (k old : AwaitedAnswer) → slice_get kept i ≡ Some old → k.submission ≡ old.submission
    → map (λ (z : AwaitedAnswer). z.submission) (set kept i k) ≡ map (λ (z : AwaitedAnswer). z.submission) kept
items_set [] i k old at same = refl
items_set (x ∷ kept) zero k old at same =
    let is : x ≡ old = cc in
    ap (λ (a : Submission). a ∷ map (λ (z : AwaitedAnswer). z.submission) kept) (same ∙ ap (λ (z : AwaitedAnswer). z.submission) (sym is))
items_set (x ∷ kept) (suc i) k old at same = ap (λ (l : List Submission). x.submission ∷ l) (items_set kept i k old at same)

-- what the cell gave
abbrev pub given_by : Option (Reply × List Entry) → Option Given
given_by o = option_map (λ r. record { reply = r.0; history = r.1 }) o

-- what a look at a cell says of its answer, for the submission x
abbrev pub Finds : (own : ℕ) (members : List ℕ) → Submission → AwaitedAnswer → Option (Reply × List Entry) → Type 0
Finds own table x after o = MatchOption o (answer_of after ≡ None)
    (λ r. (answer_of after ≡ Some (record { reply = r.0; history = r.1 }))
    × IsAnswerWith own table r.1 (submitted_of x) (reply_of r.0))

is_given : (own : ℕ) (table : List ℕ) (x : Submission) (after : AwaitedAnswer) (o : Option (Reply × List Entry)) → Finds own table x after o
    → given_by o ≡ answer_of after
is_given own table x after None a = sym a
is_given own table x after (Some r) a = sym a.0

pub looked : (own : ℕ) (table : List ℕ) (c d : Client) (kept : List AwaitedAnswer) (i : ℕ) (k after : AwaitedAnswer)
    (o : Option (Reply × List Entry)) → kept ≡ c.kept → slice_get kept i ≡ Some k
    → d.kept ≡ set kept i after → after.submission ≡ k.submission → IfSome k.known (λ a. after.known ≡ Some a)
    → Finds own table k.submission after o → Looks c d i (given_by o)
looked own table c d kept i k after o is at now same known a = record {
  before = k;
  after = after;
  at = ap (λ (l : List AwaitedAnswer). slice_get l i) (sym is) ∙ at;
  kept = now ∙ ap (λ (l : List AwaitedAnswer). set l i after) is;
  submission = same;
  known = known;
  given_is = is_given own table k.submission after o a;
}

-- ---- which client's the submission is

by_at : (client n : ℕ) (xs : List Submission) (i : ℕ) (x : Submission) → AreBy client n xs → slice_get xs i ≡ Some x
    → (x.client ≡ client) × (x.serial ≡ n + i)
by_at client n [] i x h at = absurd (let z : ⊥ = cc in z)
by_at client n (y ∷ xs) zero x h at =
    let is : y ≡ x = cc in (
      ap (λ (z : Submission). z.client) (sym is) ∙ h.0,
      (let s = ap (λ (z : Submission). z.serial) is in omega (arith, s, h.1)),
    )
by_at client n (y ∷ xs) (suc i) x h at = let r = by_at client (n + 1) xs i x h.2 at in (r.0, omega (arith, r.1))

-- one more is submitted
pub by_snoc : (client n : ℕ) (xs : List Submission) (x : Submission) → AreBy client n xs → x.client ≡ client → x.serial ≡ n + length xs
    → AreBy client n (xs ++ x ∷ [])
by_snoc client n [] x h c s = (c, omega (arith, s), tt)
by_snoc client n (y ∷ xs) x h c s = (h.0, h.1, by_snoc client (n + 1) xs x h.2 c (omega (arith, s)))

-- what was kept is still kept
pub by_kept : (client n : ℕ) (xs ys : List Submission) → ys ≡ xs → AreBy client n xs → AreBy client n ys
by_kept client n xs ys same h = subst (AreBy client n) (sym same) h

set_at : (kept : List AwaitedAnswer) (i : ℕ) (k old : AwaitedAnswer) → slice_get kept i ≡ Some old → slice_get (set kept i k) i ≡ Some k
set_at [] i k old at = absurd (let z : ⊥ = cc in z)
set_at (x ∷ kept) zero k old at = refl
set_at (x ∷ kept) (suc i) k old at = set_at kept i k old at

-- the ticket's submission was answered
pub answered : (own : ℕ) (table : List ℕ) (c d : Client) (t : Ticket) (kept : List AwaitedAnswer) (k after : AwaitedAnswer)
    (o : Option (Reply × List Entry)) → IsMine c t → AreBy c.number 1 (map (λ (z : AwaitedAnswer). z.submission) kept)
    → slice_get kept (t.serial - 1) ≡ Some k → d.kept ≡ set kept (t.serial - 1) after → after.submission ≡ k.submission
    → Finds own table k.submission after o → IfSome o (λ r. IsAnswered own table d t r.0 r.1)
answered own table c d t kept k after None mine by at now same a = tt
answered own table c d t kept k after (Some r) mine by at now same a =
    let whose = by_at c.number 1 (map (λ (z : AwaitedAnswer). z.submission) kept) (t.serial - 1) k.submission by
    (item_at kept (t.serial - 1) k at) in
    let serial : k.submission.serial ≡ t.serial = omega (arith, whose.1, mine.2) in
    record {
      kept = after;
      at = ap (λ (l : List AwaitedAnswer). slice_get l (t.serial - 1)) now ∙ set_at kept (t.serial - 1) after k at;
      client = ap (λ (x : Submission). x.client) same ∙ whose.0 ∙ sym mine.1;
      serial = ap (λ (x : Submission). x.serial) same ∙ serial;
      given = a.0;
      answer = subst (λ (x : Submission). IsAnswerWith own table r.1 (submitted_of x) (reply_of r.0)) (sym same) a.1;
      within = answer_within own table r.1 (submitted_of k.submission) (reply_of r.0) a.1.0;
    }

-- a look and an answer concern what is kept, and nothing else of a client
looks_of : (c d e : Client) (i : ℕ) (given : Option Given) → e.kept ≡ d.kept → Looks c d i given → Looks c e i given
looks_of c d e i given same h = record {
  before = h.before;
  after = h.after;
  at = h.at;
  kept = same ∙ h.kept;
  submission = h.submission;
  known = h.known;
  given_is = h.given_is;
}

answered_of : (own : ℕ) (table : List ℕ) (c d : Client) (t : Ticket) (r : Reply) (G : List Entry) → d.kept ≡ c.kept
    → IsAnswered own table c t r G → IsAnswered own table d t r G
answered_of own table c d t r G same h = record {
  kept = h.kept;
  at = ap (λ (l : List AwaitedAnswer). slice_get l (t.serial - 1)) same ∙ h.at;
  client = h.client;
  serial = h.serial;
  given = h.given;
  answer = h.answer;
  within = h.within;
}

pub polls_of : (c d e : Client) (i : ℕ) (o : Option (Reply × List Entry)) (r : Reply) (G : List Entry) → o ≡ Some (r, G) → e.kept ≡ d.kept
    → Looks c d i (given_by o) → (g : Option Given) × Looks c e i g × (Some r ≡ option_map (λ (x : Given). x.reply) g)
polls_of c d e i o r G is same h = (
  given_by o,
  looks_of c d e i (given_by o) same h,
  ap (λ (p : Option (Reply × List Entry)). option_map (λ (x : Given). x.reply) (given_by p)) (sym is),
)

pub reply_of_answered : (own : ℕ) (table : List ℕ) (c d : Client) (t : Ticket) (o : Option (Reply × List Entry)) (r : Reply)
    (G H : List Entry) → o ≡ Some (r, G) → d.kept ≡ c.kept → IfSome o (λ x. IsAnswered own table c t x.0 x.1) → BeginsWith H G
    → (F : List Entry) × IsAnswered own table d t r F × BeginsWith H F
reply_of_answered own table c d t o r G H is same h b = (
  G,
  answered_of own table c d t r G same
      (subst (λ (p : Option (Reply × List Entry)). IfSome p (λ x. IsAnswered own table c t x.0 x.1)) is h),
  b,
)

-- what was answered stays an answer in every later history
pub legal_reply : (own : ℕ) (table : List ℕ) (c d : Client) (t : Ticket) (o : Option (Reply × List Entry)) (r : Reply) (G H : List Entry)
    → o ≡ Some (r, G) → submissions_by d ≡ submissions_by c → IfSome o (λ x. IsAnswered own table d t x.0 x.1) → BeginsWith H G
    → (x : Submission) × (slice_get (submissions_by c) (t.serial - 1) ≡ Some x)
    × IsAnswer own table H (submitted_of x) (reply_of r)
legal_reply own table c d t o r G H is same h b =
    let a : IsAnswered own table d t r G =
    subst (λ (p : Option (Reply × List Entry)). IfSome p (λ x. IsAnswered own table d t x.0 x.1)) is h in (
      a.kept.submission,
      ap (λ (l : List Submission). slice_get l (t.serial - 1)) (sym same) ∙ item_at d.kept (t.serial - 1) a.kept a.at,
      answer_stays own table H G (submitted_of a.kept.submission) (reply_of r) b a.answer.0,
    )

-- a notice of what is kept is one of the ticket's answer
pub noticed : {B : Type 0} (now : B → List Entry) (own : ℕ) (table : List ℕ) (c : Client) (t : Ticket) (k : AwaitedAnswer) (o : Option B)
    → slice_get c.kept (t.serial - 1) ≡ Some k
    → MatchOption o (answer_of k ≡ None)
    (λ n. (g : Given) × (now n ≡ g.history) × IsAnswerWith own table g.history (submitted_of k.submission) (reply_of g.reply)
    × IfSome (answer_of k) (λ known. known ≡ g))
    → HasNotice own table c t (option_map now o)
noticed now own table c t k None at h = record { kept = k; at = at; of_answer = h }
noticed now own table c t k (Some n) at h =
    let s : Submitted = submitted_of k.submission in
    let answer : IsAnswerWith own table (now n) s (reply_of h.0.reply) = subst (λ G. IsAnswerWith own table G s (reply_of h.0.reply))
    (sym h.1) h.2 in
    record { kept = k; at = at; of_answer = (h.0, h.1, answer, answer_within own table (now n) s (reply_of h.0.reply) answer.0, h.3) }

-- what the cell holds, as the waiting submission sees it
pub answer_found : (k : AwaitedAnswer) (a : AnswerCell) (x : Submission) → k.known ≡ Some a → k.submission ≡ x
    → answer_of k ≡ answer_in x (Some a)
answer_found k a x known is = ap (answer_in k.submission) known ∙ ap (λ (y : Submission). answer_in y (Some a)) is

-- the cell's answer is for that submission
pub answer_inside : (a : AnswerCell) (x : Submission) → is_same_submission a.submission x ≡ true → answer_in x (Some a) ≡ a.given
answer_inside a x same = ap (λ b. cond b a.given None) same

-- an answer that is legal for the same submission, in the same history
pub legal_for : (own : ℕ) (table : List ℕ) (G H : List Entry) (x y : Submission) (r : TheReply) → G ≡ H → is_same_submission x y ≡ true
    → IsAnswerWith own table G (submitted_of x) r → IsAnswerWith own table H (submitted_of y) r
legal_for own table G H x y r e same h = subst (λ (F : List Entry). IsAnswerWith own table F (submitted_of y) r) e
    (subst (λ (z : Submitted). IsAnswerWith own table G z r) (one_submission x y same) h)
