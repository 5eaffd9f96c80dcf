-- A client after it has sent.
use Rattle.std.proofs.Common.{◌≡◌, ℕ, ◌+◌, ◌++◌, None, List, [], ◌∷◌, length, map, ap, ◌∙◌, subst, sym, refl, arith}
use Rattle.std.proofs.lemmas.List.{length-map, map-append}
use Rattle.replica.specs.operation.declared.submission.Submission.{Submission}
use Rattle.replica.specs.operation.declared.submission.Request.{Request}
use Rattle.engine.specs.Clients.{AreBy, AwaitedAnswer, Client}
use Rattle.engine.proofs.Asking.{by_snoc}

-- the submission of the next serial
abbrev pub next_submission : Client → Request → Submission
next_submission c r = record { client = c.number; serial = length c.kept + 1; floor = length c.seen; request = r }

pub as_next : (c : Client) (n s f : ℕ) (r : Request) → n ≡ c.number → s ≡ length c.kept + 1 → f ≡ length c.seen → (x : Submission)
    → x ≡ record { client = n; serial = s; floor = f; request = r } → x ≡ next_submission c r
as_next c n s f r en es ef x is = cc

pub keeps_next : (k : AwaitedAnswer) (x : Submission) → k.submission ≡ x → k.known ≡ None → k ≡ record { submission = x; known = None }
keeps_next k x submission known = let whole : k ≡ record { submission = k.submission; known = k.known } = refl in cc

pub sent_one : (c d : Client) (ks : List AwaitedAnswer) (k l : AwaitedAnswer) → d.replica ≡ c.replica → d.number ≡ c.number
    → d.serials ≡ c.serials → d.capacity ≡ c.capacity → d.found_full ≡ c.found_full → d.seen ≡ c.seen → d.read ≡ c.read → d.reads ≡ c.reads
    → d.kept ≡ ks ++ k ∷ [] → ks ≡ c.kept → k ≡ l → d ≡ record c { kept = c.kept ++ l ∷ [] }
sent_one c d ks k l replica number serials capacity full seen read reads kept before same =
    let whole : d
    ≡ record {
      replica = d.replica;
      number = d.number;
      serials = d.serials;
      capacity = d.capacity;
      found_full = d.found_full;
      seen = d.seen;
      read = d.read;
      reads = d.reads;
      kept = d.kept;
    } = refl in
    cc

-- what is kept of them
abbrev kept_submissions : List AwaitedAnswer → List Submission
kept_submissions kept = map (λ (z : AwaitedAnswer). z.submission) kept

-- what the queue knows of the client, and what the client knows of its own, once it has sent
pub sent_more : (number : ℕ) (put now : List Submission) (before kept after : List AwaitedAnswer) (k : AwaitedAnswer) (x : Submission)
    → put ≡ kept_submissions before → AreBy number 1 (kept_submissions before) → kept ≡ before → after ≡ kept ++ k ∷ []
    → k.submission ≡ x → now ≡ put ++ x ∷ [] → x.client ≡ number → x.serial ≡ length before + 1
    → (now ≡ kept_submissions after) × AreBy number 1 (kept_submissions after)
sent_more number put now before kept after k x is by same more of sent client serial =
    let all : kept_submissions after ≡ kept_submissions before ++ x ∷ [] =
    ap kept_submissions (more ∙ ap (λ (l : List AwaitedAnswer). l ++ k ∷ []) same)
    ∙ map-append (λ (z : AwaitedAnswer). z.submission) before (k ∷ [])
    ∙ ap (λ (z : Submission). kept_submissions before ++ z ∷ []) of in
    let count = length-map before (λ (z : AwaitedAnswer). z.submission) in (
      sent ∙ ap (λ (l : List Submission). l ++ x ∷ []) is ∙ sym all,
      subst (AreBy number 1) (sym all) (by_snoc number 1 (kept_submissions before) x by client (omega (arith, serial, count))),
    )
