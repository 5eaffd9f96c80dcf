-- A batch of handled items, which grows at its end.
use Rattle.std.proofs.Common.{◌≡◌, ◌==◌, ℕ, zero, suc, ◌+◌, ◌-◌, ◌<◌, ◌≤◌, Bool, true, false, cond, List, [], ◌∷◌, ◌++◌, length, Some}
use Rattle.std.proofs.Common.{slice_get}
use Rattle.std.proofs.Common.{refl, sym, ap, ◌∙◌, subst, arith, append_assoc, eq-eqb}
use Rattle.std.proofs.lemmas.List.{append-nil, length-append}
use Rattle.std.proofs.lemmas.Option.{slice_get_within}
use Rattle.semantics.specs.Operations.{Delete}
use Rattle.semantics.specs.Making.{Command}
use Rattle.semantics.specs.Entries.{Entry, Own, Peer, IsAbove}
use Rattle.semantics.specs.LegalAnswer.{OfCommand, Submitted, Reply, Made, RefusedAt, KeptAt, KnownAt, LacksSerial}
use Rattle.semantics.specs.Replica.{IsRunning}
use Rattle.semantics.specs.Drain.{with_peers}
use Rattle.semantics.specs.Engine.{Handled}
use Rattle.semantics.specs.WorldHistory.{of_client}
use Rattle.semantics.specs.PeerAnswers.{IsAnswerWith, LacksRefused}
use Rattle.semantics.specs.Handling.{Handler, DrainsTo, Resumes, ResumesIf, Handles, Runs, AreFor}
use Rattle.semantics.specs.Batches.{AsksFor, ComeFrom, AreAnswers, AreTaken, items_of, IsBatch, IsResumed}
use Rattle.semantics.proofs.LastingAnswers.{answer_stays}
use Rattle.semantics.proofs.HandledAnswers.{part_to, peers_before, peers_for, handled}

-- ---- serials

-- the serials of a client in the history are of items that were taken
pub serials_below : (c : ℕ) (took : List Submitted) (G : List Entry) → ComeFrom took G → IsAbove c (suc (length (of_client c took))) G
serials_below c took [] h = tt
serials_below c took (Own client serial d s ∷ G) h = (within, serials_below c took G h.1)
  where
    within : client ≡ c → serial < suc (length (of_client c took))
    within e =
        let a : AsksFor (of_client c took) serial d = subst (λ k. AsksFor (of_client k took) serial d) e h.0 in
        let l = slice_get_within (of_client c took) (serial - 1) a.0 a.2 in
        let p : 0 < serial = a.1 in
        omega (arith, l)
serials_below c took (Peer s ∷ G) h = serials_below c took G h

pub next_above : (x : Submitted) (took : List Submitted) (G : List Entry) → ComeFrom took G
    → x.serial ≡ length (of_client x.client took) + 1 → IsAbove x.client x.serial G
next_above x took G h e = subst (λ n. IsAbove x.client n G)
    (let q : suc (length (of_client x.client took)) ≡ x.serial = omega (arith, e) in q) (serials_below x.client took G h)

of_one_more : (b : Bool) (x : Submitted) (zs xs ys : List Submitted) → zs ≡ xs ++ ys → cond b (x ∷ zs) zs ≡ cond b (x ∷ xs) xs ++ ys
of_one_more true x zs xs ys e = ap (λ (l : List Submitted). x ∷ l) e
of_one_more false x zs xs ys e = e

pub of-append : (c : ℕ) (xs ys : List Submitted) → of_client c (xs ++ ys) ≡ of_client c xs ++ of_client c ys
of-append c [] ys = refl
of-append c (x ∷ xs) ys = of_one_more (x.client == c) x (of_client c (xs ++ ys)) (of_client c xs) (of_client c ys) (of-append c xs ys)

of_itself : (x : Submitted) → of_client x.client (x ∷ []) ≡ x ∷ []
of_itself x = ap (λ b. cond b (x ∷ []) []) (eq-eqb x.client x.client refl)

-- what stands in a list stays there however the list goes on
pub get_longer : (xs ys : List Submitted) (n : ℕ) (x : Submitted) → slice_get xs n ≡ Some x → slice_get (xs ++ ys) n ≡ Some x
get_longer [] ys n x h = cc
get_longer (y ∷ xs) ys zero x h = h
get_longer (y ∷ xs) ys (suc n) x h = get_longer xs ys n x h

get_last : (xs : List Submitted) (n : ℕ) (x : Submitted) → n ≡ length xs → slice_get (xs ++ x ∷ []) n ≡ Some x
get_last [] n x e = ap (slice_get (x ∷ [])) e
get_last (y ∷ xs) zero x e = absurd (omega (arith, e))
get_last (y ∷ xs) (suc n) x e = get_last xs n x (omega (arith, e))

asks_longer : (c : ℕ) (took : List Submitted) (x : Submitted) (serial : ℕ) (d : Command) → AsksFor (of_client c took) serial d
    → AsksFor (of_client c (took ++ x ∷ [])) serial d
asks_longer c took x serial d a = (
  a.0,
  a.1,
  ap (λ (l : List Submitted). slice_get l (serial - 1)) (of-append c took (x ∷ []))
      ∙ get_longer (of_client c took) (of_client c (x ∷ [])) (serial - 1) a.0 a.2,
  a.3,
)

pub come_from_more : (took : List Submitted) (x : Submitted) (G : List Entry) → ComeFrom took G → ComeFrom (took ++ x ∷ []) G
come_from_more took x [] h = tt
come_from_more took x (Own client serial d s ∷ G) h = (asks_longer client took x serial d h.0, come_from_more took x G h.1)
come_from_more took x (Peer s ∷ G) h = come_from_more took x G h

asks_last : (took : List Submitted) (x : Submitted) (d : Command) → x.serial ≡ length (of_client x.client took) + 1
    → x.request ≡ OfCommand d → AsksFor (of_client x.client (took ++ x ∷ [])) x.serial d
asks_last took x d e is = (
  x,
  omega (arith, e),
  ap (λ (l : List Submitted). slice_get l (x.serial - 1))
      (of-append x.client took (x ∷ []) ∙ ap (λ (l : List Submitted). of_client x.client took ++ l) (of_itself x))
      ∙ get_last (of_client x.client took) (x.serial - 1) x (omega (arith, e)),
  is,
)

pub come_from_it : (took : List Submitted) (x : Submitted) (more G : List Entry) → x.serial ≡ length (of_client x.client took) + 1
    → AreFor x more → ComeFrom took G → ComeFrom (took ++ x ∷ []) (more ++ G)
come_from_it took x [] G e a h = come_from_more took x G h
come_from_it took x (Own client serial d s ∷ more) G e a h = (
  subst (λ k. AsksFor (of_client k (took ++ x ∷ [])) serial d) (sym a.0)
      (subst (λ n. AsksFor (of_client x.client (took ++ x ∷ [])) n d) (sym a.1) (asks_last took x d e a.2)),
  come_from_it took x more G e a.3 h,
)
come_from_it took x (Peer s ∷ more) G e a h = come_from_it took x more G e a h

come_from_before : (x : Submitted) (took : List Submitted) (more G : List Entry) → ((y : Submitted) → AreFor y more) → ComeFrom took G
    → ComeFrom took (more ++ G)
come_from_before x took [] G a h = h
come_from_before x took (Own client serial d s ∷ more) G a h = absurd (other (a (record x { serial = suc serial })).1)
  where
    other : serial ≡ suc serial → ⊥
    other e = omega (arith, e)
come_from_before x took (Peer s ∷ more) G a h = come_from_before x took more G a h

-- ---- the rest of a drain

pub resumed : (w v : Handler) (took : List Submitted) → IsRunning w.replica → ComeFrom took w.replica.entries → Resumes w v
    → IsResumed w took v
resumed w v took h st = by w.behind
  where
    some : Submitted
    some = record { client = 0; serial = 0; request = OfCommand (record { expression = []; mutation = Delete }); floor = 0 }

    drained : DrainsTo w.replica v.behind v.replica → IsResumed w took v
    drained d =
        let p = part_to v.behind w.replica v.replica h d in
        let e = p.entries ∙ peers_before p.appended w.replica.entries in record {
          own = p.own;
          members = p.members;
          entries = (with_peers p.appended [], e);
          running = p.running;
          come_from = subst (ComeFrom took) (sym e)
              (come_from_before some took (with_peers p.appended []) w.replica.entries (λ y. peers_for y p.appended) st);
        }

    same : v ≡ w → IsResumed w took v
    same e = subst (λ (u : Handler). IsResumed w took u) (sym e)
        (record { own = refl; members = refl; entries = ([], refl); running = h; come_from = st })

    by : (b : Bool) → ResumesIf b w v → IsResumed w took v
    by true k = drained k
    by false k = same k

-- ---- a batch

pub no_batch : (w : Handler) (took : List Submitted) → IsRunning w.replica → ComeFrom took w.replica.entries → IsBatch w took [] w
no_batch w took h st = record {
  runs = refl;
  own = refl;
  members = refl;
  running = h;
  come_from = subst (λ (l : List Submitted). ComeFrom l w.replica.entries) (sym (append-nil took)) st;
  taken = tt;
  answers = tt;
}

runs_snoc : (w u v : Handler) (hs : List Handled) (h : Handled) → Runs w hs u → Handles u h.submitted h.reply v → Runs w (hs ++ h ∷ []) v
runs_snoc w u v [] h r k = (v, subst (λ (z : Handler). Handles z h.submitted h.reply v) r k, refl)
runs_snoc w u v (g ∷ hs) h r k = (r.0, r.1, runs_snoc r.0 u v hs h r.2 k)

items-snoc : (hs : List Handled) (h : Handled) → items_of (hs ++ h ∷ []) ≡ items_of hs ++ h.submitted ∷ []
items-snoc [] h = refl
items-snoc (g ∷ hs) h = ap (λ (l : List Submitted). g.submitted ∷ l) (items-snoc hs h)

-- one more that is answered
pub answers_snoc : (p : ℕ) (ps : List ℕ) (G : List Entry) (hs : List Handled) (h : Handled) → AreAnswers p ps G hs
    → IsAnswerWith p ps G h.submitted h.reply → AreAnswers p ps G (hs ++ h ∷ [])
answers_snoc p ps G [] h a k = (k, tt)
answers_snoc p ps G (g ∷ hs) h a k = (a.0, answers_snoc p ps G hs h a.1 k)

-- what another submission adds has no entry of this serial
lacks_more : (x : Submitted) (client serial : ℕ) (more G : List Entry) → AreFor x more → (x.client ≡ client → x.serial ≡ serial → ⊥)
    → LacksSerial client serial G → LacksSerial client serial (more ++ G)
lacks_more x client serial [] G a other h = h
lacks_more x client serial (Own k n c s ∷ more) G a other h = (
  λ e f. other (sym a.0 ∙ e) (sym a.1 ∙ f),
  lacks_more x client serial more G a.3 other h,
)
lacks_more x client serial (Peer s ∷ more) G a other h = lacks_more x client serial more G a other h

refused_lacks_more : (x z : Submitted) (y : Reply) (more G : List Entry) → AreFor x more
    → (x.client ≡ z.client → x.serial ≡ z.serial → ⊥) → LacksRefused G z y → LacksRefused (more ++ G) z y
refused_lacks_more x z (Made a n) more G f other h = tt
refused_lacks_more x z (RefusedAt e m) more G f other h = lacks_more x z.client z.serial more G f other h
refused_lacks_more x z (KeptAt m) more G f other h = tt
refused_lacks_more x z (KnownAt m) more G f other h = tt

-- the answers to what was taken before x stay as x is handled
answers_stay : (p : ℕ) (ps : List ℕ) (x : Submitted) (took : List Submitted) (more G : List Entry) (hs : List Handled) → AreFor x more
    → x.serial ≡ length (of_client x.client took) + 1 → AreTaken took hs → AreAnswers p ps G hs → AreAnswers p ps (more ++ G) hs
answers_stay p ps x took more G [] f number t a = tt
answers_stay p ps x took more G (h ∷ hs) f number t a = (
  (
    answer_stays p ps (more ++ G) G h.submitted h.reply (more, refl) a.0.0,
    refused_lacks_more x h.submitted h.reply more G f other a.0.1,
  ),
  answers_stay p ps x took more G hs f number t.1 a.1,
)
  where
    other : x.client ≡ h.submitted.client → x.serial ≡ h.submitted.serial → ⊥
    other e same =
        let below : h.submitted.serial ≤ length (of_client x.client took) =
        subst (λ c. h.submitted.serial ≤ length (of_client c took)) (sym e) t.0 in
        omega (arith, number, same, below)

-- what was taken was taken, whatever is taken later
taken_longer : (took later : List Submitted) (hs : List Handled) → AreTaken took hs → AreTaken (took ++ later) hs
taken_longer took later [] t = tt
taken_longer took later (h ∷ hs) t =
    let l = ap (length {A = Submitted}) (of-append h.submitted.client took later) in
    let m = length-append (of_client h.submitted.client took) (of_client h.submitted.client later) in
    (omega (arith, l, m, t.0), taken_longer took later hs t.1)

taken_snoc : (took : List Submitted) (hs : List Handled) (h : Handled) → AreTaken took hs
    → h.submitted.serial ≤ length (of_client h.submitted.client took) → AreTaken took (hs ++ h ∷ [])
taken_snoc took [] h t l = (l, tt)
taken_snoc took (g ∷ hs) h t l = (t.0, taken_snoc took hs h t.1 l)

-- x is the one that its client has come to, once it is taken
comes_to : (took : List Submitted) (x : Submitted) → x.serial ≡ length (of_client x.client took) + 1
    → x.serial ≤ length (of_client x.client (took ++ x ∷ []))
comes_to took x number =
    let l = ap (length {A = Submitted}) (of-append x.client took (x ∷ [])) in
    let m = length-append (of_client x.client took) (of_client x.client (x ∷ [])) in
    let one = ap (length {A = Submitted}) (of_itself x) in
    omega (arith, l, m, one, number)

pub taken_items : (took : List Submitted) (hs : List Handled) (h : Handled)
    → took ++ items_of (hs ++ h ∷ []) ≡ (took ++ items_of hs) ++ h.submitted ∷ []
taken_items took hs h = ap (λ (l : List Submitted). took ++ l) (items-snoc hs h) ∙ sym (append_assoc took (items_of hs) (h.submitted ∷ []))

-- one more
pub one_more : (w u v : Handler) (took got : List Submitted) (hs : List Handled) (h : Handled) → IsBatch w took hs u
    → got ≡ took ++ items_of hs → h.submitted.serial ≡ length (of_client h.submitted.client got) + 1
    → Handles u h.submitted h.reply v → IsBatch w took (hs ++ h ∷ []) v
one_more w u v took got hs h b is number k =
    let x = h.submitted in
    let so : x.serial
    ≡ length (of_client x.client (took ++ items_of hs)) + 1 = subst
    (λ (l : List Submitted). x.serial ≡ length (of_client x.client l) + 1) is number in
    let a = handled u v x h.reply b.running (next_above x (took ++ items_of hs) u.replica.entries b.come_from so) k in
    let old : AreAnswers v.replica.own v.replica.members v.replica.entries hs =
    subst (λ p. AreAnswers p v.replica.members v.replica.entries hs) (sym a.own)
    (subst (λ ps. AreAnswers u.replica.own ps v.replica.entries hs) (sym a.members)
    (subst (λ (G : List Entry). AreAnswers u.replica.own u.replica.members G hs) (sym a.entries)
    (answers_stay u.replica.own u.replica.members x (took ++ items_of hs) a.more u.replica.entries hs a.for_it so b.taken b.answers))) in
    let all = taken_items took hs h in record {
      runs = runs_snoc w u v hs h b.runs k;
      own = a.own ∙ b.own;
      members = a.members ∙ b.members;
      running = a.running;
      come_from = subst (λ (l : List Submitted). ComeFrom l v.replica.entries) (sym all)
          (subst (ComeFrom ((took ++ items_of hs) ++ x ∷ [])) (sym a.entries)
          (come_from_it (took ++ items_of hs) x a.more u.replica.entries so a.for_it b.come_from));
      taken = subst (λ (l : List Submitted). AreTaken l (hs ++ h ∷ [])) (sym all)
          (taken_snoc ((took ++ items_of hs) ++ x ∷ []) hs h (taken_longer (took ++ items_of hs) (x ∷ []) hs b.taken)
          (comes_to (took ++ items_of hs) x so));
      answers = answers_snoc v.replica.own v.replica.members v.replica.entries hs h old a.answer;
    }
