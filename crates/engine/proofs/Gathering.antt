-- How an engine's clients end, one after another.
use Rattle.std.proofs.Common.{◌≡◌, ℕ, zero, suc, ◌+◌, Some, List, [], ◌∷◌, ◌++◌, length, map, slice_get, sym, refl, ap, ◌∙◌, subst}
use Rattle.std.proofs.Common.{append_assoc, arith}
use Rattle.std.proofs.lemmas.List.{append-nil}
use Rattle.std.proofs.lemmas.Option.{slice_get-map}
use Rattle.std.specs.Prelude.{⊤}
use Rattle.std.specs.Option.{option_map}
use Rattle.semantics.specs.Entries.{Entry}
use Rattle.semantics.specs.WorldHistory.{BeginsWith}
use Rattle.replica.specs.operation.declared.submission.Submission.{Submission}
use Rattle.engine.specs.Clients.{Client, submissions_by, AreNumbered}

-- the history begins with what each of them had seen
abbrev pub AllBegin : List Entry → List Client → Type 0
AllBegin G [] = ⊤
AllBegin G (c ∷ cs) = BeginsWith G c.seen × AllBegin G cs

-- which client it is, and what it submitted
abbrev pub sent_by : Client → ℕ × List Submission
sent_by c = (c.number, submissions_by c)

pub record Gathering (all done rest : List Client) (known : List (ℕ × List Submission)) (G : List Entry) : Type 0 where
  pub whole : done ++ rest ≡ all
  pub items : known ≡ map sent_by done
  pub begin : AllBegin G done

pub gathering_none : (all rest : List Client) (known : List (ℕ × List Submission)) (G : List Entry) → rest ≡ all → known ≡ []
    → Gathering all [] rest known G
gathering_none all rest known G same none = record { whole = same; items = none; begin = tt }

map-snoc : (cs : List Client) (c : Client) → map sent_by (cs ++ c ∷ []) ≡ map sent_by cs ++ sent_by c ∷ []
map-snoc [] c = refl
map-snoc (x ∷ cs) c = ap (λ (l : List (ℕ × List Submission)). sent_by x ∷ l) (map-snoc cs c)

begin-snoc : (G : List Entry) (cs : List Client) (c : Client) → AllBegin G cs → BeginsWith G c.seen → AllBegin G (cs ++ c ∷ [])
begin-snoc G [] c h p = (p, tt)
begin-snoc G (x ∷ cs) c h p = (h.0, begin-snoc G cs c h.1 p)

pub gathering_more : (all done rest next : List Client) (c : Client) (known known' : List (ℕ × List Submission)) (G N : List Entry)
    → Gathering all done rest known G → rest ≡ c ∷ next → known' ≡ known ++ sent_by c ∷ [] → BeginsWith N c.seen → N ≡ G
    → Gathering all (done ++ c ∷ []) next known' G
gathering_more all done rest next c known known' G N h is now p n = record {
  whole = append_assoc done (c ∷ []) next ∙ (ap (λ (l : List Client). done ++ l) (sym is) ∙ h.whole);
  items = now ∙ (ap (λ (l : List (ℕ × List Submission)). l ++ sent_by c ∷ []) h.items ∙ sym (map-snoc done c));
  begin = begin-snoc G done c h.begin (subst (λ (l : List Entry). BeginsWith l c.seen) n p);
}

pub gathered : (all done rest : List Client) (known : List (ℕ × List Submission)) (G : List Entry)
    → Gathering all done rest known G → length rest ≡ 0 → done ≡ all
gathered all done [] known G h e = sym (append-nil done) ∙ h.whole
gathered all done (c ∷ rest) known G h e = absurd (omega arith)

begin_at : (G : List Entry) (cs : List Client) (k : ℕ) (c : Client) → AllBegin G cs → slice_get cs k ≡ Some c → BeginsWith G c.seen
begin_at G [] k c h at = absurd cc
begin_at G (x ∷ cs) zero c h at = let is : x ≡ c = cc in subst (λ (z : Client). BeginsWith G z.seen) is h.0
begin_at G (x ∷ cs) (suc k) c h at = begin_at G cs k c h.1 at

pub gathered_seen : (all done rest : List Client) (known : List (ℕ × List Submission)) (G H : List Entry)
    → Gathering all done rest known G → length rest ≡ 0 → H ≡ G → (k : ℕ) (c : Client) → slice_get all k ≡ Some c
    → BeginsWith H c.seen
gathered_seen all done rest known G H h e is k c at = subst (λ (l : List Entry). BeginsWith l c.seen) (sym is)
    (begin_at G all k c (subst (λ (l : List Client). AllBegin G l) (gathered all done rest known G h e) h.begin) at)

pub known_at : (all done rest : List Client) (known : List (ℕ × List Submission)) (G : List Entry)
    → Gathering all done rest known G → length rest ≡ 0 → (k : ℕ) (c : Client) → slice_get all k ≡ Some c
    → slice_get known k ≡ Some (sent_by c)
known_at all done rest known G h e k c at =
    ap (λ (l : List (ℕ × List Submission)). slice_get l k) (h.items ∙ ap (map sent_by) (gathered all done rest known G h e))
    ∙ (slice_get-map sent_by all k ∙ ap (option_map sent_by) at)

pub numbered_snoc : (n k : ℕ) (cs all : List Client) (c : Client) → all ≡ cs ++ c ∷ [] → AreNumbered n cs → length cs ≡ k
    → c.number ≡ n + k → AreNumbered n all
numbered_snoc n k cs all c is h len number = subst (AreNumbered n) (sym is) (snoc n cs h (omega (arith, number, len)))
  where
    snoc : (n : ℕ) (cs : List Client) → AreNumbered n cs → c.number ≡ n + length cs → AreNumbered n (cs ++ c ∷ [])
    snoc n [] h e = (omega (arith, e), tt)
    snoc n (x ∷ cs) h e = (h.0, snoc (n + 1) cs h.1 (omega (arith, e)))
