-- What a token has seen after it read.
use Rattle.std.proofs.Common.{◌≡◌, inl, inr, ℕ, ◌+◌, ◌-◌, ◌<◌, ◌≤◌, max, List, length, Option, Some, None, refl, sym, ap}
use Rattle.std.proofs.Common.{◌∙◌, arith, slice_get, slice_set, get_or-set_same}
use Rattle.std.proofs.Math.Nat.{le-max_right}
use Rattle.std.proofs.lemmas.Option.{slice_get_cases, none-some}
use Rattle.semantics.specs.LegalAnswer.{Asked}
use Rattle.semantics.specs.Engine.{Engine, Client, Given, Message, Hello, Bundle, SentBundle}
use Rattle.semantics.specs.ReadSteps.{cell_at, poll, see, ask, learn, seen_by}
use Rattle.semantics.specs.PeerSteps.{say_hello, answer_hello}
use Rattle.semantics.specs.WorldHistory.{WasGiven}
use Rattle.semantics.proofs.SetElements.{get-set_same}
use Rattle.semantics.proofs.MovedTokens.{cell_of}

past : {X : Type 0} (xs : List X) (i : ℕ) → slice_get xs i ≡ None → length xs ≤ i
past xs i e = elim (slice_get_cases xs i).1 [ inl x ↦ absurd (none-some x.0 (sym e ∙ x.2)) | inr o ↦ o.0 ]

-- a token of the engine that is shown m entries has then seen m
sees : (E : Engine) (t m : ℕ) → t < length E.clients + length E.readers → seen_by (see E t m) t ≡ m
sees E t m within = at_client (slice_get E.clients t) refl
  where
    at_client : (o : Option Client) → slice_get E.clients t ≡ o → seen_by (see E t m) t ≡ m
    at_client None e =
        let over : length E.clients ≤ t = past E.clients t e in
        rw (e, e) (get_or-set_same E.readers (t - length E.clients) m 0 (omega arith))
    at_client (Some k) e =
        let there : slice_get (slice_set E.clients t (record k { seen = m })) t
        ≡ Some (record k { seen = m }) = get-set_same E.clients t k (record k { seen = m }) e in
        rw (e, there) refl

pub token_asked : (E : Engine) (t : ℕ) (q : Asked) → t < length E.clients + length E.readers → seen_by (ask E t q).engine t ≡ E.published
token_asked E t q within = sees E t E.published within

pub token_greeted : (E : Engine) (t k : ℕ) → t < length E.clients + length E.readers → seen_by (say_hello E t k).engine t ≡ E.published
token_greeted E t k within = sees E t E.published within

pub token_answered : (E : Engine) (t k j n : ℕ) (m : Option Message) → t < length E.clients + length E.readers
    → (answer_hello E t k m).reply ≡ SentBundle j n → seen_by (answer_hello E t k m).engine t ≡ E.published
token_answered E t k j n None within h = cc
token_answered E t k j n (Some (Bundle ss)) within h = cc
token_answered E t k j n (Some (Hello v)) within h = sees E t E.published within

pub client_polled : (E : Engine) (c serial : ℕ) (g : Given) → WasGiven E c serial g → g.published ≤ seen_by (poll E c serial).engine c
client_polled E c serial g (cell, there, given) = at_client (slice_get E.clients c) refl
  where
    at_client : (o : Option Client) → slice_get E.clients c ≡ o → g.published ≤ seen_by (poll E c serial).engine c
    at_client None e = absurd (none-some cell (sym (ap (cell_of serial) e) ∙ there))
    at_client (Some k) e =
        let found : cell_at k.cells serial ≡ Some cell = sym (ap (cell_of serial) e) ∙ there in
        let seen : slice_get (slice_set E.clients c (record k { seen = max k.seen g.published })) c
        ≡ Some (record k { seen = max k.seen g.published }) = get-set_same E.clients c k
        (record k { seen = max k.seen g.published }) e in
        rw (e, found, given, seen) (le-max_right k.seen g.published)

pub token_learnt : (E : Engine) (t c serial : ℕ) (g : Given) → t < length E.clients + length E.readers → WasGiven E c serial g
    → g.published ≤ seen_by (learn E t c serial).engine t
token_learnt E t c serial g within (cell, there, given) =
    let seen : seen_by (see E t (max (seen_by E t) g.published)) t
    ≡ max (seen_by E t) g.published = sees E t (max (seen_by E t) g.published) within in
    rw (there, given, seen) (le-max_right (seen_by E t) g.published)
