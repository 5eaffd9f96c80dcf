-- An engine stays sound when a token sees more of what is published: at a poll and at a question.
use Rattle.std.proofs.Common.{◌≡◌, inl, ℕ, zero, suc, ◌-◌, ◌≤◌, max, List, [], ◌∷◌, length, get_or, Option, Some, None, refl, ap, arith}
use Rattle.std.proofs.Common.{slice_get, slice_set}
use Rattle.std.proofs.Math.Nat.{le-max_left, max-le}
use Rattle.semantics.specs.LegalAnswer.{Asked}
use Rattle.semantics.specs.Engine.{Engine, Client, Cell, Given}
use Rattle.semantics.specs.ReadSteps.{cell_at, seen_by, poll_cell, poll, see, see_published, ask, learn}
use Rattle.semantics.proofs.GrownEngines.{grown_refl, grown_trans}
use Rattle.semantics.proofs.MovedTokens.{with_client, with_reader, grown_by_client, grown_by_reader}
use Rattle.semantics.proofs.SoundEngines.{IsSoundCell, IsSoundClient, IsSound, IsLater}
use Rattle.semantics.proofs.SoundClients.{cell_moved, sound_by_client}

pub later_trans : (E F G : Engine) → IsLater E F → IsLater F G → IsLater E G
later_trans E F G f g = record { sound = g.sound; grown = grown_trans E F G f.grown g.grown }

pub later_refl : (E : Engine) → IsSound E → IsLater E E
later_refl E s = record { sound = s; grown = grown_refl E }

-- a client sees
client_sees : (E : Engine) (c : ℕ) (k : Client) (m : ℕ) → IsSound E → slice_get E.clients c ≡ Some k → k.seen ≤ m → m ≤ E.published
    → IsLater E (with_client E E.queue E.due c (record k { seen = m }))
client_sees E c k m s h l u = record {
  sound = sound_by_client E E.queue E.due c k (record k { seen = m }) s h seen_more s.turns
      (λ x w. cell_moved E E.queue E.due c k (record k { seen = m }) h x.client x.serial (record { submitted = x; answer = None })
      (s.unanswered x w) (λ e q. q))
      s.queued s.due;
  grown = grown_by_client E E.queue E.due c k (record k { seen = m }) h (record { seen = l; cells = λ n cell q. (cell, q, refl, λ g w. w) })
      (λ x n. inl n);
}
  where
    seen_more : IsSoundClient E.replica.own E.replica.members E.replica.entries E.published c (record k { seen = m })
    seen_more = record { seen = u; above = (s.clients c k h).above; cells = (s.clients c k h).cells }

-- A poll keeps an engine sound.
pub polled : (E : Engine) (c serial : ℕ) → IsSound E → IsLater E (poll E c serial).engine
polled E c serial s = at_client (slice_get E.clients c) refl
  where
    -- it has then seen what was published with the answer
    at_seen : (k : Client) → slice_get E.clients c ≡ Some k → (g : Given) → g.published ≤ E.published
        → IsLater E (with_client E E.queue E.due c (record k { seen = max k.seen g.published }))
    at_seen k h g l = client_sees E c k (max k.seen g.published) s h (le-max_left k.seen g.published) (max-le (s.clients c k h).seen l)

    at_answer : (k : Client) → slice_get E.clients c ≡ Some k → (cell : Cell)
        → IsSoundCell E.replica.own E.replica.members E.replica.entries E.published c serial cell → (o : Option Given) → cell.answer ≡ o
        → IsLater E (poll_cell E c k (Some cell)).engine
    at_answer k h cell w None e = rw e (later_refl E s)
    at_answer k h cell w (Some g) e = rw e (at_seen k h g (w.given g e).0)

    at_cell : (k : Client) → slice_get E.clients c ≡ Some k → (o : Option Cell) → cell_at k.cells serial ≡ o
        → IsLater E (poll_cell E c k o).engine
    at_cell k h None e = later_refl E s
    at_cell k h (Some cell) e = at_answer k h cell ((s.clients c k h).cells serial cell e) cell.answer refl

    at_client : (o : Option Client) → slice_get E.clients c ≡ o → IsLater E (poll E c serial).engine
    at_client None e = rw e (later_refl E s)
    at_client (Some k) e = rw e (at_cell k e (cell_at k.cells serial) refl)

-- a reader sees
reader_sees : (E : Engine) (i m : ℕ) → IsSound E → get_or E.readers i 0 ≤ m → m ≤ E.published → IsLater E (with_reader E i m)
reader_sees E i m s l u = record {
  sound = record {
    running = s.running;
    published = s.published;
    readers = λ j. below E.readers i j m E.published u s.readers;
    clients = s.clients;
    turns = s.turns;
    unanswered = s.unanswered;
    queued = s.queued;
    handled = s.handled;
    due = s.due;
  };
  grown = grown_by_reader E i m l;
}
  where
    below : (seen : List ℕ) (i j m top : ℕ) → m ≤ top → ((n : ℕ) → get_or seen n 0 ≤ top) → get_or (slice_set seen i m) j 0 ≤ top
    below [] i j m top u h = omega arith
    below (n ∷ seen) zero zero m top u h = u
    below (n ∷ seen) zero (suc j) m top u h = h (suc j)
    below (n ∷ seen) (suc i) zero m top u h = h 0
    below (n ∷ seen) (suc i) (suc j) m top u h = below seen i j m top u (λ q. h (suc q))

-- what a token has seen, by its client where it is one
abbrev seen_at : List ℕ → ℕ → Option Client → ℕ
seen_at readers i (Some k) = k.seen
seen_at readers i None = get_or readers i 0

-- A token that sees more of what is published keeps an engine sound.
pub seen : (E : Engine) (t m : ℕ) → IsSound E → seen_by E t ≤ m → m ≤ E.published → IsLater E (see E t m)
seen E t m s l u = at_client (slice_get E.clients t) refl
  where
    at_client : (o : Option Client) → slice_get E.clients t ≡ o → IsLater E (see E t m)
    at_client None e = rw e
        (reader_sees E (t - length E.clients) m s
        (let was : seen_by E t ≡ get_or E.readers (t - length E.clients) 0 = ap (seen_at E.readers (t - length E.clients)) e in
        omega (arith, was, l)) u)
    at_client (Some k) e = rw e
        (client_sees E t k m s e
        (let was : seen_by E t ≡ k.seen = ap (seen_at E.readers (t - length E.clients)) e in omega (arith, was, l)) u)

-- no token has seen more than what is published
pub seen_within : (E : Engine) → IsSound E → (t : ℕ) → seen_by E t ≤ E.published
seen_within E s t = at_client (slice_get E.clients t) refl
  where
    at_client : (o : Option Client) → slice_get E.clients t ≡ o → seen_by E t ≤ E.published
    at_client None e = rw e (s.readers (t - length E.clients))
    at_client (Some k) e = rw e (s.clients t k e).seen

pub seen_all : (E : Engine) (t : ℕ) → IsSound E → IsLater E (see_published E t)
seen_all E t s = seen E t E.published s (seen_within E s t) (omega arith)

-- A question keeps an engine sound.
pub asked : (E : Engine) (t : ℕ) (q : Asked) → IsSound E → IsLater E (ask E t q).engine
asked E t q s = seen_all E t s

-- Learning of an answer keeps an engine sound.
pub learned : (E : Engine) (t c serial : ℕ) → IsSound E → IsLater E (learn E t c serial).engine
learned E t c serial s = at_client (slice_get E.clients c) refl
  where
    at_given : (g : Given) → g.published ≤ E.published → IsLater E (see E t (max (seen_by E t) g.published))
    at_given g l = seen E t (max (seen_by E t) g.published) s (le-max_left (seen_by E t) g.published) (max-le (seen_within E s t) l)

    at_answer : (k : Client) → slice_get E.clients c ≡ Some k → (cell : Cell) → cell_at k.cells serial ≡ Some cell
        → IsSoundCell E.replica.own E.replica.members E.replica.entries E.published c serial cell
        → (o : Option Given) → cell.answer ≡ o → IsLater E (learn E t c serial).engine
    at_answer k e cell f w None q = rw (e, f, q) (later_refl E s)
    at_answer k e cell f w (Some g) q = rw (e, f, q) (at_given g (w.given g q).0)

    at_cell : (k : Client) → slice_get E.clients c ≡ Some k → (o : Option Cell) → cell_at k.cells serial ≡ o
        → IsLater E (learn E t c serial).engine
    at_cell k e None f = rw (e, f) (later_refl E s)
    at_cell k e (Some cell) f = at_answer k e cell f ((s.clients c k e).cells serial cell f) cell.answer refl

    at_client : (o : Option Client) → slice_get E.clients c ≡ o → IsLater E (learn E t c serial).engine
    at_client None e = rw e (later_refl E s)
    at_client (Some k) e = at_cell k e (cell_at k.cells serial) refl
