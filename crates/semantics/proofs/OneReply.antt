-- A serial has one reply, own entries are of what was submitted, and what was refused stands nowhere in the history.
use Rattle.std.proofs.Common.{◌≡◌, ◌⊎◌, inl, inr, ℕ, ◌<◌, List, [], ◌∷◌, ◌++◌, length, Option, Some, None, refl, sym, ap, ◌∙◌, subst}
use Rattle.std.proofs.Common.{append_assoc, arith, slice_get}
use Rattle.std.proofs.lemmas.List.{map-append}
use Rattle.ids.specs.declared.refusal.Refusal.{Refusal}
use Rattle.semantics.specs.LegalHistory.{IsAmong}
use Rattle.semantics.specs.Stamped.{Stamped}
use Rattle.semantics.specs.Making.{Command}
use Rattle.semantics.specs.Entries.{Entry, Own, Peer, entry_at}
use Rattle.semantics.specs.LegalAnswer.{OfCommand, Submitted, Reply, Made, RefusedAt, LacksSerial}
use Rattle.semantics.specs.PeerAnswers.{IsAnswer}
use Rattle.semantics.specs.Engine.{Engine, Client, Cell, Given, Handled, published_entries}
use Rattle.semantics.specs.ReadSteps.{cell_under}
use Rattle.semantics.specs.Batches.{items_of}
use Rattle.semantics.specs.WorldHistory.{WasSubmitted, WasGiven, WasReplied}
use Rattle.semantics.proofs.Replies.{entry_stays}
use Rattle.semantics.proofs.OwnReplies.{newest_at}
use Rattle.semantics.proofs.Beginnings.{begins_first}
use Rattle.semantics.proofs.LastingAnswers.{good_in_longer}
use Rattle.semantics.proofs.MovedTokens.{cell_of}
use Rattle.semantics.proofs.SoundEngines.{waiting_items, IsInTurn, open_cell, IsSoundCell, IsSound}
use Rattle.semantics.proofs.ItemsInTurn.{among_cases}
use Rattle.semantics.proofs.AmongLists.{among_left}
use Rattle.semantics.proofs.WorldReplies.{made_of}
use Rattle.semantics.proofs.RepliedEntries.{AreReplied}

among_items : (hs : List Handled) (h : Handled) → IsAmong h hs → IsAmong h.submitted (items_of hs)
among_items [] h m = m
among_items (g ∷ hs) h (inl e) = inl (ap (λ (f : Handled). f.submitted) e)
among_items (g ∷ hs) h (inr m) = inr (among_items hs h m)

-- where items come in turn, no two of them have one client and serial
one_in_turn : (hs : List Handled) (more : List Submitted) → IsInTurn (items_of hs ++ more) → (g h : Handled) → IsAmong g hs → IsAmong h hs
    → g.submitted.client ≡ h.submitted.client → g.submitted.serial ≡ h.submitted.serial → g ≡ h
one_in_turn [] more t g h a b c n = absurd a
one_in_turn (f ∷ hs) more t g h (inl a) (inl b) c n = a ∙ sym b
one_in_turn (f ∷ hs) more t g h (inl a) (inr b) c n = absurd (omega (arith, l, n, ap (λ (k : Handled). k.submitted.serial) a))
  where
    l : f.submitted.serial < h.submitted.serial
    l = t.0 h.submitted (among_left (items_of hs) more h.submitted (among_items hs h b))
        (sym c ∙ ap (λ (k : Handled). k.submitted.client) a)
one_in_turn (f ∷ hs) more t g h (inr a) (inl b) c n = absurd (omega (arith, l, n, ap (λ (k : Handled). k.submitted.serial) b))
  where
    l : f.submitted.serial < g.submitted.serial
    l = t.0 g.submitted (among_left (items_of hs) more g.submitted (among_items hs g a))
        (c ∙ ap (λ (k : Handled). k.submitted.client) b)
one_in_turn (f ∷ hs) more t g h (inr a) (inr b) c n = one_in_turn hs more t.1 g h a b c n

-- a history lacks a serial that no position has
lacks : (c serial : ℕ) (G : List Entry)
    → ((m : ℕ) (d : Command) (s : Stamped) → entry_at m G ≡ Some (Own c serial d s) → ⊥) → LacksSerial c serial G
lacks c serial [] absent = tt
lacks c serial (Own k n d s ∷ G) absent = (
  λ e f. absent (length G) d s (newest_at (Own k n d s) G ∙ (λ i. Some (Own (e i) (f i) d s))),
  lacks c serial G (λ m b t w. absent m b t (entry_stays m G (Own k n d s) (Own c serial b t) w)),
)
lacks c serial (Peer s ∷ G) absent = lacks c serial G (λ m b t w. absent m b t (entry_stays m G (Peer s) (Own c serial b t) w))

module _ (E : Engine) (sound : IsSound E) (c serial : ℕ) where
  -- what waits is what was handled, and then the queue
  waiting : waiting_items E.due E.handled E.queue ≡ items_of (E.due ++ E.handled) ++ E.queue
  waiting = sym (append_assoc (items_of E.due) (items_of E.handled) E.queue)
      ∙ ap (λ (xs : List Submitted). xs ++ E.queue) (sym (map-append (λ (h : Handled). h.submitted) E.due E.handled))

  -- the cell of what was handled has no answer yet
  open_there : (h : Handled) → IsAmong h (E.due ++ E.handled) → h.submitted.client ≡ c → h.submitted.serial ≡ serial
      → cell_under E c serial ≡ Some (open_cell h.submitted)
  open_there h m e n =
      let waits = subst (IsAmong h.submitted) (sym waiting)
      (among_left (items_of (E.due ++ E.handled)) E.queue h.submitted (among_items (E.due ++ E.handled) h m)) in
      (λ i. cell_under E (sym e i) (sym n i)) ∙ sound.unanswered h.submitted waits

  -- what is answered isn't among what was handled any more
  not_both : (h : Handled) → IsAmong h (E.due ++ E.handled) → h.submitted.client ≡ c → h.submitted.serial ≡ serial
      → (g : Given) → WasGiven E c serial g → ⊥
  not_both h m e n g w =
      let there = open_there h m e n in
      let is : w.0 ≡ open_cell h.submitted = (let k = w.1 in cc) in
      let none : None ≡ Some g = sym (ap (λ (cell : Cell). cell.answer) is) ∙ w.2 in
      cc

  -- A serial has one reply.
  pub one_reply : (q r : Reply) → WasReplied E c serial q → WasReplied E c serial r → q ≡ r
  one_reply q r (inl a) (inl b) =
      let same : a.1.0 ≡ b.1.0 = (let k = a.1.1 in let l = b.1.1 in cc) in
      let some : Some a.0 ≡ Some b.0 = sym a.1.2 ∙ ap (λ (cell : Cell). cell.answer) same ∙ b.1.2 in
      let is : a.0 ≡ b.0 = cc in
      sym a.2 ∙ ap (λ (g : Given). g.reply) is ∙ b.2
  one_reply q r (inl a) (inr b) = absurd (not_both b.0 b.1 b.2 b.3 a.0 a.1)
  one_reply q r (inr a) (inl b) = absurd (not_both a.0 a.1 a.2 a.3 b.0 b.1)
  one_reply q r (inr a) (inr b) =
      let is : a.0 ≡ b.0 = one_in_turn (E.due ++ E.handled) E.queue (subst IsInTurn waiting sound.turns) a.0 b.0 a.1 b.1
      (a.2 ∙ sym b.2) (a.3 ∙ sym b.3) in
      sym a.4 ∙ ap (λ (h : Handled). h.reply) is ∙ b.4

  sound_cell : (cell : Cell) → cell_under E c serial ≡ Some cell
      → IsSoundCell E.replica.own E.replica.members E.replica.entries E.published c serial cell
  sound_cell cell w = at_client (slice_get E.clients c) refl
    where
      at_client : (o : Option Client) → slice_get E.clients c ≡ o
          → IsSoundCell E.replica.own E.replica.members E.replica.entries E.published c serial cell
      at_client None e = (let none : None ≡ Some cell = sym (ap (cell_of serial) e) ∙ w in cc)
      at_client (Some k) e = (sound.clients c k e).cells serial cell (sym (ap (cell_of serial) e) ∙ w)

  -- what was replied to: it was submitted under that serial, and the reply is legal in the history
  abbrev IsLegallyReplied : Reply → Type 0
  IsLegallyReplied r = (x : Submitted) × WasSubmitted E c serial x × (x.client ≡ c) × (x.serial ≡ serial)
      × IsAnswer E.replica.own E.replica.members E.replica.entries x r

  legally_replied : (r : Reply) → WasReplied E c serial r → IsLegallyReplied r
  legally_replied r (inl w) =
      let cell : Cell = w.1.0 in
      let s = sound_cell cell w.1.1 in
      let good = good_in_longer E.replica.own E.replica.members E.replica.entries (published_entries E) cell.submitted w.0.reply
      (begins_first E.published E.replica.entries) (s.given w.0 w.1.2).1 in (
        cell.submitted,
        (cell, w.1.1, refl),
        s.client,
        s.serial,
        subst (IsAnswer E.replica.own E.replica.members E.replica.entries cell.submitted) w.2 good.0,
      )
  legally_replied r (inr w) = (
    w.0.submitted,
    (open_cell w.0.submitted, open_there w.0 w.1 w.2 w.3, refl),
    w.2,
    w.3,
    subst (IsAnswer E.replica.own E.replica.members E.replica.entries w.0.submitted) w.4 (legal (among_cases E.due E.handled w.0 w.1)),
  )
    where
      legal : (IsAmong w.0 E.due ⊎ IsAmong w.0 E.handled)
          → IsAnswer E.replica.own E.replica.members E.replica.entries w.0.submitted w.0.reply
      legal (inl m) = (good_in_longer E.replica.own E.replica.members E.replica.entries (published_entries E) w.0.submitted w.0.reply
          (begins_first E.published E.replica.entries) (sound.due w.0 m)).0
      legal (inr m) = (sound.handled w.0 m).0

  module _ (replied : AreReplied E) where
    -- An own entry is of the command that was submitted under its serial, and was replied Made.
    pub entry_submitted : (m : ℕ) (d : Command) (s : Stamped) → entry_at m E.replica.entries ≡ Some (Own c serial d s)
        → (x : Submitted) × WasSubmitted E c serial x × (x.request ≡ OfCommand d) × WasReplied E c serial (Made s.id m)
    entry_submitted m d s e =
        let reply = replied m c serial d s e in
        let x = legally_replied (Made s.id m) reply in
        let own = made_of E.replica.own E.replica.members E.replica.entries x.0 s.id m x.4 in
        let there = own.3 in
        let same : own.0 ≡ d = cc in
        (x.0, x.1, own.2 ∙ ap OfCommand same, reply)

    -- What was refused stands nowhere in the history.
    pub refused_nowhere : (why : Refusal) (n : ℕ) → WasReplied E c serial (RefusedAt why n) → LacksSerial c serial E.replica.entries
    refused_nowhere why n w = lacks c serial E.replica.entries
        (λ m d s e. no m s (one_reply (RefusedAt why n) (Made s.id m) w (replied m c serial d s e)))
      where
        no : (m : ℕ) (s : Stamped) → RefusedAt why n ≡ Made s.id m → ⊥
        no m s q = cc
