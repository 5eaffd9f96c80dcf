-- What polls and questions reply in a run of a world.
use Rattle.std.proofs.Common.{◌≡◌, ℕ, List, length, Option, Some, None, refl, sym, ap, ◌∙◌, subst, slice_get}
use Rattle.semantics.specs.Ids.{OpId}
use Rattle.semantics.specs.LegalHistory.{IsLegal}
use Rattle.semantics.specs.Questions.{Question}
use Rattle.semantics.specs.DocumentAnswer.{document_answer}
use Rattle.semantics.specs.View.{view}
use Rattle.semantics.specs.Stamped.{Stamped}
use Rattle.semantics.specs.Making.{Command}
use Rattle.semantics.specs.Entries.{Entry, Own, applied, stamped_entries, entry_at, first_entries}
use Rattle.semantics.specs.LegalAnswer.{Request, OfCommand, OfPeer, Submitted, Reply, Made, Asked, OfDocument, Reading, Answered}
use Rattle.semantics.specs.LegalAnswer.{IsLegalAnswer, reading_of}
use Rattle.semantics.specs.PeerAnswers.{IsAnswer}
use Rattle.semantics.specs.Engine.{Engine, Client, Cell, Given, Replied, Read, published_entries}
use Rattle.semantics.specs.ReadSteps.{cell_at, poll_cell, poll, ask, seen_by}
use Rattle.semantics.specs.WorldHistory.{BeginsWith, WasSubmitted, IsNotBelow}
use Rattle.semantics.proofs.NamedOperations.{legal}
use Rattle.semantics.proofs.EntryHistories.{entries_legal}
use Rattle.semantics.proofs.DocumentIsView.{document_is_view}
use Rattle.semantics.proofs.Replies.{serial_once}
use Rattle.semantics.proofs.Beginnings.{length-first, first_begins_first, begins_first, first_history, entry_in_longer}
use Rattle.semantics.proofs.MovedTokens.{cell_of}
use Rattle.semantics.proofs.SoundEngines.{IsSoundCell, IsSound}
use Rattle.semantics.proofs.SoundSeeing.{seen_within}

-- ---- polls

-- a cell that a poll replies from: its answer is the reply
pub record RepliedFrom (E : Engine) (c serial : ℕ) (r : Reply) : Type 0 where
  pub client : Client
  pub cell : Cell
  pub given : Given
  pub is_client : slice_get E.clients c ≡ Some client
  pub is_cell : cell_at client.cells serial ≡ Some cell
  pub is_given : cell.answer ≡ Some given
  pub is_reply : given.reply ≡ r

replied_from : (E : Engine) (c serial : ℕ) (r : Reply) → (poll E c serial).reply ≡ Replied r → RepliedFrom E c serial r
replied_from E c serial r h = at_client (slice_get E.clients c) refl h
  where
    at_answer : (k : Client) → slice_get E.clients c ≡ Some k → (cell : Cell) → cell_at k.cells serial ≡ Some cell → (o : Option Given)
        → cell.answer ≡ o → (poll_cell E c k (Some cell)).reply ≡ Replied r → RepliedFrom E c serial r
    at_answer k e cell f None q w = (let z = rw q at w in cc)
    at_answer k e cell f
        (Some g) q w = record {
          client = k;
          cell = cell;
          given = g;
          is_client = e;
          is_cell = f;
          is_given = q;
          is_reply = (let z = rw q at w in cc);
        }

    at_cell : (k : Client) → slice_get E.clients c ≡ Some k → (o : Option Cell) → cell_at k.cells serial ≡ o
        → (poll_cell E c k o).reply ≡ Replied r → RepliedFrom E c serial r
    at_cell k e None f w = cc
    at_cell k e (Some cell) f w = at_answer k e cell f cell.answer refl w

    at_client : (o : Option Client) → slice_get E.clients c ≡ o → (poll E c serial).reply ≡ Replied r → RepliedFrom E c serial r
    at_client None e w = (let z = rw e at w in cc)
    at_client (Some k) e w = at_cell k e (cell_at k.cells serial) refl (rw e at w)

pub poll_legal : (E : Engine) → IsSound E → (c serial : ℕ) (r : Reply) → (poll E c serial).reply ≡ Replied r
    → (x : Submitted) × WasSubmitted E c serial x × (x.client ≡ c) × (x.serial ≡ serial)
    × IsAnswer E.replica.own E.replica.members (published_entries E) x r × IsNotBelow x.floor r
poll_legal E s c serial r h =
    let from = replied_from E c serial r h in
    let sound : IsSoundCell E.replica.own E.replica.members E.replica.entries E.published c serial from.cell =
    (s.clients c from.client from.is_client).cells serial from.cell from.is_cell in
    let good = subst
    (λ (q : Reply). IsAnswer E.replica.own E.replica.members (published_entries E) from.cell.submitted q
    × IsNotBelow from.cell.submitted.floor q) from.is_reply
    (sound.given from.given from.is_given).1 in (
      from.cell.submitted,
      (from.cell, ap (cell_of serial) from.is_client ∙ from.is_cell, refl),
      sound.client,
      sound.serial,
      good.0,
      good.1,
    )

-- what stands under a serial is one item
submitted_once : (E : Engine) (c serial : ℕ) (x y : Submitted) → WasSubmitted E c serial x → WasSubmitted E c serial y → x ≡ y
submitted_once E c serial x y h k =
    let first = h.1 in
    let second = k.1 in
    let same : h.0 ≡ k.0 = cc in
    sym h.2 ∙ ap (λ (cell : Cell). cell.submitted) same ∙ k.2

-- only a command is answered Made
pub made_of : (p : ℕ) (ps : List ℕ) (G : List Entry) (x : Submitted) (a : OpId) (n : ℕ) → IsAnswer p ps G x (Made a n)
    → (c : Command) × (s : Stamped) × (x.request ≡ OfCommand c) × (entry_at n G ≡ Some (Own x.client x.serial c s)) × (s.id ≡ a)
made_of p ps G x a n h = of_request x.request refl h
  where
    of_request : (q : Request) → x.request ≡ q → IsAnswer p ps G x (Made a n)
        → (c : Command) × (s : Stamped) × (x.request ≡ OfCommand c) × (entry_at n G ≡ Some (Own x.client x.serial c s)) × (s.id ≡ a)
    of_request (OfCommand c) is w = (let l = rw is at w in let m : IsLegalAnswer p G x c (Made a n) = l.0 in (c, m.0, is, m.1, m.2))
    of_request (OfPeer s) is w = (let n : ⊥ = rw is at w in absurd n)

pub made_once : (E : Engine) → IsSound E → (c serial : ℕ) (x : Submitted) (a : OpId) (n : ℕ) → WasSubmitted E c serial x
    → (poll E c serial).reply ≡ Replied (Made a n)
    → (command : Command) × (s : Stamped) × (x.request ≡ OfCommand command)
    × (entry_at n (published_entries E) ≡ Some (Own c serial command s)) × (s.id ≡ a)
    × ((m : ℕ) (other : Command) (t : Stamped) → entry_at m E.replica.entries ≡ Some (Own c serial other t) → m ≡ n)
made_once E s c serial x a n w h =
    let p = poll_legal E s c serial (Made a n) h in
    let same : p.0 ≡ x = submitted_once E c serial p.0 x p.1 w in
    let m = made_of E.replica.own E.replica.members (published_entries E) p.0 a n p.4 in
    let there : entry_at n (published_entries E) ≡ Some (Own c serial m.0 m.1) = m.3 ∙ (λ i. Some (Own (p.2 i) (p.3 i) m.0 m.1)) in
    let rest = begins_first E.published E.replica.entries in
    let there_in_all : entry_at n E.replica.entries ≡ Some (Own c serial m.0 m.1) = ap (entry_at n) rest.1
    ∙ entry_in_longer n rest.0 (published_entries E) (Own c serial m.0 m.1) there in (
      m.0,
      m.1,
      ap (λ (y : Submitted). y.request) (sym same) ∙ m.2,
      there,
      m.4,
      λ i other t e. serial_once E.replica.own E.replica.entries c serial i n other m.0 t m.1 s.running.history e there_in_all,
    )

-- ---- questions

pub reading_published : (E : Engine) → IsSound E → (t : ℕ) (q : Asked) (n : ℕ) (R : Reading) → (ask E t q).reply ≡ Read n R
    → (n ≡ length (published_entries E)) × (R ≡ reading_of (published_entries E) q)
    × BeginsWith (published_entries E) (first_entries (seen_by E t) E.replica.entries)
reading_published E s t q n R h = (
  (let is : E.published ≡ n = cc in sym is ∙ sym (length-first E.published E.replica.entries s.published)),
  (let is : reading_of (published_entries E) q ≡ R = cc in sym is),
  first_begins_first (seen_by E t) E.published E.replica.entries (seen_within E s t),
)

pub reading_viewed : (E : Engine) → IsSound E → (t : ℕ) (q : Question) (n : ℕ) (R : Reading) → (ask E t (OfDocument q)).reply ≡ Read n R
    → R ≡ Answered (view (applied (published_entries E)) q)
reading_viewed E s t q n R h =
    let is : R ≡ Answered (document_answer (applied (published_entries E)) q) = cc in
    is ∙ (λ i. Answered (document_is_view (applied (published_entries E)) are_legal q i))
  where
    are_legal : IsLegal (applied (published_entries E))
    are_legal = legal (stamped_entries (published_entries E))
        (entries_legal E.replica.own (published_entries E) (first_history E.replica.own E.published E.replica.entries s.running.history))
