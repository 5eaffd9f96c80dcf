-- The steps of one engine by which a token polls for an answer, learns of one, or asks. What it reads, it has seen.
use Rattle.std.specs.Prelude.{ℕ, max, cond, ◌-◌, ◌==◌, List, length, Option, Some, None, slice_get, slice_index_or, slice_set}
use Rattle.ids.specs.declared.refusal.Refusal.TheVariants.{Foreign}
use Rattle.semantics.specs.LegalAnswer.{Asked, reading_of}
use Rattle.semantics.specs.Engine.{Given, Cell, Client, Engine, published_entries, Denied, Idle, Unanswered, Replied, Read, Seen, Outcome}

-- the cell of a serial; none has the serial 0
abbrev pub cell_at : List Cell → (serial : ℕ) → Option Cell
cell_at cells serial = cond (serial == 0) None (slice_get cells (serial - 1))

-- the cell of a client's serial
abbrev pub cell_under : Engine → (client serial : ℕ) → Option Cell
cell_under E c serial = of_client (slice_get E.clients c)
  where
    of_client : Option Client → Option Cell
    of_client None = None
    of_client (Some k) = cell_at k.cells serial

-- how many entries token t has seen; the tokens are the clients', then the readers'
abbrev pub seen_by : Engine → (token : ℕ) → ℕ
seen_by E t = of_client (slice_get E.clients t)
  where
    of_client : Option Client → ℕ
    of_client (Some k) = k.seen
    of_client None = slice_index_or E.readers (t - length E.clients) 0

-- ---- polling

-- a client polls: it then has seen what was published with the answer
abbrev pub poll_cell : Engine → (client : ℕ) → Client → Option Cell → Outcome
poll_cell e c k None = record { engine = e; reply = Denied Foreign }
poll_cell e c k (Some cell) = at_answer cell.answer
  where
    at_answer : Option Given → Outcome
    at_answer None = record { engine = e; reply = Unanswered }
    at_answer (Some g) = record {
      engine = record e { clients = slice_set e.clients c (record k { seen = max k.seen g.published }) };
      reply = Replied g.reply;
    }

-- a client polls for the answer to one of its serials
abbrev pub poll : Engine → (client serial : ℕ) → Outcome
poll e c serial = at_client (slice_get e.clients c)
  where
    at_client : Option Client → Outcome
    at_client None = record { engine = e; reply = Idle }
    at_client (Some k) = poll_cell e c k (cell_at k.cells serial)

-- ---- asking

-- the engine after token t has seen the first m entries
abbrev pub see : Engine → (token length : ℕ) → Engine
see e t m = at_client (slice_get e.clients t)
  where
    at_client : Option Client → Engine
    at_client (Some k) = record e { clients = slice_set e.clients t (record k { seen = m }) }
    at_client None = record e { readers = slice_set e.readers (t - length e.clients) m }

-- the engine after token t has seen all that is published
abbrev pub see_published : Engine → (token : ℕ) → Engine
see_published e t = see e t e.published

-- a token asks: it sees all that is published
abbrev pub ask : Engine → (token : ℕ) → Asked → Outcome
ask e t q = record { engine = see_published e t; reply = Read e.published (reading_of (published_entries e) q) }

-- ---- learning

-- a token learns of an answer: it then has seen at least what was published with it
abbrev pub learn : Engine → (token client serial : ℕ) → Outcome
learn e t c serial = at_cell (cell_under e c serial)
  where
    at_answer : Option Given → Outcome
    at_answer None = record { engine = e; reply = Unanswered }
    at_answer (Some g) = record { engine = see e t (max (seen_by e t) g.published); reply = Seen (max (seen_by e t) g.published) }

    at_cell : Option Cell → Outcome
    at_cell None = record { engine = e; reply = Unanswered }
    at_cell (Some cell) = at_answer cell.answer
