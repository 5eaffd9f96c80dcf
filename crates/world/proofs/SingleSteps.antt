-- What single steps of an engine leave if there is something to do.
use Rattle.std.proofs.Common.{◌≡◌, ℕ, zero, suc, max, ◌-◌, ◌<◌, true, false, nat_le, List, [], ◌∷◌, ◌++◌, map, length, get_or, Some, None}
use Rattle.std.proofs.Common.{option_map, refl, ap, ◌∙◌, slice_get, slice_set}
use Rattle.std.proofs.lemmas.Option.{slice_get-map, slice_get_read}
use Rattle.ids.specs.declared.refusal.Refusal.TheVariants.{SerialEnd, QueueFull}
use Rattle.semantics.specs.LegalAnswer.{Request}
use Rattle.semantics.specs.Engine.{Engine, Client, Cell, Given, Ticket, Denied, Replied}
use Rattle.semantics.specs.WriteSteps.{with_answer, give_to, with_cell, next_submission, push}
use Rattle.semantics.specs.ReadSteps.{poll, cell_at, see}

-- what is at an index of a list, as its image
pub read_mapped : {A B : Type 0} (f : A → B) (xs : List A) (i : ℕ) (x : A) → i < length xs → x ≡ get_or xs i x
    → slice_get (map f xs) i ≡ Some (f x)
read_mapped f xs i x h e = slice_get-map f xs i ∙ ap (option_map f) (slice_get_read xs (length xs) i x refl h e)

-- a list in which the element at an index is put back there
pub set_itself : {X : Type 0} (xs : List X) (i : ℕ) (x : X) → slice_get xs i ≡ Some x → slice_set xs i x ≡ xs
set_itself [] i x e = refl
set_itself (y ∷ ys) zero x e = (let same : x ≡ y = cc in ap (λ z. z ∷ ys) same)
set_itself (y ∷ ys) (suc i) x e = ap (λ zs. y ∷ zs) (set_itself ys i x e)

pub with_answer-there : (k : Client) (serial : ℕ) (g : Given) (cell : Cell) → slice_get k.cells (serial - 1) ≡ Some cell
    → with_answer k serial g ≡ record k { cells = slice_set k.cells (serial - 1) (record cell { answer = Some g }) }
with_answer-there k serial g cell e = rw e refl

pub give_to-there : (ks : List Client) (c serial : ℕ) (g : Given) (k : Client) → slice_get ks c ≡ Some k
    → give_to ks c serial g ≡ slice_set ks c (with_answer k serial g)
give_to-there ks c serial g k e = rw e refl

pub poll-there : (E : Engine) (c serial : ℕ) (k : Client) (cell : Cell) (g : Given) → slice_get E.clients c ≡ Some k
    → cell_at k.cells serial ≡ Some cell → cell.answer ≡ Some g
    → poll E c serial
    ≡ record { engine = record E { clients = slice_set E.clients c (record k { seen = max k.seen g.published }) }; reply = Replied g.reply }
poll-there E c serial k cell g e f h = rw (e, f, h) refl

-- ---- submitting

pub push-there : (E : Engine) (c : ℕ) (q : Request) (k : Client) → slice_get E.clients c ≡ Some k
    → nat_le E.serials (length k.cells) ≡ false → nat_le E.capacity (length E.queue) ≡ false
    → push E c q
    ≡ record {
      engine = record E {
        queue = E.queue ++ next_submission c k q ∷ [];
        clients = slice_set E.clients c (with_cell k (next_submission c k q));
      };
      reply = Ticket (suc (length k.cells));
    }
push-there E c q k e f h = rw (e, f, h) refl

pub push-last : (E : Engine) (c : ℕ) (q : Request) (k : Client) → slice_get E.clients c ≡ Some k → nat_le E.serials (length k.cells) ≡ true
    → push E c q ≡ record { engine = E; reply = Denied SerialEnd }
push-last E c q k e f = rw (e, f) refl

pub push-full : (E : Engine) (c : ℕ) (q : Request) (k : Client) → slice_get E.clients c ≡ Some k → nat_le E.serials (length k.cells) ≡ false
    → nat_le E.capacity (length E.queue) ≡ true
    → push E c q ≡ record { engine = E; reply = Denied QueueFull }
push-full E c q k e f h = rw (e, f, h) refl

-- ---- seeing

pub see-client : (E : Engine) (t m : ℕ) (k : Client) → slice_get E.clients t ≡ Some k
    → see E t m ≡ record E { clients = slice_set E.clients t (record k { seen = m }) }
see-client E t m k e = rw e refl

pub see-reader : (E : Engine) (t m : ℕ) → slice_get E.clients t ≡ None
    → see E t m ≡ record E { readers = slice_set E.readers (t - length E.clients) m }
see-reader E t m e = rw e refl
