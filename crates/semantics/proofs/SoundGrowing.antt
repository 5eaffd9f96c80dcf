-- The clients stay sound as the history grows, and as more of it is published.
use Rattle.std.proofs.Common.{ℕ, suc, ◌≤◌, List, length, ap, ◌∙◌, subst, arith}
use Rattle.semantics.specs.Entries.{Entry, first_entries, IsAbove}
use Rattle.semantics.specs.Engine.{Client, Cell}
use Rattle.semantics.specs.WorldHistory.{BeginsWith}
use Rattle.semantics.proofs.Beginnings.{first_of_longer, first_begins_first}
use Rattle.semantics.proofs.LastingAnswers.{good_in_longer}
use Rattle.semantics.proofs.SoundEngines.{IsSoundCell, IsSoundClient}

-- what is published later begins with what is published now
pub begins_published : (G F : List Entry) (n m : ℕ) → BeginsWith G F → m ≤ length F → m ≤ n
    → BeginsWith (first_entries n G) (first_entries m F)
begins_published G F n m b l u = subst (BeginsWith (first_entries n G)) (ap (first_entries m) b.1 ∙ first_of_longer m b.0 F l)
    (first_begins_first m n G u)

cell_grows : (p : ℕ) (ps : List ℕ) (G F : List Entry) (n m c i : ℕ) (cell : Cell) → BeginsWith G F → m ≤ length F → m ≤ n
    → IsSoundCell p ps F m c i cell → IsSoundCell p ps G n c i cell
cell_grows p ps G F n m c i cell b l u s = record {
  client = s.client;
  serial = s.serial;
  floor = omega (arith, s.floor);
  given = λ g w. (
    omega (arith, (s.given g w).0),
    good_in_longer p ps (first_entries n G) (first_entries m F) cell.submitted g.reply
        (begins_published G F n m b l u) (s.given g w).1,
  );
}

-- a client stays sound as the history and what is published of it grow
pub client_grows : (p : ℕ) (ps : List ℕ) (G F : List Entry) (n m c : ℕ) (k : Client) → BeginsWith G F → m ≤ length F → m ≤ n
    → IsAbove c (suc (length k.cells)) G → IsSoundClient p ps F m c k → IsSoundClient p ps G n c k
client_grows p ps G F n m c k b l u above s = record {
  seen = omega (arith, s.seen);
  above = above;
  cells = λ i cell w. cell_grows p ps G F n m c i cell b l u (s.cells i cell w);
}
