-- The cells of a client: what stands under a serial after one more cell is there, and after an answer is set.
use Rattle.std.proofs.Common.{◌≡◌, ◌⊎◌, inl, inr, ℕ, zero, suc, cond, ◌-◌, ◌<◌, ◌≤◌, List, [], ◌∷◌, ◌++◌, length, Some, None, refl, sym, ap}
use Rattle.std.proofs.Common.{◌∙◌, arith, slice_get, slice_set}
use Rattle.std.proofs.lemmas.Bool.{ne_eqb}
use Rattle.std.proofs.lemmas.List.{length-set}
use Rattle.std.proofs.lemmas.Option.{slice_get_within}
use Rattle.semantics.specs.Engine.{Cell, Client, Given}
use Rattle.semantics.specs.WriteSteps.{with_answer}
use Rattle.semantics.specs.ReadSteps.{cell_at}
use Rattle.ids.proofs.LongerLists.{get-append, get-append_last, get-append_cases}
use Rattle.semantics.proofs.SetElements.{get-set_same, get-set_other}

-- serials count from 1, indices from 0
pub cell_at-suc : (cells : List Cell) (n : ℕ) → cell_at cells (suc n) ≡ slice_get cells n
cell_at-suc cells n =
    let index : suc n - 1 ≡ n = omega arith in
    ap (λ b. cond b None (slice_get cells (suc n - 1))) (ne_eqb (suc n) 0 (λ e. absurd (omega arith))) ∙ ap (slice_get cells) index

-- no serial is above the number of cells
pub cell_within : (cells : List Cell) (serial : ℕ) (cell : Cell) → cell_at cells serial ≡ Some cell → serial ≤ length cells
cell_within cells zero cell h = omega arith
cell_within cells (suc n) cell h =
    let l : n < length cells = slice_get_within cells n cell (sym (cell_at-suc cells n) ∙ h) in
    omega arith

-- ---- one more cell

pub cell_kept : (cells more : List Cell) (serial : ℕ) (cell : Cell) → cell_at cells serial ≡ Some cell
    → cell_at (cells ++ more) serial ≡ Some cell
cell_kept cells more zero cell h = h
cell_kept cells more (suc n) cell h = cell_at-suc (cells ++ more) n ∙ get-append cells more n cell (sym (cell_at-suc cells n) ∙ h)

pub newest_cell : (cells : List Cell) (cell : Cell) → cell_at (cells ++ cell ∷ []) (suc (length cells)) ≡ Some cell
newest_cell cells cell = cell_at-suc (cells ++ cell ∷ []) (length cells) ∙ get-append_last cells cell

pub newest_cases : (cells : List Cell) (new : Cell) (serial : ℕ) (cell : Cell) → cell_at (cells ++ new ∷ []) serial ≡ Some cell
    → (cell_at cells serial ≡ Some cell) ⊎ ((serial ≡ suc (length cells)) × (cell ≡ new))
newest_cases cells new zero cell h = inl h
newest_cases cells new (suc n) cell h =
    elim (get-append_cases cells n new cell (sym (cell_at-suc (cells ++ new ∷ []) n) ∙ h)) [
      | inl a ↦ inl (cell_at-suc cells n ∙ a)
      | inr b ↦ inr (ap suc b.0, b.1)
    ]

-- ---- an answer is set

-- the cells after the answer, where the serial has a cell
pub answered_cells : (k : Client) (n : ℕ) (g : Given) (cell : Cell) → cell_at k.cells (suc n) ≡ Some cell
    → (with_answer k (suc n) g).cells ≡ slice_set k.cells n (record cell { answer = Some g })
answered_cells k n g cell h =
    let index : suc n - 1 ≡ n = omega arith in
    let there : slice_get k.cells n ≡ Some cell = sym (cell_at-suc k.cells n) ∙ h in
    rw (index, there, index)

pub answered_there : (k : Client) (serial : ℕ) (g : Given) (cell : Cell) → cell_at k.cells serial ≡ Some cell
    → cell_at (with_answer k serial g).cells serial ≡ Some (record cell { answer = Some g })
answered_there k zero g cell h = cc
answered_there k (suc n) g cell h =
    let there : slice_get k.cells n ≡ Some cell = sym (cell_at-suc k.cells n) ∙ h in
    ap (λ cells. cell_at cells (suc n)) (answered_cells k n g cell h)
    ∙ cell_at-suc (slice_set k.cells n (record cell { answer = Some g })) n
    ∙ get-set_same k.cells n cell (record cell { answer = Some g }) there

pub answered_elsewhere : (k : Client) (serial other : ℕ) (g : Given) (cell : Cell) → cell_at k.cells serial ≡ Some cell
    → (other ≡ serial → ⊥)
    → cell_at (with_answer k serial g).cells other ≡ cell_at k.cells other
answered_elsewhere k zero other g cell h n = cc
answered_elsewhere k (suc n) zero g cell h e = refl
answered_elsewhere k (suc n) (suc m) g cell h e =
    ap (λ cells. cell_at cells (suc m)) (answered_cells k n g cell h)
    ∙ cell_at-suc (slice_set k.cells n (record cell { answer = Some g })) m
    ∙ get-set_other k.cells n m (record cell { answer = Some g }) (λ q. e (ap suc q))
    ∙ sym (cell_at-suc k.cells m)

pub length-answered : (k : Client) (serial : ℕ) (g : Given) (cell : Cell) → cell_at k.cells serial ≡ Some cell
    → length (with_answer k serial g).cells ≡ length k.cells
length-answered k zero g cell h = cc
length-answered k (suc n) g cell h = ap (length {A = Cell}) (answered_cells k n g cell h)
    ∙ length-set k.cells n (record cell { answer = Some g })
