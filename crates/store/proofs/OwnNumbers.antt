-- The first own command of a journal, line by line.
use Rattle.std.proofs.Common.{◌≡◌, ◌∙◌, ℕ, List, Option, None, Some, true, false, refl, sym, ap}
use Rattle.std.specs.Option.{is_some, option_or}
use Rattle.records.specs.wire.Lines.{Cut, HasNoEnd, IsFirstLine, cut}
use Rattle.records.proofs.wire.CutLines.{cut-first_line, cut-no_end}
use Rattle.records.specs.Lines.{record_form}
use Rattle.store.specs.WholeLines.{first_own, own_on}

pub own_next : (rest line left : List ℕ) (found : Option ℕ) → IsFirstLine rest line left → found ≡ own_on (record_form line)
    → first_own (cut rest).lines ≡ option_or found (first_own (cut left).lines)
own_next rest line left found first is =
    ap (λ (c : Cut). first_own c.lines) (cut-first_line rest line left first)
    ∙ ap (λ (o : Option ℕ). option_or o (first_own (cut left).lines)) (sym is)

pub own_none : (rest : List ℕ) → HasNoEnd rest → first_own (cut rest).lines ≡ None
own_none rest none = ap (λ (c : Cut). first_own c.lines) (cut-no_end rest none)

pub found_first : (found behind : Option ℕ) → is_some found ≡ true → option_or found behind ≡ found
found_first None behind h = absurd cc
found_first (Some p) behind h = refl

pub found_later : (found behind : Option ℕ) → is_some found ≡ false → option_or found behind ≡ behind
found_later None behind h = refl
found_later (Some p) behind h = absurd cc
