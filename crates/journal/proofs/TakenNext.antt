-- The lines that were taken, and the next one.
use Rattle.std.proofs.Common.{◌≡◌, ℕ, ◌+◌, List, [], ◌∷◌, ◌++◌, length, take, sym, ap, ◌∙◌, append_assoc, arith}
use Rattle.std.proofs.lemmas.List.{length-append, take_at}
use Rattle.records.specs.wire.Lines.{Cut, IsFirstLine, cut}
use Rattle.records.proofs.wire.CutLines.{cut-first_line}
use Rattle.peer_sync.proofs.TakenLines.{HasTaken}

-- the first lines with the next one
pub taken_next : (text rest line left : List ℕ) (n bytes : ℕ) → HasTaken text rest n bytes → IsFirstLine rest line left
    → take (n + 1) (cut text).lines ≡ take n (cut text).lines ++ line ∷ []
taken_next text rest line left n bytes h first =
    let lines = (cut left).lines in
    let all : (cut text).lines ≡ h.done ++ line ∷ lines =
    h.lines ∙ ap (λ (c : Cut). h.done ++ c.lines) (cut-first_line rest line left first) in
    let more : length (h.done ++ line ∷ []) ≡ n + 1 = (let l = length-append h.done (line ∷ []) in omega (arith, l, h.count)) in
    ap (take (n + 1)) (all ∙ sym (append_assoc h.done (line ∷ []) lines))
    ∙ take_at (h.done ++ line ∷ []) lines (n + 1) more
    ∙ ap (λ (ls : List (List ℕ)). ls ++ line ∷ []) (sym (ap (take n) all ∙ take_at h.done (line ∷ lines) n h.count))
