-- The bytes of the lines that were taken of a text.
use Rattle.std.proofs.Common.{◌≡◌, ℕ, ◌+◌, List, [], ◌∷◌, ◌++◌, length, drop, take, refl, sym, ap, ◌∙◌, append_assoc, arith}
use Rattle.std.proofs.Math.Seq.{drop-append_seam}
use Rattle.std.proofs.lemmas.List.{length-append, take_at}
use Rattle.wire.specs.Lines.{IsFirstLine, cut, Cut}
use Rattle.wire.proofs.CutLines.{cut-first_line}
use Rattle.peer_sync.specs.Receiving.{bytes_of}

bytes_of-behind : (ls : List (List ℕ)) (l : List ℕ) → bytes_of (ls ++ l ∷ []) ≡ bytes_of ls + (length l + 1)
bytes_of-behind [] l = omega arith
bytes_of-behind (k ∷ ls) l = let more = bytes_of-behind ls l in omega (arith, more)

-- the first n lines of the text were taken, which have this many bytes, and the rest not yet
pub record HasTaken (text rest : List ℕ) (n bytes : ℕ) : Type 0 where
  pub done : List (List ℕ)
  pub count : length done ≡ n
  pub lines : (cut text).lines ≡ done ++ (cut rest).lines
  pub bytes_are : bytes ≡ bytes_of done
  pub left : length text ≡ bytes + length rest
  pub gone : List ℕ
  pub split : gone ++ rest ≡ text
  pub gone_is : length gone ≡ bytes

pub taken-none : (text : List ℕ) → HasTaken text text 0 0
taken-none text = record {
  done = [];
  count = refl;
  lines = refl;
  bytes_are = refl;
  left = omega arith;
  gone = [];
  split = refl;
  gone_is = refl;
}

-- what the next line leaves
pub left_behind : (text rest line left : List ℕ) (n bytes : ℕ) → HasTaken text rest n bytes → IsFirstLine rest line left
    → length text ≡ bytes + (length line + 1) + length left
left_behind text rest line left n bytes h first =
    let split = ap length first.split in
    let parts = length-append line (10 ∷ left) in
    omega (arith, h.left, split, parts)

pub taken-more : (text rest line left : List ℕ) (n bytes more : ℕ) → HasTaken text rest n bytes → IsFirstLine rest line left
    → more ≡ bytes + (length line + 1) → HasTaken text left (n + 1) more
taken-more text rest line left n bytes more h first is =
    let behind = left_behind text rest line left n bytes h first in
    let one = length-append h.done (line ∷ []) in
    let last = bytes_of-behind h.done line in
    record {
      done = h.done ++ line ∷ [];
      count = omega (arith, one, h.count);
      lines = h.lines ∙ ap (λ (c : Cut). h.done ++ c.lines) (cut-first_line rest line left first)
          ∙ sym (append_assoc h.done (line ∷ []) (cut left).lines);
      bytes_are = omega (arith, is, h.bytes_are, last);
      left = omega (arith, behind, is);
      gone = h.gone ++ (line ++ 10 ∷ []);
      split = append_assoc h.gone (line ++ 10 ∷ []) left
          ∙ (ap (λ (l : List ℕ). h.gone ++ l) (append_assoc line (10 ∷ []) left ∙ sym first.split) ∙ h.split);
      gone_is = (let one = length-append h.gone (line ++ 10 ∷ []) in let two = length-append line (10 ∷ []) in
          omega (arith, one, two, h.gone_is, is));
    }

-- what is left is what comes after the bytes that were taken
pub left_is : (text rest : List ℕ) (n bytes : ℕ) → HasTaken text rest n bytes → drop bytes text ≡ rest
left_is text rest n bytes h = (λ i. drop (gone_back i) (split_back i)) ∙ drop-append_seam h.gone rest
  where
    gone_back : bytes ≡ length h.gone
    gone_back = sym h.gone_is

    split_back : text ≡ h.gone ++ rest
    split_back = sym h.split

pub taken-bytes : (text rest : List ℕ) (n bytes : ℕ) → HasTaken text rest n bytes → bytes ≡ bytes_of (take n (cut text).lines)
taken-bytes text rest n bytes h =
    h.bytes_are
    ∙ ap bytes_of (sym (take_at h.done (cut rest).lines n h.count))
    ∙ ap (λ (ls : List (List ℕ)). bytes_of (take n ls)) (sym h.lines)
