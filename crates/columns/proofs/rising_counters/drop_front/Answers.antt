use Rattle.std.proofs.Common.{◌≡◌, ◌∙◌, ◌-◌, ◌++◌, sym, ap, length, List, ℕ, take, drop}
use Rattle.std.proofs.lemmas.List.{length-drop}
use Rattle.std.proofs.Math.Seq.{take-append_seam}
use Rattle.columns.proofs.rising_counters.drop_front.Goals as goal

-- what is behind the first n, turned to the front
front : (ks : List ℕ) (n m : ℕ) → m ≡ length ks - n → take m (drop n ks ++ take n ks) ≡ drop n ks
front ks n m is = ap (λ i. take i (drop n ks ++ take n ks)) (is ∙ sym (length-drop n ks)) ∙ take-append_seam (drop n ks) (take n ks)

pub returns : goal.returns
returns c =
    let ks = c.args.counters.now.items in
    let all : c.len.result ≡ length ks = c.len.ensures ∙ c.rotate_left.ensures.len ∙ c.args.counters.now.ok.0 in
    c.truncate.ensures.items ∙ ap (take (c.len.result - c.args.count)) c.rotate_left.ensures.items
    ∙ front ks c.args.count (c.len.result - c.args.count) (ap (λ n. n - c.args.count) all)
