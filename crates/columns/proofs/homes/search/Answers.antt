use Rattle.std.proofs.Common.{rules, add-one, ◌≡◌, ◌∙◌, ◌<◌, ◌||◌, ◌==◌, sym, ap, zero, suc, false, List, [], ◌∷◌, ℕ}
use Rattle.std.proofs.Common.{drop, get_or, length, arith}
use Rattle.ids.specs.Members.{is_member}
use Rattle.columns.specs.NumberColumns.{numbering}
use Rattle.columns.specs.declared.number_column.NumberColumn.{NumberColumn}
use Rattle.columns.proofs.homes.search.Goals as goal

-- one that isn't the replica's is passed
passed : (p : ℕ) (cs : List NumberColumn) (i : ℕ) (c : NumberColumn) → i < length cs → c ≡ get_or cs i c → (c.replica == p) ≡ false
    → is_member (drop (suc i) (numbering cs)) p ≡ is_member (drop i (numbering cs)) p
passed p [] i c lt read other = absurd (omega arith)
passed p (x ∷ cs) zero c lt read other =
    ap (λ b. b || is_member (numbering cs) p) (sym (ap (λ (y : NumberColumn). y.replica == p) (sym read) ∙ other))
passed p (x ∷ cs) (suc i) c lt read other = passed p cs i c (omega arith) read other

pub loop-place-preserved : goal.loop-place-preserved
loop-place-preserved c =
    ap (λ n. is_member (drop n (numbering c.args.columns.now)) c.args.replica) (add-one c.loop-place.place)
    ∙ passed c.args.replica c.args.columns.now c.loop-place.place c.index-columns-place.result c.loop-place-test.true
    c.index-columns-place.is (search rules)
    ∙ c.loop-place.invariant
