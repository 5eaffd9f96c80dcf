use Rattle.std.proofs.Common.{rules, add-one, ◌≡◌, ◌∙◌, ◌<◌, ◌||◌, ◌==◌, sym, ap, zero, suc, false, List, [], ◌∷◌, ℕ}
use Rattle.std.proofs.Common.{drop, get_or, length, arith}
use Rattle.ids.specs.Members.{is_member}
use Rattle.columns.specs.ReplicaColumns.{replicas_of}
use Rattle.columns.specs.declared.replica_column.ReplicaColumn.{ReplicaColumn}
use Rattle.columns.proofs.replica_columns.search.Goals as goal

-- one that isn't the replica's is passed
passed : (p : ℕ) (cs : List ReplicaColumn) (i : ℕ) (c : ReplicaColumn) → i < length cs → c ≡ get_or cs i c → (c.replica == p) ≡ false
    → is_member (drop (suc i) (replicas_of cs)) p ≡ is_member (drop i (replicas_of cs)) p
passed p [] i c lt read other = absurd (omega arith)
passed p (x ∷ cs) zero c lt read other =
    ap (λ b. b || is_member (replicas_of cs) p) (sym (ap (λ (y : ReplicaColumn). y.replica == p) (sym read) ∙ other))
passed p (x ∷ cs) (suc i) c lt read other = passed p cs i c (omega arith) read other

pub loop-place-preserved : goal.loop-place-preserved
loop-place-preserved c =
    ap (λ n. is_member (drop n (replicas_of c.args.columns.now)) c.args.replica) (add-one c.loop-place.place)
    ∙ passed c.args.replica c.args.columns.now c.loop-place.place c.index-columns-place.result c.loop-place-test.true
    c.index-columns-place.is (search rules)
    ∙ c.loop-place.invariant
