use Rattle.std.proofs.Common.{◌≡◌, ℕ, ap, refl, sym, subst}
use Rattle.semantics.specs.Entries.{IsAbove}
use Rattle.semantics.specs.Replica.{Replica, IsRunning}
use Rattle.semantics.specs.Drain.{counted, drain_for}
use Rattle.replica.specs.Replicas.{replica_of}
use Rattle.replica_tests.proofs.KeptSerials.{above_turns}
use Rattle.replica_tests.proofs.tests.playing.drain_after.Goals as goal

-- a drain that may end early keeps the serials
above_part : (r q : Replica) → IsRunning r → ((n : ℕ) × (q ≡ counted (drain_for n r))) → (serial : ℕ) → IsAbove 0 serial r.entries
    → IsAbove 0 serial q.entries
above_part r q running part serial above =
    subst (IsAbove 0 serial) (sym (ap (λ (p : Replica). p.entries) part.1))
    (above_turns 0 serial part.0 r (drain_for part.0 r) running refl above)

pub returns-in_err-drain : goal.returns-in_err-drain
returns-in_err-drain g c = above_part (replica_of c.args.replica.now)
    (replica_of c.drain.new.self) c.document-running.ensures.running c.drain.ensures.partly

pub returns : goal.returns
returns g c = above_part (replica_of c.args.replica.now)
    (replica_of c.drain.new.self) c.document-running.ensures.running c.drain.ensures.partly
