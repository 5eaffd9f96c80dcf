-- What a session appends of its own.
use Rattle.std.proofs.Common.{◌≡◌, ◌∙◌, ℕ, length, ap, subst}
use Rattle.semantics.specs.Making.{Command}
use Rattle.semantics.specs.Replica.{Replica, commit_own}
use Rattle.semantics.specs.Stamped.{Stamped}
use Rattle.replica.specs.Replicas.{IsMade}
use Rattle.session.specs.Sessions.{IsSession}
use Rattle.session.proofs.Keeping.{written_on}

-- r is what is kept, m is the same once there is room for what was made of the command, and q has it
module _ (r m q : Replica) (c d : Command) (s : Stamped) (same : m ≡ r) (it : c ≡ d) (made : IsMade r.entries r.own c s)
    (appended : q ≡ commit_own m 0 (length m.entries) d s) where
  of_command : IsMade r.entries r.own d s
  of_command = subst (λ (x : Command). IsMade r.entries r.own x s) it made

  committed : q ≡ commit_own r 0 (length r.entries) d s
  committed = appended ∙ ap (λ (x : Replica). commit_own x 0 (length x.entries) d s) same

  pub still_session : (p : ℕ) → IsSession p r → IsSession p q
  still_session p h = written_on p r q d s of_command committed h

  -- a is what contracts see of r, and e is the command as it was given
  pub wrote : (a : Replica) (e : Command) → r ≡ a → d ≡ e
      → IsMade a.entries a.own e s × (q ≡ commit_own a 0 (length a.entries) e s)
  wrote a e view given =
      subst (λ (x : Replica). IsMade x.entries x.own e s × (q ≡ commit_own x 0 (length x.entries) e s)) view
      (subst (λ (x : Command). IsMade r.entries r.own x s × (q ≡ commit_own r 0 (length r.entries) x s)) given (of_command, committed))
