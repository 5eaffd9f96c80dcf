use Rattle.std.proofs.Common.{subst, Option, IsFalse, ℕ}
use Rattle.std.specs.Prelude.{MatchOption}
use Rattle.ids.specs.Members.{is_member}
use Rattle.columns.specs.NumberColumns.{NumbersStandAt, numbered, numbering}
use Rattle.columns.proofs.HomePuts.{in_list, listed_number}
use Rattle.columns.proofs.NumbersByReplica.{no_column}
use Rattle.columns.proofs.homes.set_number.Goals as goal

pub set-requires : goal.set-requires
set-requires c =
    let cs = c.args.columns.now in
    in_list c.args.list.now.entries (numbered cs) c.args.id.now
    (no_column c.args.id.now cs
    (subst (λ (o : Option ℕ). MatchOption o (IsFalse (is_member (numbering cs) c.args.id.now.replica))
    (λ i. NumbersStandAt cs c.args.id.now.replica i)) c.in-None.is c.requires.place)) c.requires.there

pub returns-in-None-clause-entries : goal.returns-in-None-clause-entries
returns-in-None-clause-entries c =
    let cs = c.args.columns.now in
    listed_number c.args.list.now.entries c.set.new.self.entries (numbered cs) c.args.id.now c.args.number c.len.ensures.rising
    c.set.ensures.entries
    (no_column c.args.id.now cs
    (subst (λ (o : Option ℕ). MatchOption o (IsFalse (is_member (numbering cs) c.args.id.now.replica))
    (λ i. NumbersStandAt cs c.args.id.now.replica i)) c.in-None.is c.requires.place))
