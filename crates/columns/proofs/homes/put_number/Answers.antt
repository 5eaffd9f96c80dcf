use Rattle.std.proofs.Common.{subst, Option, IsFalse, ℕ}
use Rattle.std.specs.Prelude.{MatchOption}
use Rattle.ids.specs.Members.{is_member}
use Rattle.columns.specs.NumberColumns.{NumbersStandAt, numbered, numbering}
use Rattle.columns.proofs.HomePuts.{listed_number}
use Rattle.columns.proofs.NumbersByReplica.{no_column}
use Rattle.columns.proofs.homes.put_number.Goals as goal

pub returns-in-None-clause-entries : goal.returns-in-None-clause-entries
returns-in-None-clause-entries c =
    let cs = c.args.columns.now in
    listed_number c.args.list.now.entries c.put.new.self.entries
    (numbered cs) c.args.id c.args.number c.len.ensures.rising c.put.ensures.entries
    (no_column c.args.id cs
    (subst (λ (o : Option ℕ). MatchOption o (IsFalse (is_member (numbering cs) c.args.id.replica))
    (λ i. NumbersStandAt cs c.args.id.replica i)) c.in-None.is c.requires.place))
