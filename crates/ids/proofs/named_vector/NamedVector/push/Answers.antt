use Rattle.std.proofs.Common.{◌≡◌, ◌<◌, ◌++◌, ◌∷◌, [], length, sym, ap, subst, arith, rules}
use Rattle.ids.specs.Vectors.{AreBelow, IsNamed, most_named}
use Rattle.ids.proofs.SearchedVectors.{named_behind}
use Rattle.ids.proofs.named_vector.NamedVector.push.Goals as goal

pub invariant_of-self-2 : goal.invariant_of-self-2
invariant_of-self-2 c =
    let pushed : c.push.new.self.items ≡ c.self.inside.ids.items ++ c.args.id ∷ [] = search rules in
    let above : AreBelow c.args.id.replica c.self.inside.ids.items = subst (AreBelow c.args.id.replica)
    (sym c.self.view_is) c.requires.above in
    let room : length c.self.inside.ids.items < most_named = omega (arith, ap length c.self.view_is, c.requires.room) in
    subst IsNamed (sym pushed) (named_behind c.self.inside.ids.items c.args.id c.self.invariant above c.requires.counted room)
