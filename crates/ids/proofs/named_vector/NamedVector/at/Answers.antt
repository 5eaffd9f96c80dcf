use Rattle.std.proofs.Common.{ap, ◌∙◌, sym, subst}
use Rattle.ids.specs.Vectors.{IsCanonical, at}
use Rattle.ids.proofs.named_vector.NamedVector.at.Goals as goal

pub counter_of-requires : goal.counter_of-requires
counter_of-requires c = subst IsCanonical (sym c.as_slice.ensures.value) c.self.invariant.canonical

pub returns : goal.returns
returns c = c.counter_of.ensures ∙ ap (λ v. at v c.args.replica) (c.as_slice.ensures.value ∙ c.self.view_is)
