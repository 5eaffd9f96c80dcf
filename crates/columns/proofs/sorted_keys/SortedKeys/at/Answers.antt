use Rattle.std.proofs.Common.{rules, ◌≡◌, ◌<◌, ◌∙◌, refl, ap, sym, length, slice_get, Some}
use Rattle.std.proofs.lemmas.Option.{slice_get_read}
use Rattle.columns.specs.Keys.{Keys}
use Rattle.columns.specs.ShortKeys.{numbers_of}
use Rattle.columns.proofs.ShortKeys.{key_here, number_at, number_within}
use Rattle.columns.proofs.sorted_keys.SortedKeys.at.Goals as goal

pub index-requires : goal.index-requires
index-requires c =
    let d = c.self.inside in
    let within : c.get.result.now.number < length d.keys.items
    = number_within d.keys.items (numbers_of d.order.items) c.args.position c.get.result.now.number
    (number_at d.order.items c.args.position c.get.result.now c.get.ensures) c.self.invariant.0.are_numbers in
    search rules

pub returns-clause-key : goal.returns-clause-key
returns-clause-key c =
    let d = c.self.inside in
    let ks = d.keys.items in
    let n = c.get.result.now.number in
    let r = c.index.result.now in
    let is = number_at d.order.items c.args.position c.get.result.now c.get.ensures in
    let within = number_within ks (numbers_of d.order.items) c.args.position n is c.self.invariant.0.are_numbers in
    let there : slice_get ks n ≡ Some r = slice_get_read ks _ n r refl within c.index.ensures in
    ap (λ (m : Keys). slice_get m.keys c.args.position) (sym c.self.view_is)
    ∙ key_here ks (numbers_of d.order.items) c.args.position n is r there

pub returns-clause-number : goal.returns-clause-number
returns-clause-number c =
    ap (λ (m : Keys). slice_get m.numbers c.args.position) (sym c.self.view_is)
    ∙ number_at c.self.inside.order.items c.args.position c.get.result.now c.get.ensures
