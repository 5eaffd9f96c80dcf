use Rattle.std.proofs.Common.{rules, ◌≡◌, ◌<◌, ◌∙◌, [], ap, refl, sym, length, get_or, slice_get, Some, nat_cmp}
use Rattle.std.proofs.lemmas.List.{get_or_default}
use Rattle.std.proofs.lemmas.Option.{get_or_from_slice_get, slice_get_read}
use Rattle.semantics.specs.Elements.{name_cmp}
use Rattle.columns.specs.Keys.{Keys}
use Rattle.columns.specs.ShortKeys.{numbers_of}
use Rattle.columns.proofs.Prefixes.{prefix_decides}
use Rattle.columns.proofs.ShortKeys.{key_here, number_within}
use Rattle.columns.proofs.sorted_keys.SortedKeys.compare.Goals as goal

pub returns-in_default : goal.returns-in_default
returns-in_default c = λ position stands d.
    let keys = c.args.self.now.keys in
    let other = get_or keys position [] in
    sym (prefix_decides c.args.key.now other c.requires.bytes stands.bytes c.cmp.result
    (sym (c.cmp.ensures ∙ (λ i. nat_cmp (c.requires.prefix i) (stands.prefix i))))
    c.in_default.not-Equal)
    ∙ ap (name_cmp c.args.key.now) (get_or_default keys position [] d stands.within)

pub index-requires : goal.index-requires
index-requires c =
    let d = c.self.inside in
    let (position, stands) = c.requires.other in
    let is = ap (λ (m : Keys). slice_get m.numbers position) c.self.view_is ∙ stands.number in
    let within : c.args.other.now.number < length d.keys.items
    = number_within d.keys.items (numbers_of d.order.items) position c.args.other.now.number is c.self.invariant.0.are_numbers in
    search rules

pub returns-in-Equal : goal.returns-in-Equal
returns-in-Equal c = λ position stands d.
    let inside = c.self.inside in
    let ks = inside.keys.items in
    let numbers = numbers_of inside.order.items in
    let n = c.args.other.now.number in
    let r = c.index.result.now in
    let is = ap (λ (m : Keys). slice_get m.numbers position) c.self.view_is ∙ stands.number in
    let within = number_within ks numbers position n is c.self.invariant.0.are_numbers in
    let there : slice_get ks n ≡ Some r = slice_get_read ks _ n r refl within c.index.ensures in
    let here : slice_get c.args.self.now.keys position ≡ Some r
    = ap (λ (m : Keys). slice_get m.keys position) (sym c.self.view_is) ∙ key_here ks numbers position n is r there in
    c.cmp-in-Equal.ensures ∙ ap (name_cmp c.args.key.now) (sym (get_or_from_slice_get c.args.self.now.keys position r d here))
