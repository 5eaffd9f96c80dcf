use Rattle.ids.specs.Members.{in_order}
use Rattle.shopping.proofs.shop.Given as goal

-- the engine of these parts
abbrev pub ghosts-shop_in : goal.ghosts-shop_in
ghosts-shop_in g a = record { book = a.parts.opened.seen.book; own = a.parts.config.own; table = in_order a.parts.config.members }
