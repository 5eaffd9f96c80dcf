-- What JSON a glance is made of.
use Rattle.std.specs.Prelude.{◌≡◌, false}
use Rattle.serde_json.specs.View.{items_view, members_view}
use Rattle.serde_json.specs.Written.{items_have_float, members_have_float}
use Rattle.requests.specs.declared.glances.Beneath.{Beneath}

-- what is beneath an element has no number that isn't whole
pub record HasNoFloat (b : Beneath) : Type 0 where
  pub fields : members_have_float (members_view b.fields.entries) ≡ false
  pub items : items_have_float (items_view b.items.items) ≡ false
