-- An engine has grown from itself, and from what it has grown from in two steps.
use Rattle.std.proofs.Common.{◌≡◌, inl, inr, ℕ, ◌≤◌, List, [], ◌++◌, refl, sym, ap, ◌∙◌, arith, append_assoc}
use Rattle.semantics.specs.LegalHistory.{IsAmong}
use Rattle.semantics.specs.Entries.{Entry}
use Rattle.semantics.specs.LegalAnswer.{Submitted}
use Rattle.semantics.specs.Replica.{Replica}
use Rattle.semantics.specs.Engine.{Engine, Handled}
use Rattle.semantics.specs.WorldHistory.{BeginsWith, HasGrown}

pub begins_trans : (G F H : List Entry) → BeginsWith G F → BeginsWith F H → BeginsWith G H
begins_trans G F H g f = (g.0 ++ f.0, g.1 ∙ ap (λ (K : List Entry). g.0 ++ K) f.1 ∙ sym (append_assoc g.0 f.0 H))

pub grown_refl : (E : Engine) → HasGrown E E
grown_refl E = record {
  own = refl;
  members = refl;
  entries = ([], refl);
  published = omega arith;
  seen = λ t. omega arith;
  submitted = λ c serial x h. h;
  replied = λ c serial r h. h;
  given = λ c serial g h. h;
}

pub grown_trans : (E F G : Engine) → HasGrown E F → HasGrown F G → HasGrown E G
grown_trans E F G f g = record {
  own = g.own ∙ f.own;
  members = g.members ∙ f.members;
  entries = begins_trans G.replica.entries F.replica.entries E.replica.entries g.entries f.entries;
  published = omega (arith, f.published, g.published);
  seen = λ t. omega (arith, f.seen t, g.seen t);
  submitted = λ c serial x h. g.submitted c serial x (f.submitted c serial x h);
  replied = λ c serial r h. g.replied c serial r (f.replied c serial r h);
  given = λ c serial a h. g.given c serial a (f.given c serial a h);
}

-- ---- the history grows

-- the engine with another replica, and with other items and another number of published entries
abbrev pub with_history : Engine → Replica → List Submitted → List Handled → List Handled → ℕ → Engine
with_history E r queue handled due published = record E { replica = r; queue = queue; handled = handled; due = due; published = published }

pub grown_by_history : (E : Engine) (r : Replica) (queue : List Submitted) (handled due : List Handled) (published : ℕ)
    → r.own ≡ E.replica.own → r.members ≡ E.replica.members → BeginsWith r.entries E.replica.entries → E.published ≤ published
    → ((h : Handled) → IsAmong h (E.due ++ E.handled) → IsAmong h (due ++ handled))
    → HasGrown E (with_history E r queue handled due published)
grown_by_history E r queue handled due published own members entries more still = record {
  own = own;
  members = members;
  entries = entries;
  published = more;
  seen = λ t. omega arith;
  submitted = λ c serial x w. w;
  replied = λ c serial a w. elim w [ inl g ↦ inl g | inr h ↦ inr (h.0, still h.0 h.1, h.2, h.3, h.4) ];
  given = λ c serial g w. w;
}
