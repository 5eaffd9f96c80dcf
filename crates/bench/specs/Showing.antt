-- What engines show to their readers, and when they show the same.
use Rattle.std.specs.Prelude.{ℕ, Bool, ◌≡◌, ◌&&◌, List, map, nat_eq}
use Rattle.std.specs.List.{All}
use Rattle.std.specs.Cmp.Lexicographic.{pointwise}
use Rattle.semantics.specs.Ids.{OpId}
use Rattle.semantics.specs.Elements.{Scalar}
use Rattle.peer_sync.specs.value.SameValues.{is_same_scalar}
use Rattle.peer_sync.specs.value.Values.{scalar_of}
use Rattle.bench.specs.declared.showing.Shown.{Shown}

-- how many operations a history has, the keys of its document, and at each key the values with the ids of the operations that wrote them
pub record View : Type 0 where
  pub length : ℕ
  pub keys : List (List ℕ)
  pub values : List (List (OpId × Scalar))

-- what an engine shows, as a view
abbrev pub view_of : Shown → View
view_of s = record { length = s.length; keys = s.keys.items; values = map (λ vs. map (λ p. (p.0, scalar_of p.1)) vs.items) s.values.items }

-- one value, written by one operation
abbrev pub is_same_written : OpId × Scalar → OpId × Scalar → Bool
is_same_written p q = (nat_eq p.0.counter q.0.counter && nat_eq p.0.replica q.0.replica) && is_same_scalar p.1 q.1

-- v and w are one view
abbrev pub is_same_view : View → View → Bool
is_same_view v w = nat_eq v.length w.length && pointwise (pointwise nat_eq) v.keys w.keys
    && pointwise (pointwise is_same_written) v.values w.values

-- all of them are one view, of a history with n operations
abbrev pub ShowAlike : ℕ → List View → Type 0
ShowAlike n views = (v : View) × (v.length ≡ n) × All (λ w. w ≡ v) views
