-- Which chunks have room.
use Rattle.std.proofs.Common.{◌≡◌, ℕ, zero, suc, ◌+◌, ◌<◌, ◌≤◌, List, [], ◌∷◌, ◌++◌, length, set, refl, ap, ◌∙◌, subst}
use Rattle.std.proofs.Common.{slice_get, Some, arith}
use Rattle.std.specs.Prelude.{min}
use Rattle.std.specs.List.{insert}
use Rattle.std.proofs.lemmas.Option.{same_Some}
use Rattle.chunks.specs.Chunks.{AreRoomy, AreRoomyBut, Sequence, room_at}

module _ {X : Type 0} where
  pub room_here : (k : ℕ) (cs : List (Sequence X)) (c : Sequence X) → slice_get cs k ≡ Some c → room_at cs k ≡ c.room
  room_here k [] c is = absurd (cc is)
  room_here zero (s ∷ cs) c is = ap (λ (o : Sequence X). o.room) (same_Some s c is)
  room_here (suc k) (s ∷ cs) c is = room_here k cs c is

  pub room_set : (k : ℕ) (cs : List (Sequence X)) (q : Sequence X) → k < length cs → room_at (set cs k q) k ≡ q.room
  room_set k [] q inside = absurd (omega arith)
  room_set zero (s ∷ cs) q inside = refl
  room_set (suc k) (s ∷ cs) q inside = room_set k cs q (omega (arith, inside))

  pub room_past : (k : ℕ) (cs : List (Sequence X)) → length cs ≤ k → room_at cs k ≡ 1
  room_past k [] past = refl
  room_past zero (s ∷ cs) past = absurd (omega arith)
  room_past (suc k) (s ∷ cs) past = room_past k cs (omega (arith, past))

  -- the one that might be full isn't
  pub all_roomy : (k : ℕ) (cs : List (Sequence X)) → AreRoomyBut k cs → 0 < room_at cs k → AreRoomy cs
  all_roomy k [] but some = tt
  all_roomy zero (c ∷ cs) but some = (some, but)
  all_roomy (suc k) (c ∷ cs) but some = (but.0, all_roomy k cs but.1 some)

  pub roomy_at : (k : ℕ) (cs : List (Sequence X)) (c : Sequence X) → AreRoomy cs → slice_get cs k ≡ Some c → 0 < c.room
  roomy_at k [] c are is = absurd (cc is)
  roomy_at zero (s ∷ cs) c are is = subst (λ (o : Sequence X). 0 < o.room) (same_Some s c is) are.0
  roomy_at (suc k) (s ∷ cs) c are is = roomy_at k cs c are.1 is

  -- one chunk changes, and may be full
  pub but_one : (k : ℕ) (cs : List (Sequence X)) (q : Sequence X) → AreRoomy cs → AreRoomyBut k (set cs k q)
  but_one k [] q are = tt
  but_one zero (c ∷ cs) q are = are.1
  but_one (suc k) (c ∷ cs) q are = (are.0, but_one k cs q are.1)

  pub but_set : (k : ℕ) (cs : List (Sequence X)) (q : Sequence X) → AreRoomyBut k cs → AreRoomyBut k (set cs k q)
  but_set k [] q but = tt
  but_set zero (c ∷ cs) q but = but
  but_set (suc k) (c ∷ cs) q but = (but.0, but_set k cs q but.1)

  -- it is cut in two
  pub but_cut : (k : ℕ) (cs : List (Sequence X)) (q b : Sequence X) → k < length cs → AreRoomyBut k cs → 0 < b.room
      → AreRoomyBut k (insert (set cs k q) (k + 1) b)
  but_cut k cs q b inside but some = let next : suc k ≡ k + 1 = omega arith in
      subst (λ j. AreRoomyBut k (insert (set cs k q) j b)) next (go k cs inside but)
    where
      go : (k : ℕ) (cs : List (Sequence X)) → k < length cs → AreRoomyBut k cs → AreRoomyBut k (insert (set cs k q) (suc k) b)
      go k [] inside but = absurd (omega arith)
      go zero (c ∷ cs) inside but = (some, but)
      go (suc k) (c ∷ cs) inside but = (but.0, go k cs (omega (arith, inside)) but.1)

  pub room_cut : (k : ℕ) (cs : List (Sequence X)) (q b : Sequence X) → k < length cs → room_at (insert (set cs k q) (k + 1) b) k ≡ q.room
  room_cut k cs q b inside = let next : k + 1 ≡ suc k = omega arith in ap (λ j. room_at (insert (set cs k q) j b) k) next ∙ go k cs inside
    where
      go : (k : ℕ) (cs : List (Sequence X)) → k < length cs → room_at (insert (set cs k q) (suc k) b) k ≡ q.room
      go k [] inside = absurd (omega arith)
      go zero (c ∷ cs) inside = refl
      go (suc k) (c ∷ cs) inside = go k cs (omega (arith, inside))

  -- one comes behind the others
  pub but_push : (k : ℕ) (cs : List (Sequence X)) (c : Sequence X) → AreRoomyBut k cs → 0 < c.room → AreRoomyBut k (cs ++ c ∷ [])
  but_push zero [] c but some = tt
  but_push (suc k) [] c but some = (some, tt)
  but_push zero (s ∷ cs) c but some = roomy_push cs but
    where
      roomy_push : (cs : List (Sequence X)) → AreRoomy cs → AreRoomy (cs ++ c ∷ [])
      roomy_push [] are = (some, tt)
      roomy_push (s ∷ cs) are = (are.0, roomy_push cs are.1)
  but_push (suc k) (s ∷ cs) c but some = (but.0, but_push k cs c but.1 some)

  pub room_push : (k : ℕ) (cs : List (Sequence X)) (c : Sequence X) → 0 < c.room → min 1 (room_at cs k) ≤ min 1 (room_at (cs ++ c ∷ []) k)
  room_push zero [] c some = omega (arith, some)
  room_push (suc k) [] c some = omega arith
  room_push zero (s ∷ cs) c some = omega arith
  room_push (suc k) (s ∷ cs) c some = room_push k cs c some
