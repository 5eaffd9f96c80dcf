-- What stands below a place, where there is room for one more key.
use Rattle.std.proofs.Common.{◌≡◌, ◌<◌, Bool, true, false, Ok, Err, refl}
use Rattle.std.specs.Prelude.{nat_le}
use Rattle.std.proofs.lemmas.Bool.{lt-leb, leb-false}
use Rattle.ids.specs.declared.refusal.Refusal.TheVariants.{TooDeep}
use Rattle.semantics.specs.Elements.{Element, Place, At, HeadOf, depth}
use Rattle.semantics.specs.Operations.{element_of}
use Rattle.semantics.specs.Questions.{Idx, Lists, step_from}
use Rattle.cursor.specs.Places.{room_at}

room_left : (e : Element) → room_at (At e) ≡ Ok tt → depth e < 32
room_left e room = of (nat_le 32 (depth e)) refl where
  of : (full : Bool) → nat_le 32 (depth e) ≡ full → depth e < 32
  of true is = let t : room_at (At e) ≡ Err TooDeep = rw is refl in absurd (cc)
  of false is = leb-false 32 (depth e) is

-- where there is room, the path one key further has at most 32
pub depth_below : (p : Place) → room_at p ≡ Ok tt → depth (element_of p) < 32
depth_below (At e) room = room_left e room
depth_below (HeadOf l) room = absurd (cc)

-- where there is room, the head of the list here is a step away
pub step_from-Idx : (lists : Lists) (p : Place) → room_at p ≡ Ok tt → step_from lists p (Idx 0) ≡ Ok (HeadOf (element_of p))
step_from-Idx lists (At e) room = rw (lt-leb 32 (depth e) (room_left e room)) refl
step_from-Idx lists (HeadOf l) room = absurd (cc)
