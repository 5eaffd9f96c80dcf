-- JSON without numbers that aren't whole stays so.
use Rattle.std.proofs.Common.{◌≡◌, ◌++◌, ◌∷◌, [], ℕ, Bool, true, false, ◌||◌, List, Ordering, Less, Equal, Greater, nat_cmp, refl}
use Rattle.std.specs.Prelude.{pos, negsuc}
use Rattle.std.specs.Ordering.{match_ordering}
use Rattle.std.specs.Cmp.Lexicographic.{slice_cmp}
use Rattle.serde_json.specs.Data.{Data, Members, no_members, member, put}
use Rattle.serde_json.specs.View.{items_view, view}
use Rattle.serde_json.specs.Written.{has_float, items_have_float, members_have_float}
use Rattle.serde_json.specs.declared.value.Value.{Value}
use Rattle.semantics.specs.Elements.{Scalar, Null, Boolean, Whole, Text}
use Rattle.document.specs.value.Forms.{scalar_json}

both : (a b : Bool) → a ≡ false → b ≡ false → (a || b) ≡ false
both a b h k = rw (h, k) refl

parts : (a b : Bool) → (a || b) ≡ false → (a ≡ false) × (b ≡ false)
parts false b h = (refl, h)
parts true b h = absurd (cc)

pub put_no_float : (k : List ℕ) (d : Data) (ms : Members) → has_float d ≡ false → members_have_float ms ≡ false
    → members_have_float (put k d ms) ≡ false
put_no_float k d no_members h w = both (has_float d) false h refl
put_no_float k d (member l e ms) h w =
    let p = parts (has_float e) (members_have_float ms) w in by (slice_cmp nat_cmp k l) p.0 p.1 (put_no_float k d ms h p.1)
  where
    by : (o : Ordering) → has_float e ≡ false → members_have_float ms ≡ false → members_have_float (put k d ms) ≡ false
        → members_have_float (match_ordering o (member k d (member l e ms)) (member l d ms) (member l e (put k d ms))) ≡ false
    by Less a b c = both (has_float d) (has_float e || members_have_float ms) h (both (has_float e) (members_have_float ms) a b)
    by Equal a b c = both (has_float d) (members_have_float ms) h b
    by Greater a b c = both (has_float e) (members_have_float (put k d ms)) a c

pub pushed_no_float : (vs : List Value) (v : Value) → items_have_float (items_view vs) ≡ false → has_float (view v) ≡ false
    → items_have_float (items_view (vs ++ v ∷ [])) ≡ false
pushed_no_float [] v h w = both (has_float (view v)) false w refl
pushed_no_float (x ∷ xs) v h w =
    let p = parts (has_float (view x)) (items_have_float (items_view xs)) h in
    both (has_float (view x)) (items_have_float (items_view (xs ++ v ∷ []))) p.0 (pushed_no_float xs v p.1 w)

pub scalar_no_float : (s : Scalar) → has_float (scalar_json s) ≡ false
scalar_no_float Null = refl
scalar_no_float (Boolean b) = refl
scalar_no_float (Whole (pos n)) = refl
scalar_no_float (Whole (negsuc n)) = refl
scalar_no_float (Text s) = refl

pub ruleset no_floats = (put_no_float, pushed_no_float, scalar_no_float)
