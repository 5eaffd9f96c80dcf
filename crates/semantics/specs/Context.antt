-- The document that a history leaves.
use Rattle.std.specs.Prelude.{Bool, true, cond, not, List, [], ◌∷◌, Option, Some, None}
use Rattle.std.specs.declared.cmp.Ordering.{Ordering}
use Rattle.std.specs.List.{filter, list_any}
use Rattle.std.specs.FinMap.{put}
use Rattle.semantics.specs.Ids.{OpId, IdSet, id_cmp, is_same_id, is_smaller_id}
use Rattle.semantics.specs.Elements.{Element, Scalar, Tag, Name, name_cmp, is_under}
use Rattle.semantics.specs.Operations.{Operation, target, tag_given, scalar_given, name_given, inserted_after}

-- What stands at each element: its presence, its register, the names that fields of its map ever had, and the order of its list.
-- A presence and a register are finite maps, as lists of entries in ascending order of id.
pub record Context : Type 0 where
  pub presence : Element → List (OpId × Tag)
  pub register : Element → List (OpId × Scalar)
  pub fields : Element → List (Name × Unit {0})
  pub order : Element → List OpId

-- nothing stands anywhere
abbrev pub empty : Context
empty = record { presence = λ e. []; register = λ e. []; fields = λ e. []; order = λ e. [] }

-- the entry, if there is one, in its place
abbrev pub put_some : {K X : Type 0} → (K → K → Ordering) → K → Option X → List (K × X) → List (K × X)
put_some R a None es = es
put_some R a (Some x) es = put R a x es

-- the name, if there is one, in its place
abbrev pub put_name : Option Name → List (Name × Unit {0}) → List (Name × Unit {0})
put_name None ns = ns
put_name (Some n) ns = put name_cmp n tt ns

-- the entries whose ids are not in S
abbrev pub without : {X : Type 0} → IdSet → List (OpId × X) → List (OpId × X)
without S es = filter (λ e. not (S e.0)) es

-- at e and everything under it, the entries whose ids are in S are removed, and all others stay
abbrev pub clear : Context → Element → IdSet → Context
clear C e S = record C {
  presence = λ x. cond (is_under x e) (without S (C.presence x)) (C.presence x);
  register = λ x. cond (is_under x e) (without S (C.register x)) (C.register x);
}

-- a is one of the items
abbrev pub has_item : OpId → List OpId → Bool
has_item a bs = list_any (is_same_id a) bs

-- p is one of the items, or the head
abbrev pub has_position : Option OpId → List OpId → Bool
has_position None bs = true
has_position (Some p) bs = has_item p bs

-- a goes before the first of these that is smaller, or at the end
abbrev pub skip : OpId → List OpId → List OpId
skip a [] = a ∷ []
skip a (b ∷ bs) = cond (is_smaller_id b a) (a ∷ b ∷ bs) (b ∷ skip a bs)

-- a goes after p, or after the head, past each next item that is greater: the skipping rule of RGA
abbrev pub insert_after : Option OpId → OpId → List OpId → List OpId
insert_after None a bs = skip a bs
insert_after (Some p) a [] = []
insert_after (Some p) a (b ∷ bs) = cond (is_same_id p b) (b ∷ skip a bs) (b ∷ insert_after (Some p) a bs)

-- a goes in, where there is something that it goes after
abbrev pub insert_some : Option (Option OpId) → OpId → List OpId → List OpId
insert_some None a bs = bs
insert_some (Some p) a bs = insert_after p a bs

-- the item of an insert goes into the order of its list
abbrev pub link : Context → Operation → Context
link C o = record C { order = λ l. insert_some (inserted_after o l) o.id (C.order l) }

-- o's id goes to the presence of its target and of each element on the way down to it, and its scalar into the target's register,
-- and the names of the fields on the way are noted; a delete writes nothing
abbrev pub write : Context → Operation → Context
write C o = record C {
  presence = λ e. put_some id_cmp o.id (tag_given o e) (C.presence e);
  register = λ e. put_some id_cmp o.id (scalar_given o e) (C.register e);
  fields = λ e. put_name (name_given o e) (C.fields e);
}

-- an insert is linked in; then the target is cleared of what the operation depends on (nothing stands yet at an insert's new
-- item); then the operation writes
abbrev pub apply : Context → Operation → Context
apply C o = write (clear (link C o) (target o) o.deps) o

-- the document of a history: each operation is applied after those before it
abbrev pub doc : List Operation → Context
doc [] = empty
doc (o ∷ H) = apply (doc H) o
