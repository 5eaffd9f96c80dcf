-- What is read as a command or a question is the JSON that writing it gives.
use Rattle.std.proofs.Common.{◌≡◌, ℕ, nat_lt, length, Bool, true, false, cond, List, [], ◌∷◌, map, Ok, Err}
use Rattle.std.proofs.Common.{refl, ap, ◌∙◌, subst}
use Rattle.std.specs.Prelude.{codes, is_some}
use Rattle.std.specs.Str.{bytes_eq}
use Rattle.ids.specs.declared.refusal.Refusal.TheVariants.{BadLine, KeyTooLong}
use Rattle.semantics.specs.Elements.{Value}
use Rattle.semantics.specs.Operations.{Mutation, Assign, Insert, Delete}
use Rattle.semantics.specs.Making.{Command}
use Rattle.semantics.specs.Questions.{Step, Get, Idx, ById, Question, Values, Keys, Items as ItemsAt, Conflicts, AppliedVector}
use Rattle.semantics.specs.LegalAnswer.{Asked, OfDocument, Missing}
use Rattle.serde_json.specs.Data.{Data, null, boolean, number, string, array, object, Items, no_items, item}
use Rattle.serde_json.specs.Find.{as_array}
use Rattle.serde_json.specs.View.{items_of}
use Rattle.document.specs.value.Forms.{json_of, value_form}
use Rattle.wire.specs.Forms.{and_then, json_form, list_form, number_form, phrase_form}
use Rattle.wire.specs.OpIds.{id_form}
use Rattle.wire.specs.Vectors.{vector_form, vector_json}
use Rattle.wire.proofs.NormalNumbers.{AreNormal, IsNormal}
use Rattle.wire.proofs.WrittenBack.{id_form_in, made_of, list_in, number_in, phrase_in, same_ok, value_in, vector_in, word_is}
use Rattle.wire.proofs.WrittenLines.{json_normal}
use Rattle.requests.specs.declared.edition.Edition.{Edition}
use Rattle.requests.specs.declared.edition.Edition.TheVariants.{First, Second}
use Rattle.requests.specs.Expressions.{expression_form, index_form, item_form, path_step_form, path_steps_of}
use Rattle.requests.specs.Commands.{command_form, command_of, delete_of, writing_of}
use Rattle.requests.specs.Questions.{applied_of, asking_of, missing_of, question_form, question_of}
use Rattle.requests.specs.Written.{command_json, expression_json, path_step_json, question_json}

-- ---- expressions

short_key : (key : List ℕ) (s : Step) (t : Bool) → cond t (Err KeyTooLong) (Ok (Get key)) ≡ Ok s → string key ≡ path_step_json s
short_key key s true h = absurd (cc)
short_key key s false h = ap path_step_json (same_ok (Get key) s h)

index_in : (d : Data) (s : Step) → index_form d ≡ Ok s → d ≡ path_step_json s
index_in d s h = let i = made_of (λ i. Ok (Idx i)) (number_form d) s h in number_in d i.0 i.1 ∙ ap path_step_json (same_ok (Idx i.0) s i.2)

item_in : (ed : Edition) (d : Data) (s : Step) → item_form ed d ≡ Ok s → d ≡ path_step_json s
item_in First d s h = index_in d s h
item_in Second d s h = by (is_some (as_array d)) h where
  by : (listed : Bool) → cond listed (and_then (λ a. Ok (ById a)) (id_form d)) (index_form d) ≡ Ok s → d ≡ path_step_json s
  by true k = let a = made_of (λ a. Ok (ById a)) (id_form d) s k in id_form_in d a.0 a.1 ∙ ap path_step_json (same_ok (ById a.0) s a.2)
  by false k = index_in d s k

-- a word and its parts
abbrev pub worded : List ℕ → Items → Data
worded word xs = array (item (string word) xs)

module _ (ed : Edition) where
  path_step_in : (d : Data) (s : Step) → path_step_form ed d ≡ Ok s → d ≡ path_step_json s
  path_step_in (string key) s h = short_key key s (nat_lt 256 (length key)) h
  path_step_in (number n) s h = item_in ed (number n) s h
  path_step_in null s h = item_in ed null s h
  path_step_in (boolean b) s h = item_in ed (boolean b) s h
  path_step_in (array ds) s h = item_in ed (array ds) s h
  path_step_in (object ms) s h = item_in ed (object ms) s h

  path_steps_in : (xs : Items) (ss : List Step) → path_steps_of ed xs ≡ Ok ss → xs ≡ items_of (map path_step_json ss)
  path_steps_in no_items ss h = ap (λ (e : List Step). items_of (map path_step_json e)) (same_ok [] ss h)
  path_steps_in (item d ds) ss h =
      let s = made_of (λ s. and_then (λ rest. Ok (s ∷ rest)) (path_steps_of ed ds)) (path_step_form ed d) ss h in
      let rest = made_of (λ rest. Ok (s.0 ∷ rest)) (path_steps_of ed ds) ss s.2 in
      (λ i. item (path_step_in d s.0 s.1 i) (path_steps_in ds rest.0 rest.1 i))
      ∙ ap (λ (e : List Step). items_of (map path_step_json e)) (same_ok (s.0 ∷ rest.0) ss rest.2)

  expression_in : (d : Data) (e : List Step) → expression_form ed d ≡ Ok e → d ≡ expression_json e
  expression_in d e h = let xs = made_of (path_steps_of ed) (list_form d) e h in list_in d xs.0 xs.1 ∙ ap array (path_steps_in xs.0 e xs.2)

  -- ---- commands

  writing_in : (how : Value → Mutation) (xs : Items) (c : Command) → AreNormal xs → writing_of ed how xs ≡ Ok c
      → (e : List Step) × (v : Value) × (xs ≡ item (expression_json e) (item (json_of v) no_items))
      × (record { expression = e; mutation = how v } ≡ c)
  writing_in how (item d (item w no_items)) c normal h =
      let e = made_of (λ e. and_then (λ v. Ok (record { expression = e; mutation = how v })) (value_form w)) (expression_form ed d) c h in
      let v = made_of (λ v. Ok (record { expression = e.0; mutation = how v })) (value_form w) c e.2 in (
        e.0,
        v.0,
        (λ i. item (expression_in d e.0 e.1 i) (item (value_in w v.0 normal.1.0 v.1 i) no_items)),
        same_ok (record { expression = e.0; mutation = how v.0 }) c v.2,
      )
  writing_in how no_items c normal h = absurd (cc)
  writing_in how (item d no_items) c normal h = absurd (cc)
  writing_in how (item d (item w (item x xs))) c normal h = absurd (cc)

  delete_in : (xs : Items) (c : Command) → delete_of ed xs ≡ Ok c → worded (codes "delete") xs ≡ command_json c
  delete_in (item d no_items) c h =
      let e = made_of (λ e. Ok (record { expression = e; mutation = Delete })) (expression_form ed d) c h in
      (λ i. worded (codes "delete") (item (expression_in d e.0 e.1 i) no_items))
      ∙ ap command_json (same_ok (record { expression = e.0; mutation = Delete }) c e.2)
  delete_in no_items c h = absurd (cc)
  delete_in (item d (item x xs)) c h = absurd (cc)

  pub command_in : (d : Data) (c : Command) → IsNormal d → command_form ed d ≡ Ok c → d ≡ command_json c
  command_in d c normal h =
      let p = made_of (command_of ed) (phrase_form d) c h in
      let is = phrase_in d p.0 p.1 in
      is ∙ by p.0.0 p.0.1 (bytes_eq p.0.0 (codes "assign")) (bytes_eq p.0.0 (codes "insert"))
      (bytes_eq p.0.0 (codes "delete")) refl refl refl
      ((subst IsNormal is normal).1) p.2
    where
      by : (word : List ℕ) (xs : Items) (a i d : Bool) → bytes_eq word (codes "assign") ≡ a → bytes_eq word (codes "insert") ≡ i
          → bytes_eq word (codes "delete") ≡ d → AreNormal xs
          → cond a (writing_of ed Assign xs) (cond i (writing_of ed Insert xs) (cond d (delete_of ed xs) (Err BadLine))) ≡ Ok c
          → worded word xs ≡ command_json c
      by word xs true i d is_a is_i is_d n e =
          let w = writing_in Assign xs c n e in
          (λ j. worded (word_is word (codes "assign") is_a j) (w.2 j)) ∙ ap command_json w.3
      by word xs false true d is_a is_i is_d n e =
          let w = writing_in Insert xs c n e in
          (λ j. worded (word_is word (codes "insert") is_i j) (w.2 j)) ∙ ap command_json w.3
      by word xs false false true is_a is_i is_d n e = ap (λ w. worded w xs) (word_is word (codes "delete") is_d) ∙ delete_in xs c e
      by word xs false false false is_a is_i is_d n e = absurd (cc)

  -- ---- questions

  -- an expression alone
  asking_in : (what : List Step → Question) (xs : Items) (q : Asked) → asking_of ed what xs ≡ Ok q
      → (e : List Step) × (xs ≡ item (expression_json e) no_items) × (OfDocument (what e) ≡ q)
  asking_in what (item d no_items) q h =
      let e = made_of (λ e. Ok (OfDocument (what e))) (expression_form ed d) q h in
      (e.0, ap (λ x. item x no_items) (expression_in d e.0 e.1), same_ok (OfDocument (what e.0)) q e.2)
  asking_in what no_items q h = absurd (cc)
  asking_in what (item d (item x xs)) q h = absurd (cc)

  asking_written : (what : List Step → Question) (word want : List ℕ) (xs : Items) (q : Asked) → bytes_eq word want ≡ true
      → asking_of ed what xs ≡ Ok q
      → ((e : List Step) → worded want (item (expression_json e) no_items) ≡ question_json (OfDocument (what e)))
      → worded word xs ≡ question_json q
  asking_written what word want xs q is h written =
      let e = asking_in what xs q h in
      (λ i. worded (word_is word want is i) (e.1 i)) ∙ written e.0 ∙ ap question_json e.2

  missing_in : (xs : Items) (q : Asked) → missing_of xs ≡ Ok q → worded (codes "missing") xs ≡ question_json q
  missing_in (item d no_items) q h =
      let v = made_of (λ v. Ok (Missing v)) (vector_form d) q h in
      let is : d ≡ vector_json v.0 = vector_in d v.0 v.1 in
      (λ i. worded (codes "missing") (item (is i) no_items)) ∙ ap question_json (same_ok (Missing v.0) q v.2)
  missing_in no_items q h = absurd (cc)
  missing_in (item d (item x xs)) q h = absurd (cc)

  applied_in : (xs : Items) (q : Asked) → applied_of xs ≡ Ok q → worded (codes "vector") xs ≡ question_json q
  applied_in no_items q h = ap question_json (same_ok (OfDocument AppliedVector) q h)
  applied_in (item x xs) q h = absurd (cc)

  pub question_in : (d : Data) (q : Asked) → question_form ed d ≡ Ok q → d ≡ question_json q
  question_in d q h = let p = made_of (question_of ed) (phrase_form d) q h in phrase_in d p.0 p.1
      ∙ by p.0.0 p.0.1 (bytes_eq p.0.0 (codes "values")) (bytes_eq p.0.0 (codes "keys")) (bytes_eq p.0.0 (codes "items"))
      (bytes_eq p.0.0 (codes "conflicts")) (bytes_eq p.0.0 (codes "missing"))
      (bytes_eq p.0.0 (codes "vector")) refl refl refl refl refl refl p.2
    where
      by : (word : List ℕ) (xs : Items) (vs ks is cs m v : Bool) → bytes_eq word (codes "values") ≡ vs → bytes_eq word (codes "keys") ≡ ks
          → bytes_eq word (codes "items") ≡ is → bytes_eq word (codes "conflicts") ≡ cs
          → bytes_eq word (codes "missing") ≡ m → bytes_eq word (codes "vector") ≡ v
          → cond vs (asking_of ed Values xs)
          (cond ks (asking_of ed Keys xs)
          (cond is (asking_of ed ItemsAt xs)
          (cond cs (asking_of ed Conflicts xs) (cond m (missing_of xs) (cond v (applied_of xs) (Err BadLine))))))
          ≡ Ok q
          → worded word xs ≡ question_json q
      by word xs true ks is cs m v a b c d e f h = asking_written Values word (codes "values") xs q a h (λ e. refl)
      by word xs false true is cs m v a b c d e f h = asking_written Keys word (codes "keys") xs q b h (λ e. refl)
      by word xs false false true cs m v a b c d e f h = asking_written ItemsAt word (codes "items") xs q c h (λ e. refl)
      by word xs false false false true m v a b c d e f h = asking_written Conflicts word (codes "conflicts") xs q d h (λ e. refl)
      by word xs false false false false true v a b c d e f h = ap (λ w. worded w xs) (word_is word (codes "missing") e)
          ∙ missing_in xs q h
      by word xs false false false false false true a b c d e f h = ap (λ w. worded w xs) (word_is word (codes "vector") f)
          ∙ applied_in xs q h
      by word xs false false false false false false a b c d e f h = absurd (cc)

-- ---- texts

pub command_text_in : (ed : Edition) (text : List ℕ) (c : Command) → and_then (command_form ed) (json_form text) ≡ Ok c
    → json_form text ≡ Ok (command_json c)
command_text_in ed text c h =
    let d = made_of (command_form ed) (json_form text) c h in d.1 ∙ ap Ok (command_in ed d.0 c (json_normal text d.0 d.1) d.2)

pub question_text_in : (ed : Edition) (text : List ℕ) (q : Asked) → and_then (question_form ed) (json_form text) ≡ Ok q
    → json_form text ≡ Ok (question_json q)
question_text_in ed text q h = let d = made_of (question_form ed) (json_form text) q h in d.1 ∙ ap Ok (question_in ed d.0 q d.2)
