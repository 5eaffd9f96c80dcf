-- What a step with a command or a question is read from is the JSON that writing it gives.
use Rattle.std.proofs.Common.{◌≡◌, ℕ, Bool, true, false, cond, List, [], Result, Ok}
use Rattle.std.proofs.Common.{refl, sym, ap, ◌∙◌, subst}
use Rattle.std.specs.Prelude.{⊤, codes}
use Rattle.std.specs.Str.{bytes_eq}
use Rattle.ids.specs.declared.refusal.Refusal.{Refusal}
use Rattle.semantics.specs.Making.{Command}
use Rattle.semantics.specs.LegalAnswer.{Asked}
use Rattle.semantics.specs.World.{WorldAct, WorldStep, step_by, Push, Take, Publish, Give, WholeStep, Poll, Ask, Learn, SayHello}
use Rattle.semantics.specs.World.{AnswerHello}
use Rattle.semantics.specs.World.{Deliver, CountDropped}
use Rattle.serde_json.specs.Data.{Data, Items, no_items, item}
use Rattle.world.specs.wire.Bundles.{readable}
use Rattle.world.specs.wire.Forms.{and_then, json_form, number_form, phrase_form, text_form}
use Rattle.world.proofs.wire.NormalNumbers.{AreNormal, IsNormal}
use Rattle.world.proofs.wire.WrittenBack.{made_of, number_in, phrase_in, same_ok, word_is}
use Rattle.world.proofs.wire.WrittenLines.{json_normal}
use Rattle.requests.specs.declared.edition.Edition.{Edition}
use Rattle.scripts.specs.NumberedSteps.{engine_step_of, message_step_of, numbered_step_of}
use Rattle.scripts.specs.Numbers.{one_number, two_numbers, three_numbers, four_numbers}
use Rattle.scripts.specs.Steps.{any_step_of, ask_of, line_of, lines_step, push_of, step_form}
use Rattle.scripts.specs.Written.{ask_json, push_json}
use Rattle.requests.specs.Commands.{command_form}
use Rattle.requests.specs.Questions.{question_form}
use Rattle.requests.proofs.WrittenBack.{command_in, question_in, worded}

module _ (ed : Edition) where
  -- ---- steps

  -- the JSON of a step, if it has a command or a question
  abbrev IsWritten : Data → ℕ → WorldAct → Type 0
  IsWritten d e (Push c k) = d ≡ push_json e c k
  IsWritten d e (Ask t q) = d ≡ ask_json e t q
  IsWritten d e _ = ⊤

  abbrev HasJson : Data → WorldStep → Type 0
  HasJson d s = IsWritten d s.engine s.act

  push_in : (xs : Items) (s : WorldStep) → AreNormal xs → push_of ed xs ≡ Ok s → HasJson (worded (codes "push") xs) s
  push_in (item a (item b (item d no_items))) s normal h =
      let e = made_of (λ e. and_then (λ c. and_then (λ k. Ok (step_by e (Push c k))) (command_form ed d)) (number_form b))
      (number_form a) s h in
      let c = made_of (λ c. and_then (λ k. Ok (step_by e.0 (Push c k))) (command_form ed d)) (number_form b) s e.2 in
      let k = made_of (λ k. Ok (step_by e.0 (Push c.0 k))) (command_form ed d) s c.2 in
      let is : worded (codes "push") (item a (item b (item d no_items))) ≡ push_json e.0 c.0 k.0 =
      (λ i. worded (codes "push")
      (item (number_in a e.0 e.1 i) (item (number_in b c.0 c.1 i) (item (command_in ed d k.0 normal.1.1.0 k.1 i) no_items)))) in
      subst (HasJson (worded (codes "push") (item a (item b (item d no_items))))) (same_ok (step_by e.0 (Push c.0 k.0)) s k.2) is
  push_in no_items s normal h = absurd (cc)
  push_in (item a no_items) s normal h = absurd (cc)
  push_in (item a (item b no_items)) s normal h = absurd (cc)
  push_in (item a (item b (item d (item x xs)))) s normal h = absurd (cc)

  ask_in : (xs : Items) (s : WorldStep) → ask_of ed xs ≡ Ok s → HasJson (worded (codes "ask") xs) s
  ask_in (item a (item b (item d no_items))) s h =
      let e = made_of (λ e. and_then (λ t. and_then (λ q. Ok (step_by e (Ask t q))) (question_form ed d)) (number_form b))
      (number_form a) s h in
      let t = made_of (λ t. and_then (λ q. Ok (step_by e.0 (Ask t q))) (question_form ed d)) (number_form b) s e.2 in
      let q = made_of (λ q. Ok (step_by e.0 (Ask t.0 q))) (question_form ed d) s t.2 in
      let is : worded (codes "ask") (item a (item b (item d no_items))) ≡ ask_json e.0 t.0 q.0 =
      (λ i. worded (codes "ask")
      (item (number_in a e.0 e.1 i) (item (number_in b t.0 t.1 i) (item (question_in ed d q.0 q.1 i) no_items)))) in
      subst (HasJson (worded (codes "ask") (item a (item b (item d no_items))))) (same_ok (step_by e.0 (Ask t.0 q.0)) s q.2) is
  ask_in no_items s h = absurd (cc)
  ask_in (item a no_items) s h = absurd (cc)
  ask_in (item a (item b no_items)) s h = absurd (cc)
  ask_in (item a (item b (item d (item x xs)))) s h = absurd (cc)

  -- a step that is made of other parts holds neither
  other_in : {A : Type 0} (d : Data) (f : A → WorldStep) (r : Result A Refusal) (s : WorldStep) → ((x : A) → HasJson d (f x))
      → and_then (λ x. Ok (f x)) r ≡ Ok s → HasJson d s
  other_in d f r s none h = let x = made_of (λ x. Ok (f x)) r s h in subst (HasJson d) (same_ok (f x.0) s x.2) (none x.0)

  line_in : (d : Data) (xs : Items) (s : WorldStep) → line_of xs ≡ Ok s → HasJson d s
  line_in d (item a (item b (item t no_items))) s h =
      let e = made_of
      (λ e. and_then (λ c. and_then (λ bytes. Ok (lines_step e c (readable [] bytes))) (text_form t)) (number_form b))
      (number_form a) s h in
      let c = made_of (λ c. and_then (λ bytes. Ok (lines_step e.0 c (readable [] bytes))) (text_form t))
      (number_form b) s e.2 in
      other_in d (λ bytes. lines_step e.0 c.0 (readable [] bytes)) (text_form t) s (λ bytes. tt) c.2
  line_in d no_items s h = absurd (cc)
  line_in d (item a no_items) s h = absurd (cc)
  line_in d (item a (item b no_items)) s h = absurd (cc)
  line_in d (item a (item b (item t (item x xs)))) s h = absurd (cc)

  -- one word's step, or what the other words give
  one_word : (d : Data) (t : Bool) (r rest : Result WorldStep Refusal) (s : WorldStep) → (r ≡ Ok s → HasJson d s)
      → (rest ≡ Ok s → HasJson d s) → cond t r rest ≡ Ok s → HasJson d s
  one_word d true r rest s first others h = first h
  one_word d false r rest s first others h = others h

  engine_step_in : (d : Data) (p : List ℕ × Items) (s : WorldStep) → engine_step_of p ≡ Ok s → HasJson d s
  engine_step_in d p s =
      one_word d (bytes_eq p.0 (codes "take")) _ _ s (other_in d (λ e. step_by e Take) (one_number p.1) s (λ e. tt))
      (one_word d (bytes_eq p.0 (codes "publish")) _ _ s (other_in d (λ e. step_by e Publish) (one_number p.1) s (λ e. tt))
      (one_word d (bytes_eq p.0 (codes "give")) _ _ s (other_in d (λ e. step_by e Give) (one_number p.1) s (λ e. tt))
      (one_word d (bytes_eq p.0 (codes "step")) _ _ s (other_in d (λ e. step_by e WholeStep) (one_number p.1) s (λ e. tt))
      (one_word d (bytes_eq p.0 (codes "dropped")) _ _ s (other_in d (λ e. step_by e CountDropped) (one_number p.1) s (λ e. tt))
      (λ h. absurd (cc))))))

  message_step_in : (d : Data) (p : List ℕ × Items) (s : WorldStep) → message_step_of p ≡ Ok s → HasJson d s
  message_step_in d p s =
      one_word d (bytes_eq p.0 (codes "hello")) _ _ s (other_in d (λ (n : ℕ × ℕ). step_by n.0 (SayHello n.1)) (two_numbers p.1) s (λ n. tt))
      (one_word d (bytes_eq p.0 (codes "bundle")) _ _ s
      (other_in d (λ (n : ℕ × ℕ × ℕ). step_by n.0 (AnswerHello n.1 n.2)) (three_numbers p.1) s (λ n. tt))
      (one_word d (bytes_eq p.0 (codes "deliver")) _ _ s
      (other_in d (λ (n : ℕ × ℕ × ℕ). step_by n.0 (Deliver n.1 n.2)) (three_numbers p.1) s (λ n. tt)) (engine_step_in d p s)))

  numbered_step_in : (d : Data) (p : List ℕ × Items) (s : WorldStep) → numbered_step_of p ≡ Ok s → HasJson d s
  numbered_step_in d p s =
      one_word d (bytes_eq p.0 (codes "poll")) _ _ s
      (other_in d (λ (n : ℕ × ℕ × ℕ). step_by n.0 (Poll n.1 n.2)) (three_numbers p.1) s (λ n. tt))
      (one_word d (bytes_eq p.0 (codes "learn")) _ _ s
      (other_in d (λ (n : ℕ × ℕ × ℕ × ℕ). step_by n.0 (Learn n.1 n.2 n.3)) (four_numbers p.1) s (λ n. tt)) (message_step_in d p s))

  step_in : (d : Data) (s : WorldStep) → IsNormal d → step_form ed d ≡ Ok s → HasJson d s
  step_in d s normal h =
      let p = made_of (any_step_of ed) (phrase_form d) s h in
      let is = phrase_in d p.0 p.1 in
      subst (λ x. HasJson x s) (sym is)
      (by p.0.0 p.0.1 (bytes_eq p.0.0 (codes "push")) (bytes_eq p.0.0 (codes "ask")) (bytes_eq p.0.0 (codes "line")) refl refl
      ((subst IsNormal is normal).1) p.2)
    where
      by : (word : List ℕ) (xs : Items) (push ask line : Bool) → bytes_eq word (codes "push") ≡ push → bytes_eq word (codes "ask") ≡ ask
          → AreNormal xs
          → cond push (push_of ed xs) (cond ask (ask_of ed xs) (cond line (line_of xs) (numbered_step_of (word, xs)))) ≡ Ok s
          → HasJson (worded word xs) s
      by word xs true ask line is_push is_ask n e = subst (λ w. HasJson (worded w xs) s) (sym (word_is word (codes "push") is_push))
          (push_in xs s n e)
      by word xs false true line is_push is_ask n e = subst (λ w. HasJson (worded w xs) s) (sym (word_is word (codes "ask") is_ask))
          (ask_in xs s e)
      by word xs false false true is_push is_ask n e = line_in (worded word xs) xs s e
      by word xs false false false is_push is_ask n e = numbered_step_in (worded word xs) (word, xs) s e

-- ---- lines

pub push_line_in : (ed : Edition) (text : List ℕ) (e c : ℕ) (k : Command)
    → and_then (step_form ed) (json_form text) ≡ Ok (step_by e (Push c k)) → json_form text ≡ Ok (push_json e c k)
push_line_in ed text e c k h =
    let d = made_of (step_form ed) (json_form text) (step_by e (Push c k)) h in
    d.1 ∙ ap Ok (step_in ed d.0 (step_by e (Push c k)) (json_normal text d.0 d.1) d.2)

pub ask_line_in : (ed : Edition) (text : List ℕ) (e t : ℕ) (q : Asked)
    → and_then (step_form ed) (json_form text) ≡ Ok (step_by e (Ask t q)) → json_form text ≡ Ok (ask_json e t q)
ask_line_in ed text e t q h =
    let d = made_of (step_form ed) (json_form text) (step_by e (Ask t q)) h in
    d.1 ∙ ap Ok (step_in ed d.0 (step_by e (Ask t q)) (json_normal text d.0 d.1) d.2)
