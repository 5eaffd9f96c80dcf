-- The premises of an exchange of messages are met: one engine writes, and another one gets what it lacks.
use Rattle.std.proofs.Common.{◌≡◌, ◌⊎◌, ℕ, zero, suc, Bool, true, false, not, List, [], ◌∷◌, Some, refl, sym, ap, arith}
use Rattle.std.specs.Prelude.{codes}
use Rattle.ids.specs.Configurations.{Configuration}
use Rattle.semantics.specs.Questions.{Get}
use Rattle.semantics.specs.LegalHistory.{IsAmong}
use Rattle.semantics.specs.Stamped.{Stamped}
use Rattle.semantics.specs.Entries.{stamped_entries}
use Rattle.semantics.specs.Exchange.{LacksRoomFor}
use Rattle.semantics.specs.LegalAnswer.{OfCommand}
use Rattle.semantics.specs.Engine.{Engine, Bundle, published_entries}
use Rattle.semantics.specs.WriteSteps.{push, take_submission, whole_step}
use Rattle.semantics.specs.ReadSteps.{see_published}
use Rattle.semantics.specs.PeerSteps.{lacked, receive_message}
use Rattle.semantics.specs.World.{opened_engine, WorldStep, Push, Take, WholeStep, SayHello, AnswerHello, Deliver, step_by}
use Rattle.semantics.specs.WorldExchange.{HaveOwnNumbers, is_of_lines, AreWithoutLines, IsExchange, IsHandledBelow, IsAppliedUnlessFull}
use Rattle.semantics.proofs.AmongLists.{all_pass}
use Rattle.semantics.proofs.WholeExchanges.{messages_complete}
use Rattle.semantics.proofs.ExampleWords.{whole, assign}

-- replica p among 1 and 2
abbrev configuration : ℕ → Configuration
configuration p = record { own = p; members = 1 ∷ 2 ∷ []; clients = 1; readers = 1; queue = 4; batch = 4; serials = 10 }

abbrev both : List Configuration
both = configuration 1 ∷ configuration 2 ∷ []

abbrev writes : WorldStep
writes = step_by 0 (Push 0 (assign (Get (codes "a") ∷ []) (whole 1)))

abbrev steps : List WorldStep
steps = writes ∷ step_by 0 WholeStep ∷ step_by 1 (SayHello 0) ∷ step_by 0 (AnswerHello 0 0) ∷ step_by 1 (Deliver 0 1) ∷ step_by 1 Take ∷ []

-- the engine that wrote, and the other one in the end
abbrev writer : Engine
writer = (whole_step (push (opened_engine (configuration 1)) 0 (OfCommand (assign (Get (codes "a") ∷ []) (whole 1)))).engine).engine

abbrev reader : Engine
reader = (take_submission (receive_message (see_published (opened_engine (configuration 2)) 0) 0
    (Some (Bundle (lacked writer [])))).engine).engine

not_both : (b c : Configuration) → configuration 1 ≡ b → configuration 2 ≡ c → b.own ≡ c.own → ⊥
not_both b c x y e =
    let first : 1 ≡ b.own = ap (λ (z : Configuration). z.own) x in
    let second : 2 ≡ c.own = ap (λ (z : Configuration). z.own) y in
    omega (arith, first, second, e)

own_numbers : HaveOwnNumbers both
own_numbers zero zero b c h k e = refl
own_numbers zero (suc zero) b c h k e = absurd (not_both b c (cc) (cc) e)
own_numbers (suc zero) zero b c h k e = absurd (not_both c b (cc) (cc) (sym e))
own_numbers (suc zero) (suc zero) b c h k e = refl
own_numbers (suc (suc d)) e b c h k f = cc
own_numbers d (suc (suc e)) b c h k f = cc

without_lines : AreWithoutLines steps
without_lines s m = false_from_not (is_of_lines s.act) (all_pass (λ x. not (is_of_lines x.act)) steps s refl m)
  where
    false_from_not : (b : Bool) → not b ≡ true → b ≡ false
    false_from_not true e = sym e
    false_from_not false e = refl

exchange : IsExchange both steps 1 0 0 1 2 (published_entries writer)
exchange = record {
  before = writes ∷ step_by 0 WholeStep ∷ [];
  between = [];
  later = [];
  after = step_by 1 Take ∷ [];
  t = 0;
  h = 0;
  vector = [];
  hello = refl;
  u = 0;
  k = 1;
  sent = 1;
  answer = refl;
  answerer = writer;
  there = refl;
  had = refl;
  count = 1;
  receipt = refl;
  last = refl;
  all = refl;
}

handled : IsHandledBelow reader 0 2
handled x m = absurd m

complete : (s : Stamped) → IsAmong s (stamped_entries (published_entries writer))
    → IsAppliedUnlessFull reader 0 1 2 s ⊎ LacksRoomFor reader.replica (stamped_entries (published_entries writer))
complete = messages_complete both steps own_numbers without_lines 1 0 0 1 2 (published_entries writer) reader exchange refl handled
