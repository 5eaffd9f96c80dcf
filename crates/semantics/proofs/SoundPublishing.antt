-- An engine stays sound when the writer publishes what it handled.
use Rattle.std.proofs.Common.{◌≡◌, Bool, true, false, ◌||◌, not, List, [], ◌∷◌, ◌++◌, length, refl, sym, subst, arith}
use Rattle.std.proofs.lemmas.Bool.{or_parts}
use Rattle.semantics.specs.LegalHistory.{IsAmong}
use Rattle.semantics.specs.DocumentAnswer.{is_any}
use Rattle.semantics.specs.Entries.{Entry}
use Rattle.semantics.specs.Engine.{Engine, Handled}
use Rattle.semantics.specs.WriteSteps.{publish}
use Rattle.semantics.proofs.OwnReplies.{all_first}
use Rattle.semantics.proofs.LastingAnswers.{IsGoodReply}
use Rattle.semantics.proofs.GrownEngines.{with_history, grown_by_history}
use Rattle.semantics.proofs.SoundEngines.{waiting_items, IsInTurn, IsSound, IsLater}
use Rattle.semantics.proofs.AmongLists.{among_left}
use Rattle.semantics.proofs.SoundSeeing.{later_refl}
use Rattle.semantics.proofs.SoundGrowing.{client_grows}

pub none_due : (due : List Handled) → is_any due ≡ false → due ≡ []
none_due [] e = refl
none_due (h ∷ due) e = cc

publishes : (E : Engine) → IsSound E → E.due ≡ [] → IsLater E (with_history E E.replica E.queue [] E.handled (length E.replica.entries))
publishes E s none = record {
  sound = record {
    running = s.running;
    published = omega arith;
    readers = λ i. omega (arith, s.readers i, s.published);
    clients = λ c k e. client_grows E.replica.own E.replica.members E.replica.entries E.replica.entries
        (length E.replica.entries) E.published c k
        ([], refl) s.published s.published (s.clients c k e).above (s.clients c k e);
    turns = subst (λ (d : List Handled). IsInTurn (waiting_items d E.handled E.queue)) none s.turns;
    unanswered = λ x m. s.unanswered x (subst (λ (d : List Handled). IsAmong x (waiting_items d E.handled E.queue)) (sym none) m);
    queued = s.queued;
    handled = λ h m. absurd m;
    due = λ h m. subst (λ (G : List Entry). IsGoodReply E.replica.own E.replica.members G h.submitted h.reply)
        (sym (all_first E.replica.entries))
        (s.handled h m);
  };
  grown = grown_by_history E E.replica E.queue [] E.handled (length E.replica.entries) refl refl ([], refl) s.published
      (λ h m. among_left E.handled [] h (subst (λ (d : List Handled). IsAmong h (d ++ E.handled)) none m));
}

-- The writer's publication keeps an engine sound.
pub published : (E : Engine) → IsSound E → IsLater E (publish E).engine
published E s = at_test (is_any E.due || not (is_any E.handled)) refl
  where
    at_test : (b : Bool) → (is_any E.due || not (is_any E.handled)) ≡ b → IsLater E (publish E).engine
    at_test true e = rw e (later_refl E s)
    at_test false e = rw e (publishes E s (none_due E.due (or_parts (is_any E.due) (not (is_any E.handled)) e).0))
