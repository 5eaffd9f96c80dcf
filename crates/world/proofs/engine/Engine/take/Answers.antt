-- The oldest submission is handled; if that stops halfway, the submission is put back at the front, and only the replica has changed.
use Rattle.std.proofs.Common.{◌≡◌, ◌||◌, false, nat_le, inl, inr, ◌∷◌, length, map, refl, sym, ap, ◌∙◌, subst, arith}
use Rattle.std.proofs.Common.{eqb-true}
use Rattle.std.proofs.lemmas.List.{length-map}
use Rattle.std.proofs.lemmas.Bool.{lt-leb}
use Rattle.semantics.specs.DocumentAnswer.{is_any}
use Rattle.semantics.specs.LegalHistory.{IsAmong}
use Rattle.semantics.specs.LegalAnswer.{Submitted}
use Rattle.semantics.specs.Engine.{Engine as TheEngine}
use Rattle.semantics.specs.Replica.{IsRunning}
use Rattle.semantics.proofs.SoundEngines.{IsSound}
use Rattle.replica.specs.operation.Submissions.{submitted_of}
use Rattle.world.specs.Engines.{client_of, handled_of}
use Rattle.world.specs.Parts.{TakesInPart}
use Rattle.world.specs.contracts.engine.Engine.{the_view}
use Rattle.world.proofs.ReachedWorlds.{reached_sound}
use Rattle.world.proofs.WholeSteps.{none_mapped}
use Rattle.world.proofs.engine.Engine.take.Goals as goal

pub handle-requires-clause-running : goal.handle-requires-clause-running
handle-requires-clause-running c = subst (λ (E : TheEngine). IsRunning E.replica) (sym c.self.view_is)
    (reached_sound c.args.self.now c.requires).running

pub handle-requires-clause-above : goal.handle-requires-clause-above
handle-requires-clause-above c =
    let E : TheEngine = the_view c.self.inside in
    let s : IsSound E = subst IsSound (sym c.self.view_is) (reached_sound c.args.self.now c.requires) in
    let x : Submitted = submitted_of c.in-Some.submission in
    let oldest : E.queue
    ≡ x ∷ map submitted_of c.pop_front.new.self.items = ap (map submitted_of) c.in-Some.ensures.items in
    s.queued x (subst (IsAmong x) (sym oldest) (inl refl))

pub returns-in_default-handle-clause-stopped : goal.returns-in_default-handle-clause-stopped
returns-in_default-handle-clause-stopped c =
    let I = c.self.inside in
    let E : TheEngine = the_view I in
    let F : TheEngine = the_view
    (record I {
      handler = c.handle.new.handler;
      publisher = c.handle.new.publisher;
      queue = c.push_front_reserved.new.self;
      handled = c.reserve.new.self;
    }) in
    let same_queue : c.push_front_reserved.new.self.items ≡ I.queue.items = c.push_front_reserved.ensures.items
    ∙ sym c.in-Some.ensures.items in
    let is : F ≡ record E { replica = F.replica } =
    (λ i. record {
      capacity = E.capacity;
      batch = E.batch;
      serials = E.serials;
      replica = F.replica;
      queue = map submitted_of (same_queue i);
      handled = map handled_of (c.reserve.ensures.items i);
      due = map handled_of I.due.items;
      published = length (c.handle.ensures.published i);
      clients = map client_of I.clients.items;
      readers = E.readers;
    }) in
    let none : length I.due.items ≡ 0 = (let e = eqb-true _ _ (sym c.is_empty.ensures ∙ c.if-not-is_empty.false) in omega (arith, e)) in
    let due : is_any E.due ≡ false = none_mapped handled_of I.due.items none in
    let low : nat_le E.batch (length E.handled)
    ≡ false = lt-leb E.batch (length E.handled) (omega (arith, length-map I.handled.items handled_of)) in
    let part : TakesInPart E F = inr (record {
      free = λ i. due i || low i;
      submission = submitted_of c.in-Some.submission;
      queue = map submitted_of c.pop_front.new.self.items;
      oldest = ap (map submitted_of) c.in-Some.ensures.items;
      handled = c.in_default-handle.ensures.stopped;
      same = is;
    }) in
    subst (λ A. TakesInPart A F) c.self.view_is part
