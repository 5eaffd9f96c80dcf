use Rattle.std.proofs.Common.{◌≡◌, Bool, List, false, nat_le, suc, inl, inr, ◌+◌, true, Result, Ok, Err, subst, length, sym, ap, ◌∙◌}
use Rattle.std.proofs.Common.{add-one}
use Rattle.std.specs.Prelude.{IfErr, IsErrAnd}
use Rattle.semantics.specs.LegalHistory.{greatest_of}
use Rattle.semantics.specs.NamedIds.{vector_of}
use Rattle.semantics.specs.Making.{is_full}
use Rattle.ids.specs.Vectors.{IsNamed}
use Rattle.semantics.specs.Questions.{resolve}
use Rattle.semantics.specs.Context.{doc}
use Rattle.semantics.specs.DocumentAnswer.{lists_of}
use Rattle.semantics.specs.Entries.{Entry, applied}
use Rattle.semantics.proofs.EntryHistories.{length-applied}
use Rattle.inbox.specs.operation.Ops.{command_of}
use Rattle.replica.proofs.MadeOperations.{make-full, make-resolved, make-placed, made_at}
use Rattle.replica.proofs.make.make.Goals as goal

-- the history is full where its operations are as many
full : (G : List Entry) (b : Bool) → is_full G ≡ b → nat_le 1048576 (length (applied G)) ≡ b
full G b is = ap (nat_le 1048576) (length-applied G) ∙ is

pub returns-then-is_full-clause-err : goal.returns-then-is_full-clause-err
returns-then-is_full-clause-err c =
    let G = c.args.document.now.entries in
    inr (make-full (applied G) c.args.own (command_of c.args.command.now) (full G true (sym c.is_full.ensures ∙ c.if-is_full.true)))

-- a refusal that is passed on
passed : {T E : Type 0} (r : Result T E) (x : E) (P : E → Type 0) → IsErrAnd r (λ y. y ≡ x) → P x → IfErr r P
passed (Ok t) x P e p = tt
passed (Err y) x P e p = subst P (sym e) p

pub returns-in_err-place-clause-err : goal.returns-in_err-place-clause-err
returns-in_err-place-clause-err c =
    let G = c.args.document.now.entries in
    let command = command_of c.args.command.now in
    passed c.from_residual.result c.in_err-place.field-0.0 _ c.from_residual.ensures.1
    (elim c.in_err-place.ensures.err [
      | inl none ↦ inl none
      | inr e ↦ inr
          (make-resolved (applied G) c.args.own command (Err c.in_err-place.field-0.0)
          (full G false (sym c.is_full.ensures ∙ c.if-is_full.false))
          (ap (resolve (lists_of (doc (applied G)))) (sym c.expression.ensures) ∙ e))
    ])

pub returns-in_err-check_place-clause-err : goal.returns-in_err-check_place-clause-err
returns-in_err-check_place-clause-err c =
    let G = c.args.document.now.entries in
    let command = command_of c.args.command.now in
    passed c.from_residual-in_err-check_place.result c.in_err-check_place.field-0.0 _ c.from_residual-in_err-check_place.ensures.1
    (inr (make-placed (applied G) c.args.own command c.in_ok-place.place (Err c.in_err-check_place.field-0.0)
    (full G false (sym c.is_full.ensures ∙ c.if-is_full.false))
    (ap (resolve (lists_of (doc (applied G)))) (sym c.expression.ensures)
    ∙ c.in_ok-place.ensures.ok) c.in_err-check_place.ensures))

pub of-requires : goal.of-requires
of-requires c = subst IsNamed (sym c.ids.ensures.ids) c.applied-applied.ensures.named

pub returns-clause-made : goal.returns-clause-made
returns-clause-made c =
    let G = c.args.document.now.entries in
    let command = command_of c.args.command.now in
    let room = full G false (sym c.is_full.ensures ∙ c.if-is_full.false) in
    let counter : c.greatest-counter.result + 1 ≡ suc (greatest_of (λ a. true) (applied G)) =
    add-one c.greatest-counter.result ∙ ap suc (c.greatest-counter.ensures ∙ c.applied-applied.ensures.greatest) in
    let vector : c.in_ok-deps.deps ≡ vector_of (applied G) = c.in_ok-deps.ensures ∙ c.ids.ensures.ids ∙ c.applied-applied.ensures.all in (
      made_at (applied G) c.args.own command c.in_ok-place.place,
      make-placed (applied G) c.args.own command c.in_ok-place.place (Ok c.in_ok-place.place) room
          (ap (resolve (lists_of (doc (applied G)))) (sym c.expression.ensures)
          ∙ c.in_ok-place.ensures.ok) c.in_ok-check_place.ensures,
      λ i. record {
        id = record { counter = counter i; replica = c.args.own };
        vector = vector i;
        place = c.in_ok-place.place;
        mutation = c.in_ok-mutation.ensures i;
      },
    )
