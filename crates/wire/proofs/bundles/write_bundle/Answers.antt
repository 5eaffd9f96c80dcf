use Rattle.std.proofs.Common.{◌≡◌, ◌+◌, ◌++◌, ℕ, [], ◌∷◌, List, map, drop, drop-cons, add-one, sym, ap, ◌∙◌, subst, append_assoc}
use Rattle.std.proofs.Common.{append-nil, rules, Ok}
use Rattle.std.proofs.lemmas.List.{drop_all}
use Rattle.std.proofs.lemmas.List.Elements.{All-map}
use Rattle.semantics.specs.Stamped.{Stamped}
use Rattle.semantics.specs.Vectors.{Vector}
use Rattle.operation.specs.declared.op.Op.{Op}
use Rattle.operation.specs.Ops.{stamped_of}
use Rattle.wire.specs.Bundles.{bundle_form, bundle_text}
use Rattle.wire.specs.Profiles.{line_form, op2_line}
use Rattle.wire.specs.Sent.{CanBeSent}
use Rattle.wire.proofs.BundleBack.{AreBackIfSent, sent_bundle_back}
use Rattle.wire.proofs.bundles.write_bundle.Goals as goal

pub loop-op-preserved : goal.loop-op-preserved
loop-op-preserved c =
    let f : Op → Stamped = stamped_of in
    let ops = c.args.ops.now in
    let i : ℕ = c.loop-op.op-index in
    let o = c.op-item.result in
    let base : Vector = c.loop-op.base.now in
    let before = c.loop-op.text.items in
    let line : c.in_ok-line.line.items ≡ op2_line base (f o) = c.in_ok-line.ensures.line
    ∙ (λ j. c.clear.ensures.items j ++ op2_line base (f (c.deref.ensures j))) in
    let rest : List ℕ = bundle_text o.deps (map f (drop (i + 1) ops)) in
    let pushed : c.push.new.self.items ≡ (before ++ op2_line base (f o)) ++ 10 ∷ [] = c.in_ok-push.ensures.items
    ∙ ap (λ bs. bs ++ 10 ∷ []) (c.in_ok-extend_from_slice.ensures.items ∙ ap (λ bs. before ++ bs) (c.as_slice.ensures.value ∙ line)) in
    let next : drop i ops ≡ o ∷ drop (i + 1) ops = drop-cons ops i o c.loop-op-test.true
    ∙ (λ j. sym c.op-item.is j ∷ drop (sym (add-one i) j) ops) in
    let told : CanBeSent (f o) → line_form base (op2_line base (f o)) ≡ Ok (f o) =
    subst (λ (x : Op). CanBeSent (f x) → line_form base (op2_line base (f x)) ≡ Ok (f x)) c.deref.ensures
    c.in_ok-line.ensures.reads_back in
    let named : c.ids-base.result.now ≡ o.deps = search rules in
    record {
      left = rw named
          (ap (λ bs. bs ++ rest) pushed
          ∙ append_assoc (before ++ op2_line base (f o)) (10 ∷ []) rest
          ∙ append_assoc before (op2_line base (f o)) (10 ∷ rest)
          ∙ ap (λ (xs : List Op). before ++ bundle_text base (map f xs)) (sym next)
          ∙ c.loop-op.invariant.left);
      canonical = search rules;
      back = rw named
          (λ more. c.loop-op.invariant.back
          (subst (λ (xs : List Op). AreBackIfSent base (map f xs)) (sym next) (told, more)));
    }

pub returns-clause-reads_back : goal.returns-clause-reads_back
returns-clause-reads_back c sent =
    let f : Op → Stamped = stamped_of in
    let ops = c.args.ops.now in
    let base : Vector = c.loop-op.base.now in
    let ended : drop c.loop-op.op-index ops ≡ [] = drop_all c.loop-op.op-index ops c.loop-op-test.false in
    let text : c.loop-op.text.items ≡ bundle_text [] (map f ops) =
    sym (append-nil c.loop-op.text.items) ∙ ap (λ (xs : List Op). c.loop-op.text.items ++ bundle_text base (map f xs)) (sym ended)
    ∙ c.loop-op.invariant.left in
    let back = c.loop-op.invariant.back (subst (λ (xs : List Op). AreBackIfSent base (map f xs)) (sym ended) tt) in
    ap (bundle_form []) text ∙ sent_bundle_back [] (map f ops) (All-map CanBeSent f ops sent) back
