-- What a step leaves, once all is published.
use Rattle.std.proofs.Common.{◌≡◌, ◌<◌, List, [], length, refl, sym, ap, subst, arith}
use Rattle.semantics.specs.Entries.{Entry}
use Rattle.semantics.specs.Engine.{Handled}
use Rattle.engine.specs.WriterSteps.{Writer, IsWriterStep, Ends, Shows}
use Rattle.engine.specs.declared.writer.Step.{Step}
use Rattle.engine.specs.declared.writer.Step.TheVariants.{Idle, Published, Held}

module _ (w m : Writer) (t : IsWriterStep w m.held m) (published : m.published ≡ w.published) where
  -- nothing was done that has to be shown
  pub idle : m.held ≡ [] → m.published ≡ m.handler.replica.entries → (hs : List Handled) × IsWriterStep w hs m × Ends w hs Idle m
  idle none whole = (m.held, t, (none, none, published, whole))

  pub shown : (length m.held ≡ 0 → length m.published < length m.handler.replica.entries) → (r : Step) (v : Writer) → Shows m r v
      → (hs : List Handled) × IsWriterStep w hs v × Ends w hs r v
  shown more Idle v s = absurd s
  shown more (Published n) v s =
      subst (λ (u : Writer). (hs : List Handled) × IsWriterStep w hs u × Ends w hs (Published n) u) (sym s.1) (
        m.held,
        record {
          rested = t.rested;
          resumes = t.resumes;
          runs = t.runs;
          items = t.items;
          took = t.took;
          handled = t.handled;
          few = t.few;
          empty = t.empty;
        },
        (
          s.0,
          refl,
          refl,
          (λ z. (let e = s.0 in let f = ap (length {A = Entry}) published in let g = more (omega (arith, z, e)) in omega (arith, f, g))),
        ),
      )
  shown more Held v s =
      subst (λ (u : Writer). (hs : List Handled) × IsWriterStep w hs u × Ends w hs Held u) (sym s)
      (m.held, t, (refl, published, more))
