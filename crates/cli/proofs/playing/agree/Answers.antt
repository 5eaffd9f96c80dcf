use Rattle.std.proofs.Common.{◌≡◌, refl, subst, ◌∙◌}
use Rattle.std.specs.Io.KnownBytes.{Appends}
use Rattle.cli.specs.Plays.{agreement}
use Rattle.cli.proofs.playing.agree.Goals as goal

pub returns-in-Ok-clause-done : goal.returns-in-Ok-clause-done
returns-in-Ok-clause-done g c = λ done.
    let text : c.as_bytes.result.now ≡ agreement c.args.replicas c.args.operations = c.as_bytes.ensures.value ∙ c.in-Ok.ensures.ok in (
      subst (λ bs. Appends (g.O.Write.contents c.args.out.now) (g.O.Write.contents c.print.new.out) bs) text
          (c.print.ensures.done done),
      refl,
    )
