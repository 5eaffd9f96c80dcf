use Rattle.std.proofs.Common.{◌∙◌, List, ℕ, inl, refl, subst, sym}
use Rattle.jdoc_c.specs.declared.held.Role.{Role}
use Rattle.jdoc_c.specs.declared.held.Role.TheVariants.{Writes}
use Rattle.jdoc_c.specs.declared.writer.Writer.{Writer}
use Rattle.jdoc_c.specs.Handles.{Copies, GivesLines}
use Rattle.jdoc_c.specs.Statuses.{number_of}
use Rattle.jdoc_c.proofs.Handing.{handed_stays}
use Rattle.jdoc_c.proofs.held.Held.lines.Goals as goal

pub returns-in-Writes : goal.returns-in-Writes
returns-in-Writes c =
    let h = c.args.self.now in
    let w : Writer = c.in-Writes.writer in
    let status : ℕ = number_of c.in-Err.why in
    let needed : ℕ = c.hand_out.new.needed in
    let out : List ℕ = c.hand_out.new.out in
    subst (λ (r : Role). GivesLines status c.args.needed.now needed c.args.out.now out (record h { role = r })
    (record h { role = Writes w }))
    (sym c.in-Writes.is) (
      refl,
      inl (
        subst (λ (bytes : List ℕ). Copies bytes status needed c.args.out.now out)
            (c.deref.ensures.value ∙ c.in_ok-lines-in-Writes.ensures.lines) c.in-Err.ensures,
        handed_stays c.in-Err.why w,
      ),
    )
