-- Lines that don't fit aren't handed out.
use Rattle.std.proofs.Common.{◌≡◌, ◌==◌, if◌then◌else◌, length, refl}
use Rattle.jdoc_c.specs.declared.status.Status.{Status}
use Rattle.jdoc_c.specs.declared.status.Status.TheVariants.{NoMemory, TooShort, Closed, WasOpen, BadNumber, Unfit, WrongKind}
use Rattle.jdoc_c.specs.declared.writer.Writer.{Writer}
use Rattle.jdoc_c.specs.Statuses.{number_of}

pub handed_stays : (why : Status) (w : Writer)
    → w ≡ record w { handed = if number_of why == 0 then length w.desk.replica.entries else w.handed }
handed_stays NoMemory w = refl
handed_stays TooShort w = refl
handed_stays Closed w = refl
handed_stays WasOpen w = refl
handed_stays BadNumber w = refl
handed_stays Unfit w = refl
handed_stays WrongKind w = refl
