use Rattle.jdoc_c.proofs.Opening.{none_of, not_opened}
use Rattle.jdoc_c.proofs.jdoc_open.Goals as goal

pub returns-in-Err : goal.returns-in-Err
returns-in-Err c =
    let h = c.args.handle.now in
    not_opened c.args.number c.args.journal.now c.args.taken.now h.slot.held c.in-Err.why c.number-in-Err.result
    (none_of h.slot.held h.is_open h.tied c.if-handle.false) c.number-in-Err.ensures c.in-Err.ensures.err
