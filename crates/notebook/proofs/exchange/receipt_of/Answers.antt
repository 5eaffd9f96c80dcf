use Rattle.semantics.proofs.GrownEngines.{begins_trans}
use Rattle.notebook.proofs.exchange.receipt_of.Goals as goal

pub returns-in_err-why : goal.returns-in_err-why
returns-in_err-why g c =
    begins_trans c.refusal_of.new.client.seen c.loop-number.client.seen c.args.client.now.seen c.in_err-why.ensures c.loop-number.invariant

pub loop-number-preserved : goal.loop-number-preserved
loop-number-preserved g c =
    begins_trans c.refusal_of.new.client.seen c.loop-number.client.seen c.args.client.now.seen c.in_ok-why.ensures c.loop-number.invariant
