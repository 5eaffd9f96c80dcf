use Rattle.std.proofs.Common.{◌≡◌, ◌⊎◌, ℕ, List, [], Some, map}
use Rattle.ids.specs.declared.refusal.Refusal.TheVariants.{NoMemory}
use Rattle.semantics.specs.Engine.{Engine as TheEngine}
use Rattle.replica.specs.operation.Ops.{stamped_of}
use Rattle.wire.specs.Bundles.{readable}
use Rattle.world.proofs.ReachedWorlds.{reached_sound}
use Rattle.world.proofs.StoppedReceipts.{lines_stopped}
use Rattle.world.proofs.Results.{then_err}
use Rattle.world.proofs.engine.Engine.line.Goals as goal

pub returns-clause-stopped : goal.returns-clause-stopped
returns-clause-stopped c =
    let A : TheEngine = c.args.self.now in
    let text : List ℕ = c.args.text.now in
    let ops = c.read_lines-read.result.ops.items in
    let got = c.read_lines-read.result.stopped in
    let read : (got ≡ Some NoMemory) ⊎ ((map stamped_of ops ≡ (readable [] text).operations) × (got ≡ (readable [] text).stopped)) =
    c.read_lines-read.ensures.read in
    then_err c.receive.result
    (λ part. lines_stopped A c.receive.new.self c.args.client (readable [] text).operations (map stamped_of ops)
    (readable [] text).stopped got (reached_sound A c.requires.reached) read part)
    c.receive.ensures.stopped
