use Rattle.std.proofs.Common.{ap}
use Rattle.wire.specs.Bundles.{Readable}
use Rattle.wire.proofs.BundleBack.{bundle_form-lines, bundle_is_lines, readable-lines, sent_back}
use Rattle.wire.proofs.bundles.bundles_are_read_back.Goals as goal

pub returns-clause-whole : goal.returns-clause-whole
returns-clause-whole c = bundle_form-lines

pub returns-clause-operations : goal.returns-clause-operations
returns-clause-operations c base ls rest back = ap (λ (r : Readable). r.operations) (readable-lines base ls rest back)

pub returns-clause-stopped : goal.returns-clause-stopped
returns-clause-stopped c base ls rest back = ap (λ (r : Readable). r.stopped) (readable-lines base ls rest back)

pub returns-clause-sent : goal.returns-clause-sent
returns-clause-sent c = sent_back

pub returns-clause-bundle : goal.returns-clause-bundle
returns-clause-bundle c = bundle_is_lines
