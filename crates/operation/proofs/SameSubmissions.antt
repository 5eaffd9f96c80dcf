-- Submissions that the test calls the same are the same in the definitions.
use Rattle.std.proofs.Common.{◌≡◌, ◌&&◌, ◌==◌, true, refl, sym, ap, true≢false, eqb-true, eq-eqb}
use Rattle.std.proofs.lemmas.Bool.{and_parts}
use Rattle.semantics.specs.LegalAnswer.{OfCommand, OfPeer}
use Rattle.operation.specs.SameOps.{command_decides, operation_decides}
use Rattle.operation.specs.Ops.{command_of, stamped_of}
use Rattle.operation.specs.declared.submission.Submission.{Submission}
use Rattle.operation.specs.declared.submission.Request.{Request}
use Rattle.operation.specs.declared.submission.Request.TheVariants.{Command, Peer}
use Rattle.operation.specs.Submissions.{request_of, submitted_of}
use Rattle.operation.specs.SameSubmissions.{is_same_submission, is_same_request}

one_request : (q r : Request) → is_same_request q r ≡ true → request_of q ≡ request_of r
one_request (Command c) (Command d) h = ap OfCommand ((command_decides (command_of c) (command_of d)).0 h)
one_request (Peer o) (Peer p) h = ap OfPeer ((operation_decides (stamped_of o) (stamped_of p)).0 h)
one_request (Command c) (Peer p) h = absurd (true≢false (sym h))
one_request (Peer o) (Command d) h = absurd (true≢false (sym h))

pub one_submission : (x y : Submission) → is_same_submission x y ≡ true → submitted_of x ≡ submitted_of y
one_submission x y h =
    let t = and_parts ((x.client == y.client) && (x.serial == y.serial) && (x.floor == y.floor)) (is_same_request x.request y.request) h in
    let u = and_parts ((x.client == y.client) && (x.serial == y.serial)) (x.floor == y.floor) t.0 in
    let v = and_parts (x.client == y.client) (x.serial == y.serial) u.0 in
    let client = eqb-true x.client y.client v.0 in
    let serial = eqb-true x.serial y.serial v.1 in
    let floor = eqb-true x.floor y.floor u.1 in
    let request = one_request x.request y.request t.1 in
    λ i. record { client = client i; serial = serial i; request = request i; floor = floor i }

same_request : (q : Request) → is_same_request q q ≡ true
same_request (Command c) = (command_decides (command_of c) (command_of c)).1 refl
same_request (Peer o) = (operation_decides (stamped_of o) (stamped_of o)).1 refl

-- every submission is the same as itself
pub same_submission : (x : Submission) → is_same_submission x x ≡ true
same_submission x = rw (eq-eqb x.client x.client refl, eq-eqb x.serial x.serial refl, eq-eqb x.floor x.floor refl) (same_request x.request)
