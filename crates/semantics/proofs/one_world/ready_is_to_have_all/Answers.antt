use Rattle.semantics.specs.Stamped.{operations_of}
use Rattle.semantics.proofs.NamedOperations.{legal}
use Rattle.semantics.proofs.ReadyThere.{ready_where_there, there_where_ready}
use Rattle.semantics.proofs.one_world.ready_is_to_have_all.Goals as goal

pub returns : goal.returns
returns c = λ H F s o lh lf w m. (
  there_where_ready w.all w.legal (operations_of H) (operations_of F) (legal H lh) w.first w.second s o m
      (legal F lf),
  ready_where_there w.all w.legal (operations_of H) (operations_of F) (legal H lh) w.first w.second s o m,
)
