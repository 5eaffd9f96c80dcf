use Rattle.peer_sync.proofs.SentBack.{hello_back}
use Rattle.peer_sync.proofs.SentHistories.{applied_sent}
use Rattle.peer_sync.proofs.sending.hello.Goals as goal

pub returns-clause-reads_back : goal.returns-clause-reads_back
returns-clause-reads_back g c =
    hello_back _ c.in_ok-vector.vector c.in_ok-line.line.items _ c.in_ok-vector.ensures.vector
    c.in_ok-push.ensures.items
    c.in_ok-line.ensures.reads_back
    (applied_sent g.N.EngineName.own g.N.EngineName.table c.vector.new.self.seen c.seen_len.ensures.engine)
