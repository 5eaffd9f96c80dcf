use Rattle.std.proofs.Common.{◌∙◌, ap}
use Rattle.semantics.specs.Replica.{Replica}
use Rattle.jdoc_c.proofs.Feeding.{sent_more}
use Rattle.jdoc_c.proofs.writer.send.Goals as goal

pub returns-in_err-send-clause-fed : goal.returns-in_err-send-clause-fed
returns-in_err-send-clause-fed c =
    sent_more c.document.result.now.entries c.args.desk.now.replica.entries c.args.feeds.now.feeds.items c.send.new.self.feeds.items
    (c.document.ensures.entries ∙ ap (λ (r : Replica). r.entries) c.session.ensures) c.send.ensures

pub returns-clause-fed : goal.returns-clause-fed
returns-clause-fed c =
    sent_more c.document.result.now.entries c.args.desk.now.replica.entries c.args.feeds.now.feeds.items c.send.new.self.feeds.items
    (c.document.ensures.entries ∙ ap (λ (r : Replica). r.entries) c.session.ensures) c.send.ensures
