use Rattle.tree.proofs.Grown.{kept_trans}
use Rattle.tree.proofs.grow.make_child.Goals as goal

pub returns-in_err-number-in-Field-clause-kept : goal.returns-in_err-number-in-Field-clause-kept
returns-in_err-number-in-Field-clause-kept c = kept_trans c.reserve_child.ensures.kept c.push_node.ensures.kept

pub returns-in_ok-number-in-Field-clause-kept : goal.returns-in_ok-number-in-Field-clause-kept
returns-in_ok-number-in-Field-clause-kept c = kept_trans (kept_trans c.reserve_child.ensures.kept c.push_node.ensures.kept)
    c.link_field.ensures.kept

pub returns-in_err-number-in-Item-clause-kept : goal.returns-in_err-number-in-Item-clause-kept
returns-in_err-number-in-Item-clause-kept c = kept_trans c.reserve_child.ensures.kept c.push_node-in-Item.ensures.kept

pub returns-in_ok-number-in-Item-clause-kept : goal.returns-in_ok-number-in-Item-clause-kept
returns-in_ok-number-in-Item-clause-kept c = kept_trans (kept_trans c.reserve_child.ensures.kept c.push_node-in-Item.ensures.kept)
    c.link_item.ensures.kept
