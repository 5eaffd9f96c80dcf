use Rattle.requests.proofs.TakenCommands.{item_meant}
use Rattle.requests.proofs.parts.take_item.Goals as goal

pub returns-in_ok-take_id_parts-in-Second : goal.returns-in_ok-take_id_parts-in-Second
returns-in_ok-take_id_parts-in-Second c =
    let taken = c.in_ok-take_id_parts-in-Second.ensures in
    (taken.0, taken.1, rw (c.in-Second.is) (item_meant taken.0 _ taken.2))
