-- `quests::fill_fresh` meets its contract. Assumes nothing.
use Rattle.quests.proofs.Filling.{fresh_of}
use Rattle.quests.proofs.fill_fresh.Goals as goal

pub returns : goal.returns
returns c =
    let pre = c.requires in
    fresh_of pre.rooms.part_room.few pre.cleared c.open_rows.ensures c.open_rows-2.ensures
