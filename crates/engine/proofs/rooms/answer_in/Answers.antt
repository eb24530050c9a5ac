-- `engine::rooms::answer_in` meets its contract: each room that is too small leads to a larger one, and the last never is. Assumes nothing.
use borrow.Author.Rules.{rules}
use Rattle.engine.proofs.Tries.{done, goes_on, always_done}
use Rattle.engine.proofs.rooms.answer_in.Goals as goal

pub returns-in-Some : goal.returns-in-Some
returns-in-Some c = done c.try_in_room.ensures c.in-Some.is

pub returns-in-Some-try_in_room : goal.returns-in-Some-try_in_room
returns-in-Some-try_in_room c = goes_on c.try_in_room.ensures (search rules) (done c.try_in_room-2.ensures c.in-Some-try_in_room.is)

pub unwrap-requires : goal.unwrap-requires
unwrap-requires c = always_done c.try_in_room-3.ensures

pub returns : goal.returns
returns c =
    goes_on
    c.try_in_room.ensures
    (search rules)
    (goes_on c.try_in_room-2.ensures (search rules) (done c.try_in_room-3.ensures c.unwrap.ensures))
