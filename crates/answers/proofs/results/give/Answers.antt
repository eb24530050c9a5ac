-- `answers::results::give` meets its contract. Assumes nothing.
use native.Mathlib.Omega.{arith}
use mathlib.Core.Path.{ap}
use Rattle.std.specs.Prelude.{Err}
use Rattle.answers.proofs.Giving.{give_short, give_long}
use Rattle.answers.proofs.results.give.Goals as goal

pub returns-then-room_in-text : goal.returns-then-room_in-text
returns-then-room_in-text c = give_long c.args.text.now (omega (arith, c.room_in.ensures, c.if-room_in-text.true)) (ap Err c.refuse.ensures)

pub returns : goal.returns
returns c = give_short (omega (arith, c.room_in.ensures, c.if-room_in-text.false)) c.write_text.ensures
