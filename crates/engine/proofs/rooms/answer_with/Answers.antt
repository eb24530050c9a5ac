-- `engine::rooms::answer_with` meets its contract, call by call. Assumes nothing.
use native.Mathlib.Omega.{arith}
use mathlib.Core.Path.{refl, ◌∙◌}
use Rattle.answers.proofs.Verdicts.{accepted_sizes, check_accepts}
use Rattle.engine.specs.Rooms.{Owed}
use Rattle.engine.proofs.Tries.{owes_as, clash_accepts}
use Rattle.engine.proofs.rooms.answer_with.Goals as goal

pub node_count-length-requires : goal.node_count-length-requires
node_count-length-requires c = let right = accepted_sizes c.requires.accepted in omega arith

pub returns-in-Check : goal.returns-in-Check
unfolding Owed
returns-in-Check c = owes_as c.in-Check.is (record { owed = record { answer_is = c.uncounted.ensures ∙ check_accepts c.args.bytes.now _ c.requires.accepted c.node_count-length.ensures; buffer_is = refl } })

pub returns-in-Get : goal.returns-in-Get
unfolding Owed
returns-in-Get c = owes_as c.in-Get.is (record { owed = rw c.uncounted-in-Get.ensures c.get_with.ensures })

pub returns-in-Put : goal.returns-in-Put
unfolding Owed
returns-in-Put c = owes_as c.in-Put.is (record { owed = c.put_with.ensures })

pub returns-in-Create : goal.returns-in-Create
unfolding Owed
returns-in-Create c = owes_as c.in-Create.is (record { owed = rw c.uncounted-in-Create.ensures c.create_with.ensures })

pub returns-in-Line : goal.returns-in-Line
unfolding Owed
returns-in-Line c = owes_as c.in-Line.is (record { owed = rw c.uncounted-in-Line.ensures c.line_with.ensures })

pub returns-in-Clash : goal.returns-in-Clash
returns-in-Clash c = owes_as c.in-Clash.is (clash_accepts c.requires.accepted c.clashed.ensures)
