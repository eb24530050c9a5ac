-- `readings::reading::give_read` meets its contract, from what reading off the root writes. Assumes nothing.
use Rattle.std.proofs.Common.{rules, ◌≡◌, arith, ap, ◌∙◌, length, take, ℕ, length-take}
use lib.ListN.{length-replicate}
use Rattle.answers.proofs.Giving.{root_node, made_counted, made_given}
use Rattle.readings.proofs.Texts.{root_reads}
use Rattle.readings.proofs.reading.give_read.Goals as goal

pub emit-wrote-requires : goal.emit-wrote-requires
emit-wrote-requires c = record { lens_node = root_node c.requires.ready c.root_of-root.ensures; parsed = rw c.root_of-root.ensures c.requires.text_ready.parsed }

pub finish-requires : goal.finish-requires
finish-requires c = made_counted c.requires.ready.accepted (root_reads c.requires.ready c.root_of-root.ensures c.requires.mode_value c.emit-wrote.ensures)

pub returns : goal.returns
returns c =
    let all : length c.filled-result.result ≡ 4096 = ap length c.filled-result.ensures ∙ length-replicate {A = ℕ} 4096 0 in
    let room : length c.emit-wrote.new.out ≡ length (take c.room_in-room.result c.filled-result.result) = search rules in
    made_given
    (omega (arith, rw length-take at room, all, c.room_in-room.ensures))
    c.finish.ensures
    (root_reads c.requires.ready c.root_of-root.ensures c.requires.mode_value c.emit-wrote.ensures)
