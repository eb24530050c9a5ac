-- `readings::line::line_with` meets its contract: the line of the last node is given. Assumes nothing.
use native.Mathlib.Nat.{sub-zero}
use native.Mathlib.Omega.{arith}
use Rattle.answers.proofs.Verdicts.{accepted_sizes}
use Rattle.answers.proofs.Giving.{program_gives}
use Rattle.readings.proofs.Lines.{root_line_lem}
use Rattle.lines.proofs.Texts.{puts_as, puts_front}
use Rattle.readings.specs.Line.{line_call}
use Rattle.readings.proofs.line.line_with.Goals as goal

pub node_count-count-requires : goal.node_count-count-requires
node_count-count-requires c = let right = accepted_sizes c.requires.accepted in omega arith

pub overflow_sub-count : goal.overflow_sub-count
overflow_sub-count c = let right = accepted_sizes c.requires.accepted in omega (arith, c.node_count-count.ensures)

pub node-root-requires : goal.node-root-requires
node-root-requires c = let right = accepted_sizes c.requires.accepted in record { all_sized = c.requires.built.sized; k_bound = omega (arith, c.node_count-count.ensures) }

pub returns : goal.returns
unfolding line_call
returns c =
    let l = root_line_lem c.requires.accepted c.node_count-count.ensures c.node-root.ensures in
    let front = rw sub-zero at (puts_front (puts_as l.line_is c.put_accepted-length.ensures.puts) (omega (arith, c.put_accepted-length.ensures.short))) in
    program_gives _ c.requires.accepted (rw front at c.give.ensures)
