-- `clashes::side_of` meets its contract. Assumes nothing.
use borrow.Author.Rules.{rules}
use Rattle.automaton.specs.Rows.{side_of}
use Rattle.clashes.proofs.Answering.{sheet_side, source_side}
use Rattle.clashes.proofs.side_of.Goals as goal

pub returns-in-8 : goal.returns-in-8
unfolding side_of
returns-in-8 c = sheet_side c.args.number c.in-8.is

pub returns-in_default : goal.returns-in_default
unfolding side_of
returns-in_default c = source_side c.args.number (search rules)
