-- `automaton::first_shared` meets its contract: a letter is asked of the other position, two classes are compared. Assumes nothing.
use Rattle.automaton.proofs.Standing.{first_letter, first_of_classes, first_turned}
use Rattle.automaton.proofs.first_shared.Goals as goal

pub returns-then-a-lt256 : goal.returns-then-a-lt256
returns-then-a-lt256 c = first_letter c.args.prepared.now c.args.row c.args.other c.if-a-lt256.true _ c.stands_or_none.ensures

pub returns-then-b-lt256 : goal.returns-then-b-lt256
returns-then-b-lt256 c = first_turned c.args.prepared.now c.args.other c.args.row _ (first_letter c.args.prepared.now c.args.other c.args.row c.if-b-lt256.true _ c.stands_or_none-then-b-lt256.ensures)

pub returns : goal.returns
returns c = first_of_classes c.args.prepared.now c.args.row c.args.other c.if-a-lt256.false c.if-b-lt256.false c.class_at-class.ensures c.class_at.ensures _ c.first_shared.ensures
