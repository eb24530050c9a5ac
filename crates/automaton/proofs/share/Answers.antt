-- `automaton::share` meets its contract: a letter is asked of the other position, two classes are compared. Assumes nothing.
use Rattle.automaton.proofs.Standing.{share_first, share_second, share_classes}
use mathlib.Core.Path.{◌∙◌}
use Rattle.automaton.proofs.share.Goals as goal

pub returns-then-a-lt256 : goal.returns-then-a-lt256
returns-then-a-lt256 c = c.stands.ensures ∙ share_first c.args.prepared.now c.args.row c.args.other c.if-a-lt256.true

pub returns-then-b-lt256 : goal.returns-then-b-lt256
returns-then-b-lt256 c = c.stands-then-b-lt256.ensures ∙ share_second c.args.prepared.now c.args.row c.args.other c.if-b-lt256.true

pub returns : goal.returns
returns c = share_classes c.args.prepared.now c.args.row c.args.other c.if-a-lt256.false c.if-b-lt256.false c.class_at-class.ensures c.class_at.ensures c.meets.result c.meets.ensures
