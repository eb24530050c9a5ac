-- `typing::round::repeat_fault` meets its contract. Assumes nothing.
use mathlib.Core.Path.{sym, ◌∙◌}
use Rattle.semantics.specs.Lens.{language}
use Rattle.semantics.specs.Table.{typing_lines}
use Rattle.automaton.specs.declared.Side.TheVariants.{Source, Sheet}
use Rattle.automaton.specs.Rows.{side_of}
use Rattle.typing.proofs.Faults.{no_line, line_holds, line_passed}
use Rattle.typing.proofs.round.repeat_fault.Goals as goal

pub returns-then-fails : goal.returns-then-fails
unfolding typing_lines side_of language
returns-then-fails c l p q = line_holds 10 c.args.k _ _ (sym (c.fails.ensures _ (p.each Source) (q.each Source)) ∙ c.if-fails.true)

pub returns-then-fails-2 : goal.returns-then-fails-2
unfolding typing_lines side_of language
returns-then-fails-2 c l p q = line_passed 10 c.args.k _ _ (sym (c.fails.ensures _ (p.each Source) (q.each Source)) ∙ c.if-fails.false) (line_holds 11 c.args.k _ _ (sym (c.fails-2.ensures _ (p.each Sheet) (q.each Sheet)) ∙ c.if-fails-2.true))

pub returns : goal.returns
unfolding typing_lines side_of language
returns c l p q = line_passed 10 c.args.k _ _ (sym (c.fails.ensures _ (p.each Source) (q.each Source)) ∙ c.if-fails.false) (line_passed 11 c.args.k _ _ (sym (c.fails-2.ensures _ (p.each Sheet) (q.each Sheet)) ∙ c.if-fails-2.false) no_line)
