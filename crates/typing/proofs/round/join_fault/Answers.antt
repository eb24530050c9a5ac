-- `typing::round::join_fault` meets its contract. Assumes nothing.
use mathlib.Core.Path.{sym, ◌∙◌}
use Rattle.semantics.specs.Table.{typing_lines}
use Rattle.automaton.specs.declared.Side.TheVariants.{Source, Sheet}
use Rattle.automaton.specs.Rows.{side_of}
use Rattle.typing.proofs.Faults.{no_line, line_holds, line_passed}
use Rattle.typing.proofs.round.join_fault.Goals as goal

pub returns-then-cut_twice : goal.returns-then-cut_twice
unfolding typing_lines side_of
returns-then-cut_twice c l m p q = line_holds 7 c.args.k _ _ (sym (c.cut_twice.ensures _ _ (p.each Source) (q.each Source)) ∙ c.if-cut_twice.true)

pub returns-then-cut_twice-2 : goal.returns-then-cut_twice-2
unfolding typing_lines side_of
returns-then-cut_twice-2 c l m p q = line_passed 7 c.args.k _ _ (sym (c.cut_twice.ensures _ _ (p.each Source) (q.each Source)) ∙ c.if-cut_twice.false) (line_holds 8 c.args.k _ _ (sym (c.cut_twice-2.ensures _ _ (p.each Sheet) (q.each Sheet)) ∙ c.if-cut_twice-2.true))

pub returns : goal.returns
unfolding typing_lines side_of
returns c l m p q = line_passed 7 c.args.k _ _ (sym (c.cut_twice.ensures _ _ (p.each Source) (q.each Source)) ∙ c.if-cut_twice.false) (line_passed 8 c.args.k _ _ (sym (c.cut_twice-2.ensures _ _ (p.each Sheet) (q.each Sheet)) ∙ c.if-cut_twice-2.false) no_line)
