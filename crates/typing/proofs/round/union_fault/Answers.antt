-- `typing::round::union_fault` meets its contract. Assumes nothing.
use mathlib.Core.Path.{sym, ◌∙◌}
use Rattle.semantics.specs.Lens.{source, language}
use Rattle.semantics.specs.Table.{typing_lines}
use Rattle.laws.specs.Decided.{overlaps_iff}
use Rattle.automaton.specs.declared.Side.TheVariants.{Source}
use Rattle.automaton.specs.Rows.{side_of}
use Rattle.typing.proofs.Faults.{same_answer, no_line, line_holds, line_passed, read_room, read_speaks}
use Rattle.typing.proofs.round.union_fault.Goals as goal

pub overlap-requires : goal.overlap-requires
overlap-requires c = record { room = read_room c.automaton_of-a.ensures (c.requires.stands.room Source); room_2 = read_room c.automaton_of-b.ensures (c.requires.stands_2.room Source) }

pub returns-then-overlap : goal.returns-then-overlap
unfolding typing_lines side_of
returns-then-overlap c l m p q = line_holds 9 c.args.k _ _ (sym (same_answer _ _ (c.overlap.ensures (language source l) (language source m) (read_speaks c.automaton_of-a.ensures (p.each Source)) (read_speaks c.automaton_of-b.ensures (q.each Source))) (overlaps_iff _ _)) ∙ c.if-overlap.true)

pub returns : goal.returns
unfolding typing_lines side_of
returns c l m p q = line_passed 9 c.args.k _ _ (sym (same_answer _ _ (c.overlap.ensures (language source l) (language source m) (read_speaks c.automaton_of-a.ensures (p.each Source)) (read_speaks c.automaton_of-b.ensures (q.each Source))) (overlaps_iff _ _)) ∙ c.if-overlap.false) no_line
