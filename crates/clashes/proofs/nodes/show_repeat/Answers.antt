-- `clashes::nodes::show_repeat` meets its contract: the empty text, if it is a part, and else a text with two cuts. Assumes nothing.
use mathlib.Core.Path.{sym, ap, ◌∙◌}
use Rattle.automaton.specs.declared.Automaton.{Automaton}
use Rattle.clashes.proofs.Rules.{repeat_rule, repeat_asked}
use Rattle.clashes.proofs.Empty.{repeat_empty}
use Rattle.clashes.proofs.nodes.show_repeat.Goals as goal

pub returns-then-part : goal.returns-then-part
returns-then-part c = λ r n about. repeat_empty r n _ _ (sym about.part_is.nullable_is ∙ ap (λ (a : Automaton). a.nullable) (sym c.automaton_of-part.ensures) ∙ c.if-part.true) c.empty.ensures

pub show_cut-requires : goal.show_cut-requires
show_cut-requires c = let asked = repeat_asked _ _ _ c.requires.list_asked (sym c.requires.list_asked.is_rule.part_is.nullable_is ∙ ap (λ (a : Automaton). a.nullable) (sym c.automaton_of-part.ensures) ∙ c.if-part.false) in rw (c.automaton_of-part.ensures, c.automaton_of-whole.ensures) record { room = (c.requires.stands.0.room _, c.requires.stands.1.room _, c.requires.stands.1.room _); cut_asked = asked }

pub returns : goal.returns
returns c = λ r n about. c.show_cut.ensures _ n (rw (c.automaton_of-part.ensures, c.automaton_of-whole.ensures) (repeat_rule _ _ _ r about (sym about.part_is.nullable_is ∙ ap (λ (a : Automaton). a.nullable) (sym c.automaton_of-part.ensures) ∙ c.if-part.false)))
