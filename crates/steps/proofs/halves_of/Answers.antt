-- `steps::halves_of` meets its contract: the border of a path is within it. Assumes nothing.
use native.Mathlib.Omega.{arith}
use Rattle.steps.proofs.Answers.{few_count, trail_lent, cut_within}
use Rattle.steps.proofs.halves_of.Goals as goal

pub overflow_add-mid : goal.overflow_add-mid
overflow_add-mid c =
    omega (arith, few_count c.automaton_of-a.ensures c.requires.prepared.0, c.requires.prepared.1.based)

pub overflow_add-result : goal.overflow_add-result
overflow_add-result c =
    let within = cut_within c.args.deck.now c.args.place.start c.args.place.len _ _ c.border-i.ensures in omega (arith, within, c.requires.prepared.1.inside)

pub overflow_sub-result : goal.overflow_sub-result
overflow_sub-result c =
    cut_within c.args.deck.now c.args.place.start c.args.place.len _ _ c.border-i.ensures

pub returns : goal.returns
returns c =
    rw (c.border-i.ensures, trail_lent c.args.deck.now c.args.place.start c.args.place.len, c.automaton_of-a.ensures)
